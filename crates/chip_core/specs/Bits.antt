-- Bits in order, the binary numbers that they spell, and their signs on the air.
use Rattle.std.specs.Prelude.{ℕ, zero, suc, ◌+◌, ◌*◌, ◌/◌, ◌%◌, ◌^◌, Bool, true, false, cond, not}
use Rattle.std.specs.Prelude.{if◌then◌else◌, List, [], ◌∷◌, ◌++◌, ◌==◌, ℤ, pos, negsuc}
use Rattle.std.specs.List.{range_with_len}

-- 1 for a set bit, and 0 for a clear one
abbrev pub digit : Bool → ℕ
digit b = cond b 1 0

-- the sum modulo 2
abbrev pub xor : Bool → Bool → Bool
xor a b = cond a (not b) b

-- the sum modulo 2 of all bits
abbrev pub parity : List Bool → Bool
parity [] = false
parity (b ∷ bs) = xor b (parity bs)

-- whether two lists are the same
abbrev pub are_same : List Bool → List Bool → Bool
are_same [] [] = true
are_same [] (y ∷ ys) = false
are_same (x ∷ xs) [] = false
are_same (x ∷ xs) (y ∷ ys) = if xor x y then false else are_same xs ys

-- the number that the bits spell, the highest first
abbrev pub number_from : ℕ → List Bool → ℕ
number_from n [] = n
number_from n (b ∷ bs) = number_from (2 * n + digit b) bs

abbrev pub number : List Bool → ℕ
number bs = number_from 0 bs

-- the lowest n binary digits of a number, the highest first
unfoldable pub binary : ℕ → ℕ → List Bool
binary zero n = []
binary (suc width) n = binary width (n / 2) ++ (n % 2 == 1) ∷ []

-- `f` applied place by place, as long as the shorter list
abbrev pub zip_with : {A B C : Type 0} → (A → B → C) → List A → List B → List C
zip_with f [] ys = []
zip_with f (x ∷ xs) [] = []
zip_with f (x ∷ xs) (y ∷ ys) = f x y ∷ zip_with f xs ys

-- the parity of the places where both lists have a 1
abbrev pub common_parity : List Bool → List Bool → Bool
common_parity xs ys = parity (zip_with (λ a b. cond a b false) xs ys)

-- +1 for a 0 and -1 for a 1
abbrev pub sign : Bool → ℤ
sign b = cond b (negsuc 0) (pos 1)

-- 0, 1, .. below n
unfoldable pub places : ℕ → List ℕ
places n = range_with_len 0 n

-- whether bit k of a number is set
abbrev pub bit_of : ℕ → ℕ → Bool
bit_of n k = n / 2 ^ k % 2 == 1
