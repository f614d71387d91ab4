-- Neighbours parted into two vectors.
use Rattle.viterbi.proofs.Common.{◌≡◌, ℕ, zero, suc, ◌+◌, ◌-◌, ◌*◌, ◌<◌, ◌≤◌, List, [], ◌∷◌, ◌++◌, map, length, get_or, refl, ap, ◌∙◌, ℤ}
use Rattle.viterbi.proofs.Common.{arith, pos, to_z, of_z, w64, FitsSigned, ⊎_elim, to_z-of_z, get_or-map, get_or_append_left, length-map}
use Rattle.viterbi.proofs.Common.{get_or-append_right, length-chunk, get_or-chunk, cases_lt, chunk}

-- two vectors of n entries
abbrev pub two_chunks : ℕ → List ℤ → ℕ → List ℕ
two_chunks n column at = map (of_z w64) (chunk at n column) ++ map (of_z w64) (chunk (at + n) n column)

one : (n : ℕ) (column : List ℤ) (at j : ℕ) → at + n ≤ length column → j < n →
    get_or (map (of_z w64) (chunk at n column)) j 0 ≡ of_z w64 (get_or column (at + j) (pos 0))
one n column at j room b =
    let long = length-chunk at n column room in
    get_or-map (of_z w64) (chunk at n column) j (pos 0) 0 (omega (arith, b, long))
    ∙ ap (of_z w64) (get_or-chunk at n column j (pos 0) b)

size_of : (n : ℕ) (column : List ℤ) (at : ℕ) → at + n ≤ length column → length (map (of_z w64) (chunk at n column)) ≡ n
size_of n column at room = length-map (chunk at n column) (of_z w64) ∙ length-chunk at n column room

-- Lane `j` of two vectors of a column from `at` on is the column's value `at + j`, since the second
-- goes on where the first ends, and a value that fits into 64 bits is read as it was written.
pub lane_read : (n : ℕ) (column : List ℤ) (at j : ℕ) → at + (n + n) ≤ length column → j < n + n →
    FitsSigned w64 (get_or column (at + j) (pos 0)) →
    to_z w64 (get_or (two_chunks n column at) j 0) ≡ get_or column (at + j) (pos 0)
lane_read n column at j room b fits =
    let first : at + n ≤ length column = omega (arith, room) in
    let second : at + n + n ≤ length column = omega (arith, room) in
    ⊎_elim
    (λ low. ap (to_z w64)
    (get_or_append_left (map (of_z w64) (chunk at n column)) (map (of_z w64) (chunk (at + n) n column)) 0
    j (omega (arith, low, size_of n column at first))
    ∙ one n column at j first low) ∙ to_z-of_z w64 _ fits)
    (λ high. let place : at + n + (j - n) ≡ at + j = omega (arith, high) in
    ap (to_z w64)
    (get_or-append_right (map (of_z w64) (chunk at n column)) (map (of_z w64) (chunk (at + n) n column)) n
    j 0 (size_of n column at first) high
    ∙ one n column (at + n) (j - n) second (omega (arith, b, high))
    ∙ ap (λ (i : ℕ). of_z w64 (get_or column i (pos 0))) place) ∙ to_z-of_z w64 _ fits)
    (cases_lt j n)

pub evens : (f : ℕ → ℤ) (l : ℕ) → l < 8 →
    get_or (f 0 ∷ f 2 ∷ f 4 ∷ f 6 ∷ f 8 ∷ f 10 ∷ f 12 ∷ f 14 ∷ []) l (pos 0) ≡ f (2 * l)
evens f zero b = refl
evens f (suc zero) b = refl
evens f (suc (suc zero)) b = refl
evens f (suc (suc (suc zero))) b = refl
evens f (suc (suc (suc (suc zero)))) b = refl
evens f (suc (suc (suc (suc (suc zero))))) b = refl
evens f (suc (suc (suc (suc (suc (suc zero)))))) b = refl
evens f (suc (suc (suc (suc (suc (suc (suc zero))))))) b = refl
evens f (suc (suc (suc (suc (suc (suc (suc (suc l)))))))) b = absurd (omega (arith, b))

pub odds : (f : ℕ → ℤ) (l : ℕ) → l < 8 →
    get_or (f 1 ∷ f 3 ∷ f 5 ∷ f 7 ∷ f 9 ∷ f 11 ∷ f 13 ∷ f 15 ∷ []) l (pos 0) ≡ f (2 * l + 1)
odds f l b = evens (λ (j : ℕ). f (j + 1)) l b
