-- A register of coefficients that takes one bit after another, against long division.
use Rattle.quality_bits.proofs.Common.{◌≡◌, suc, ◌-◌, ◌<◌, Bool, true, false, cond, List, [], ◌∷◌, ◌++◌, length, replicate, refl, sym, ap}
use Rattle.quality_bits.proofs.Common.{◌∙◌, arith, length-append, length-replicate, xor, add, xor_assoc, length_add}
use Rattle.chip_core.proofs.RegisterBits.{xor_false}
use Rattle.chip_core.specs.Polynomial.{plus_at_front, divided, remainder}

-- one bit into the register
abbrev pub pushed : List Bool → List Bool → Bool → List Bool
pushed below [] bit = []
pushed below (lead ∷ rest) bit = cond (xor bit lead) (add (rest ++ false ∷ []) below) (rest ++ false ∷ [])

abbrev pub pushed_all : List Bool → List Bool → List Bool → List Bool
pushed_all below register [] = register
pushed_all below register (bit ∷ bits) = pushed_all below (pushed below register bit) bits

-- a zero after the second list changes nothing where the first is longer
following : (xs rest : List Bool) → length rest < length xs →
    plus_at_front xs (rest ++ false ∷ []) ≡ plus_at_front xs rest
following [] rest h = absurd (omega (arith, h))
following (x ∷ xs) [] h = ap (λ b. b ∷ xs) (xor_false x)
following (x ∷ xs) (r ∷ rest) h = ap (λ (ys : List Bool). xor x r ∷ ys) (following xs rest (omega (arith, h)))

-- two sums at the front are one
twice : (xs a b : List Bool) → length a ≡ length b → plus_at_front (plus_at_front xs a) b ≡ plus_at_front xs (add a b)
twice [] [] [] h = refl
twice [] (a ∷ as') (b ∷ bs) h = refl
twice xs [] (b ∷ bs) h = absurd (omega (arith, h))
twice xs (a ∷ as') [] h = absurd (omega (arith, h))
twice (x ∷ xs) [] [] h = refl
twice (x ∷ xs) (a ∷ as') (b ∷ bs) h =
    let head = xor_assoc x a b in
    let tail = twice xs as' bs (omega (arith, h)) in
    cc

length_picked : (below back : List Bool) (b : Bool) → length back ≡ length below →
    length (cond b (add back below) back) ≡ length below
length_picked below back true h = length_add back below h ∙ h
length_picked below back false h = h

zeros_part : (register : List Bool) → plus_at_front (replicate (length register) false) register ≡ register
zeros_part [] = refl
zeros_part (r ∷ register) = ap (λ (ys : List Bool). r ∷ ys) (zeros_part register)

-- one coefficient is divided away
one_lead : (below xs rest : List Bool) (x : Bool) → length (rest ++ false ∷ []) ≡ length below →
    length rest < length xs → cond x (plus_at_front (plus_at_front xs rest) below) (plus_at_front xs rest) ≡
    plus_at_front xs (cond x (add (rest ++ false ∷ []) below) (rest ++ false ∷ []))
one_lead below xs rest true long room =
    ap (λ (ys : List Bool). plus_at_front ys below) (sym (following xs rest room)) ∙
    twice xs (rest ++ false ∷ []) below long
one_lead below xs rest false long room = sym (following xs rest room)

-- long division of the bits and zeros after them, with the register added at the front
pub divided_pushed : (below bits register : List Bool) → 0 < length below → length register ≡ length below →
    divided (length bits) below (plus_at_front (bits ++ replicate (length below) false) register) ≡
    pushed_all below register bits
divided_pushed below [] register some h = rw (← h) (zeros_part register)
divided_pushed below (bit ∷ bits) [] some h = absurd (omega (arith, some, h))
divided_pushed below (bit ∷ bits) (lead ∷ rest) some h =
    let zeros = replicate (length below) false in
    let back = rest ++ false ∷ [] in
    let back_long : length back ≡ length below = length-append rest (false ∷ []) ∙
    omega (arith, h) in
    let room : length rest < length (bits ++ zeros) =
    omega (arith, h, length-append bits zeros, length-replicate (length below) false) in
    ap (divided (length bits) below) (one_lead below (bits ++ zeros) rest (xor bit lead) back_long room)
    ∙ divided_pushed below bits (cond (xor bit lead) (add back below) back) some
    (length_picked below back (xor bit lead) back_long)

length_front : (xs ys : List Bool) → length (plus_at_front xs ys) ≡ length xs
length_front [] [] = refl
length_front [] (y ∷ ys) = refl
length_front (x ∷ xs) [] = refl
length_front (x ∷ xs) (y ∷ ys) = ap suc (length_front xs ys)

-- the check is what the register holds after all bits
pub remainder_pushed : (below bits register : List Bool) → 0 < length below → length register ≡ length below →
    remainder below (plus_at_front (bits ++ replicate (length below) false) register) ≡ pushed_all below register bits
remainder_pushed below bits register some h =
    let xs = bits ++ replicate (length below) false in
    let count : length (plus_at_front xs register) - length below ≡ length bits =
    omega (
      arith,
      length_front xs register,
      length-append bits (replicate (length below) false),
      length-replicate (length below) false,
    ) in
    rw count (divided_pushed below bits register some h)

length_pushed : (below register : List Bool) (bit : Bool) → length register ≡ length below →
    0 < length below → length (pushed below register bit) ≡ length below
length_pushed below [] bit h some = absurd (omega (arith, h, some))
length_pushed below (lead ∷ rest) bit h some =
    length_picked below (rest ++ false ∷ []) (xor bit lead) (length-append rest (false ∷ []) ∙
    omega (arith, h))

pub length_pushed_all : (below register bits : List Bool) → length register ≡ length below →
    0 < length below → length (pushed_all below register bits) ≡ length below
length_pushed_all below register [] h some = h
length_pushed_all below register (bit ∷ bits) h some =
    length_pushed_all below (pushed below register bit) bits (length_pushed below register bit h some) some

-- one bit more at the end
pub pushed_all-push : (below register bits : List Bool) (bit : Bool) →
    pushed_all below register (bits ++ bit ∷ []) ≡ pushed below (pushed_all below register bits) bit
pushed_all-push below register [] bit = refl
pushed_all-push below register (b ∷ bits) bit = pushed_all-push below (pushed below register b) bits bit
