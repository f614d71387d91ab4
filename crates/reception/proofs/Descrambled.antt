-- Soft values descrambled one by one.
use Rattle.reception.proofs.Common.{◌≡◌, ℕ, zero, suc, ◌+◌, ◌<◌, Bool, false, List, [], ◌∷◌, ◌++◌, length, take, drop, refl, ap, ◌∙◌, arith}
use Rattle.reception.proofs.Common.{ℤ, pos, ◌*ℤ◌, get_or, slice_set, sign, descrambled}

-- the value at a place, where those before it have been descrambled
pub still : (bits : List Bool) (old : List ℤ) (i : ℕ) → i < length bits → i < length old →
    get_or (descrambled (take i bits) (take i old) ++ drop i old) i (pos 0) ≡ get_or old i (pos 0)
still [] old i few many = absurd (omega arith)
still (b ∷ bits) [] i few many = absurd (omega arith)
still (b ∷ bits) (x ∷ old) zero few many = refl
still (b ∷ bits) (x ∷ old) (suc i) few many = still bits old i (omega arith) (omega arith)

-- one more is descrambled
descrambled_at : (bits : List Bool) (old : List ℤ) (i : ℕ) → i < length bits → i < length old →
    slice_set (descrambled (take i bits) (take i old) ++ drop i old) i
    (sign (get_or bits i false) *ℤ get_or old i (pos 0))
    ≡ descrambled (take (i + 1) bits) (take (i + 1) old) ++ drop (i + 1) old
descrambled_at [] old i few many = absurd (omega arith)
descrambled_at (b ∷ bits) [] i few many = absurd (omega arith)
descrambled_at (b ∷ bits) (x ∷ old) zero few many = refl
descrambled_at (b ∷ bits) (x ∷ old) (suc i) few many =
    let e : suc i + 1 ≡ suc (i + 1) = omega arith in
    rw e (ap (λ (xs : List ℤ). (sign b *ℤ x) ∷ xs) (descrambled_at bits old i (omega arith) (omega arith)))

pub descrambled_more : (bits : List Bool) (old now : List ℤ) (i : ℕ) (v : ℤ) → i < length bits →
    i < length old → now ≡ descrambled (take i bits) (take i old) ++ drop i old →
    v ≡ sign (get_or bits i false) *ℤ get_or now i (pos 0) →
    slice_set now i v ≡ descrambled (take (i + 1) bits) (take (i + 1) old) ++ drop (i + 1) old
descrambled_more bits old now i v few many is v_is =
    let here : get_or now i (pos 0) ≡ get_or old i (pos 0) =
    ap (λ (xs : List ℤ). get_or xs i (pos 0)) is ∙ still bits old i few many in
    let turn : v ≡ sign (get_or bits i false) *ℤ get_or old i (pos 0) =
    v_is ∙ ap (λ (x : ℤ). sign (get_or bits i false) *ℤ x) here in
    ap (λ (xs : List ℤ). slice_set xs i v) is
    ∙ ap (slice_set (descrambled (take i bits) (take i old) ++ drop i old) i) turn
    ∙ descrambled_at bits old i few many
