-- Lists that are made frame by frame.
use Rattle.frame_decoder.proofs.Common.{◌≡◌, ℕ, zero, suc, ◌+◌, ◌*◌, ◌<◌, ◌≤◌, List, ◌++◌, length, take, drop, sym, ap, ◌∙◌, arith, places}
use Rattle.frame_decoder.proofs.Common.{length-append, flat_map, flat_map-next, flat_map-zero, take-add}

-- a frame lies within the span
pub within : (size frames k : ℕ) → k < frames → size * k + size ≤ size * frames
within size zero k h = absurd (omega (arith, h))
within size (suc frames) zero h =
    let some : size * suc frames ≡ size + size * frames = omega arith in
    omega (arith, some)
within size (suc frames) (suc k) h =
    let rest = within size frames k (omega (arith, h)) in
    let one : size * suc frames ≡ size + size * frames = omega arith in
    let other : size * suc k ≡ size + size * k = omega arith in
    omega (arith, rest, one, other)

-- what is made frame by frame is as long as its frames
pub length-frames : {A : Type 0} (f : ℕ → List A) (size n : ℕ) → ((k : ℕ) → length (f k) ≡ size) →
    length (flat_map f (places n)) ≡ size * n
length-frames f size zero each =
    let none : size * 0 ≡ 0 = omega arith in
    ap length (flat_map-zero f) ∙ sym none
length-frames f size (suc n) each =
    let rest = length-frames f size n each in
    let here = each n in
    ap length (flat_map-next f n) ∙ length-append (flat_map f (places n)) (f n)
    ∙ omega (arith, rest, here)

-- the first frames, and one more
pub take-frames : {A : Type 0} (xs : List A) (size n : ℕ) →
    take (size * suc n) xs ≡ take (size * n) xs ++ take size (drop (size * n) xs)
take-frames xs size n =
    let place : size * suc n ≡ size * n + size = omega arith in
    ap (λ (k : ℕ). take k xs) place ∙ take-add (size * n) size xs
