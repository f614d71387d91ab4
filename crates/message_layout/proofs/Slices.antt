-- Bits of a slice against those of its list.
use Rattle.message_layout.proofs.Common.{◌≡◌, ℕ, ◌+◌, ◌-◌, ◌≤◌, Bool, List, take, drop, sym, ap, ◌∙◌, arith, drop-drop, drop-take}
use Rattle.message_layout.proofs.Common.{take-take}

-- A part of a slice is the part of the list as far past the slice's start, where it lies within the
-- slice: cutting the list off after the slice takes nothing of it away.
pub slice_part : (start count from n : ℕ) (bits : List Bool) → from + n ≤ count →
    take n (drop (start + from) bits) ≡ take n (drop from (take count (drop start bits)))
slice_part start count from n bits h =
    let following = drop start bits in
    let m = count - from in
    let all : from + m ≡ count = omega (arith, h) in
    sym (ap (λ (k : ℕ). take n (drop from (take k following))) (sym all)
    ∙ ap (take n) (drop-take from m following)
    ∙ take-take n m (drop from following) (omega (arith, h))
    ∙ ap (take n) (drop-drop from start bits))
