-- The frames of a slot.
use Rattle.std.proofs.Common.{◌≡◌, ◌≤◌, ℕ, zero, suc, ◌+◌, ◌-◌, List, ◌++◌, length, take, drop, append_assoc, sym, ap, ◌∙◌, arith, ℤ}
use Rattle.std.proofs.Math.Seq.{drop-append-add}
use Rattle.std.proofs.lemmas.List.{drop-append-le, take-append-le, length-drop}
use Rattle.frame_decoder.specs.Spans.{paging_channel, own_bits}
use Rattle.slot_mode.specs.Laws.{IsHeardAsEver}

-- a part of the soft values of a slot, wherever the slot lies
part : (from count : ℕ) (before softs following : List ℤ) → from + count ≤ length softs →
    take count (drop (length before + from) (before ++ softs ++ following)) ≡ take count (drop from softs)
part from count before softs following room =
    let rest = length-drop from softs in
    ap (λ (xs : List ℤ). take count (drop (length before + from) xs)) (append_assoc before softs following)
    ∙ ap (take count) (drop-append-add before (softs ++ following) from)
    ∙ ap (take count) (drop-append-le from softs following (omega (arith, room)))
    ∙ take-append-le count (drop from softs) following (omega (arith, room, rest))

pub heard_as_ever : IsHeardAsEver
heard_as_ever rate before softs following zero long low high = absurd (omega (arith, low))
heard_as_ever rate before softs following (suc zero) long low high =
    ap (own_bits (paging_channel rate) 3 1) (sym (part 0 1152 before softs following (omega (arith, long))))
heard_as_ever rate before softs following (suc (suc zero)) long low high =
    ap (own_bits (paging_channel rate) 3 1) (sym (part 384 1152 before softs following (omega (arith, long))))
heard_as_ever rate before softs following (suc (suc (suc n))) long low high = absurd (omega (arith, high))
