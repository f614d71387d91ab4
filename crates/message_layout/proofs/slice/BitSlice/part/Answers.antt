use Rattle.message_layout.proofs.Common.{common_steps, ints, ◌≡◌, ◌+◌, ◌≤◌, take, drop, length, ap, ◌∙◌, arith, length-drop, length-take-le}
use Rattle.message_layout.proofs.Slices.{slice_part}
use Rattle.message_layout.proofs.slice.BitSlice.part.Goals as goal

-- The bits are the part of the slice that is asked for: the slice is `count` bits of the list from
-- its start on, and the part lies within these.
pub returns : goal.returns
returns c =
    let bits = c.self.inside.bits.now in
    let start = c.self.inside.start in
    let count = c.self.inside.count in
    let long : length (take count (drop start bits)) ≡ count =
    length-take-le count (drop start bits) (omega (arith, c.self.invariant, length-drop start bits)) in
    let room : c.args.from + c.args.count ≤ count = omega (arith, c.requires, ap length c.self.view_is, long) in
    c.part.ensures ∙ slice_part start count c.args.from c.args.count bits room
    ∙ ap (λ bits. take c.args.count (drop c.args.from bits)) c.self.view_is

pub overflow_add-self-inside : goal.overflow_add-self-inside
overflow_add-self-inside c = grind (ints, arith, common_steps)
