use Rattle.command_line.proofs.Common.{common_steps, ints, ◌≡◌, ◌∙◌, ◌<◌, ◌≤◌, None, Some, arith, ap, drop, length, map, refl, string_bytes}
use Rattle.command_line.proofs.Common.{sym, length-drop, length-map, is_named_in, part_of, entry_of}
use Rattle.command_line.proofs.ArgTests.{Part, stands_last, stands_missing, stands_next, stands_refused, stands_twice, texts_before}
use Rattle.command_line.proofs.ArgTests.{texts_after}
use Rattle.command_line.proofs.testing.are_lawful.Goals.{In-Some}
use Rattle.command_line.proofs.testing.are_lawful.Goals as goal

-- Arguments aren't lawful where some are left that begin with no option: those before were taken,
-- and the definition finds no option at this place either and gives nothing.
pub returns-in_default : goal.returns-in_default
returns-in_default c =
    let args = c.args.args.now in
    let place = c.loop-place.place in
    let texts = map string_bytes args in
    let inside : place ≤ length args = omega (arith, c.loop-place-test.true) in
    let some : 0 < length (drop place texts) =
    rw (length-drop place texts, length-map args string_bytes) (omega (arith, c.loop-place-test.true)) in
    let is : part_of (drop place texts) ≡ None =
    ap part_of (sym (texts_after args place inside)) ∙ sym c.in_default.ensures.value in
    stands_missing (map entry_of c.args.rules.now) texts place some is c.loop-place.invariant

-- the part that stands at the place
abbrev part_at : In-Some → Part
part_at c = (c.in-Some.part.name.now, c.in-Some.part.value.now, c.in-Some.part.args)

part_is : (c : In-Some) → part_of (drop c.loop-place.place (map string_bytes c.args.args.now)) ≡ Some (part_at c)
part_is c =
    let inside : c.loop-place.place ≤ length c.args.args.now = omega (arith, c.loop-place-test.true) in
    ap part_of (sym (texts_after c.args.args.now c.loop-place.place inside))
    ∙ sym c.in-Some.ensures.value

pub returns-then-is_named_in : goal.returns-then-is_named_in
returns-then-is_named_in c =
    let here = (goal.at.returns-then-is_named_in c).In-Some in
    stands_twice (map entry_of c.args.rules.now) (map string_bytes c.args.args.now)
    c.loop-place.place (part_at here) (part_is here)
    (ap (is_named_in (part_at here).0) (sym (texts_before c.args.args.now c.loop-place.place))
    ∙ sym c.is_named_in.ensures ∙ c.if-is_named_in.true) c.loop-place.invariant

pub returns-then-not-is_allowed : goal.returns-then-not-is_allowed
returns-then-not-is_allowed c =
    let here = (goal.at.returns-then-not-is_allowed c).In-Some in
    stands_refused (map entry_of c.args.rules.now) (map string_bytes c.args.args.now)
    c.loop-place.place (part_at here) (part_is here)
    (sym c.is_allowed.ensures ∙ c.if-not-is_allowed.true) c.loop-place.invariant

pub loop-place-preserved : goal.loop-place-preserved
loop-place-preserved c =
    let here = (goal.at.loop-place-preserved c).In-Some in
    stands_next (map entry_of c.args.rules.now) (map string_bytes c.args.args.now)
    c.loop-place.place _ (part_at here) refl (part_is here)
    (ap (is_named_in (part_at here).0) (sym (texts_before c.args.args.now c.loop-place.place))
    ∙ sym c.is_named_in.ensures ∙ c.if-is_named_in.false)
    (sym c.is_allowed.ensures ∙ c.if-not-is_allowed.false) c.loop-place.invariant

pub returns : goal.returns
returns c =
    let args = c.args.args.now in
    let past : length (map string_bytes args) ≤ c.loop-place.place =
    rw (length-map args string_bytes) (omega (arith, c.loop-place-test.false)) in
    stands_last (map entry_of c.args.rules.now) (map string_bytes args) c.loop-place.place past
    c.loop-place.invariant

pub slice_bounds-is_named_in-end : goal.slice_bounds-is_named_in-end
slice_bounds-is_named_in-end c = grind (ints, arith, common_steps)
