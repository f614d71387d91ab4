use Rattle.mobile_core.proofs.Common.{common_steps, ints, ◌≡◌, ◌+◌, ◌++◌, List, arith, drop, subst, take, None, Some, append-nil, take_all}
use Rattle.mobile_core.proofs.Common.{take_rest, Sample, refl, sym, Steps, none-some, StandsFor}
use Rattle.mobile_core.proofs.Stood.{all_given}
use Rattle.mobile_core.proofs.StepJoins.{steps_joined}
use Rattle.mobile_core.proofs.mobile.Mobile.step.Goals as goal

pub returns-in-Some : goal.returns-in-Some
returns-in-Some c = record {
  steps = steps_joined 0 c.loop-event.taken (Some c.in-Some.event) (omega arith)
      c.loop-event.invariant (c.in-Some.ensures.steps (drop c.loop-event.taken c.args.samples.now));
  none = λ e. absurd (none-some c.in-Some.event (sym e));
}

-- A step that gives no event has taken all samples, and all events that end within them have been
-- given: nothing is due any more, and the pilot has been told.
pub returns-then-taken-samples : goal.returns-then-taken-samples
returns-then-taken-samples c =
    let samples = c.args.samples.now in
    let taken = c.loop-event.taken in
    let mobile = c.hear_due.new.self in
    let whole : take taken samples ≡ samples = take_all taken samples (omega (arith, c.if-taken-samples.true)) in
    let heard_none = rw c.in_default.is at c.hear_due.ensures.steps in
    let steps = steps_joined 0 taken None (omega arith) c.loop-event.invariant (heard_none (drop taken samples)) in
    record {
      steps = steps;
      none = λ e. (
        c.if-taken-samples.true,
        λ t heard given st.
            let now = subst (StandsFor t mobile (heard ++ take taken samples)) (append-nil given)
            (steps.stands t heard given st) in
            let all = all_given now mobile.sound (c.hear_due.ensures.none c.in_default.is) in
            rw whole at all,
      );
    }

-- The samples up to the next frame's end are taken after those before, and no event is given: what
-- was due has been heard without one, and the two steps join to one.
pub loop-event-preserved : goal.loop-event-preserved
loop-event-preserved c =
    let samples = c.args.samples.now in
    let taken = c.loop-event.taken in
    let more = c.advance-taken.result in
    let heard_none = rw c.in_default.is at c.hear_due.ensures.steps in
    let before = steps_joined 0 taken None (omega arith) c.loop-event.invariant (heard_none (drop taken samples)) in
    steps_joined more (taken + more) None refl before
    (subst
    (λ (xs : List Sample). Steps c.hear_due.new.self c.advance-taken.new.self xs
    (record { taken = more; event = None }))
    (take_rest samples taken) c.advance-taken.ensures.steps)

pub advance-taken-requires-clause-room : goal.advance-taken-requires-clause-room
advance-taken-requires-clause-room c = grind (ints, arith, common_steps)
