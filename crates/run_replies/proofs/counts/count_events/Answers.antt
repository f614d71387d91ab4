use Rattle.run_replies.proofs.Common.{◌≡◌, ◌+◌, ◌-◌, ◌≤◌, ◌++◌, List, length, take, Option, None, Some, sym, ap, ◌∙◌, subst, append-nil}
use Rattle.run_replies.proofs.Common.{rules, arith, take_rest, Sample, event_list, StandsFor, steps_left, Event, LeavesRoom, counts_with}
use Rattle.run_replies.proofs.Common.{Counts, events}
use Rattle.run_replies.proofs.Counting.{counted_all, counted_more, room_after_event, room_for_one, room_left}
use Rattle.run_replies.proofs.Handsets.{step_stands}
use Rattle.run_replies.proofs.counts.count_events.Goals as goal

pub loop-event-init : goal.loop-event-init
loop-event-init c = record {
  most = omega arith;
  room = omega arith;
  few = c.requires.few;
  told = λ t heard given stands is. (
    given,
    subst (λ (xs : List Sample). StandsFor t c.args.mobile.now xs given) (sym (append-nil heard))
        stands,
    is,
  );
}

pub returns-in_default-clause-few : goal.returns-in_default-clause-few
returns-in_default-clause-few c =
    room_left c.loop-event.counts _ _ c.loop-event.invariant.few (omega (arith, c.step-step.ensures.steps.fewer))

-- A step that gives no event took all samples that were left, and leaves no event of theirs untold.
-- So the events that were counted are all that a handset hears of these samples.
pub returns-in_default-clause-told : goal.returns-in_default-clause-told
returns-in_default-clause-told c t heard given stands is =
    let taken = c.loop-event.taken in
    let samples = c.args.samples.now in
    let nothing : c.step-step.result.event ≡ None = search rules in
    let left = take_rest samples taken in
    let none = c.step-step.ensures.none nothing in
    counted_all t c.loop-event.mobile c.step-step.new.self c.loop-event.counts heard samples taken
    c.step-step.result.taken (c.loop-event.invariant.told t heard given stands is) (none.0 ∙ ap length left)
    (step_stands t heard samples taken None nothing c.step-step.ensures.steps)
    (λ before standing.
    subst (λ (xs : List Sample). before ≡ events t ((heard ++ take taken samples) ++ xs)) left
    (none.1 t (heard ++ take taken samples) before standing))

pub add-requires : goal.add-requires
add-requires c =
    let something : c.step-step.result.event ≡ Some c.in-Some.event = search rules in
    let fewer : steps_left c.step-step.new.self + 1 ≤ steps_left c.loop-event.mobile =
    subst (λ (e : Option Event). steps_left c.step-step.new.self + length (event_list e)
    ≤ steps_left c.loop-event.mobile) something c.step-step.ensures.steps.fewer in
    room_for_one c.loop-event.counts (steps_left c.loop-event.mobile) c.loop-event.invariant.few (omega (arith, fewer))

-- One event more is counted: the handset now stands for the samples of this step and for this event
-- after those before it, and the counts still leave room for the steps that are left, which are
-- fewer by one at least.
pub loop-event-preserved : goal.loop-event-preserved
loop-event-preserved c =
    let inv = c.loop-event.invariant in
    let taken = c.loop-event.taken in
    let samples = c.args.samples.now in
    let event = c.in-Some.event in
    let something : c.step-step.result.event ≡ Some event = search rules in
    let fewer : steps_left c.step-step.new.self + 1 ≤ steps_left c.loop-event.mobile =
    subst (λ (e : Option Event). steps_left c.step-step.new.self + length (event_list e)
    ≤ steps_left c.loop-event.mobile) something c.step-step.ensures.steps.fewer in
    let added : c.add.new.self ≡ counts_with c.loop-event.counts event = search rules in
    record {
      most = search rules;
      room = search rules;
      few = subst (λ (k : Counts). LeavesRoom k (steps_left c.step-step.new.self)) (sym added)
          (room_after_event c.loop-event.counts event (steps_left c.step-step.new.self)
          (steps_left c.loop-event.mobile) inv.few fewer);
      told = λ t heard given stands is.
          counted_more t c.loop-event.mobile c.step-step.new.self c.loop-event.counts _ heard samples
          taken c.step-step.result.taken event (inv.told t heard given stands is)
          (step_stands t heard samples taken (Some event) something c.step-step.ensures.steps)
          added;
    }
