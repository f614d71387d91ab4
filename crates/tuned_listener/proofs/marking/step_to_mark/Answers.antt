use Rattle.tuned_listener.proofs.Common.{arith, ints, common_steps, ◌≡◌, ◌∙◌, List, None, Some, rules, take_rest, Sample, Tuning, HasNoMark}
use Rattle.tuned_listener.proofs.TunedMarks.{ahead_all, mark_is_ahead, marked_here, no_mark_here, unset_untold, unset_without, untold_more}
use Rattle.tuned_listener.proofs.marking.step_to_mark.Goals as goal

-- A step that gives no event leaves the handset without a mark: the events that it has given are
-- the same as before, and none of them sets one.
pub returns-then-is_none-clause-untold : goal.returns-then-is_none-clause-untold
returns-then-is_none-clause-untold c = λ _.
    let before = c.loop-taken.mobile in
    let after = c.step-step.new.self in
    let does = c.step-step.ensures.steps in
    let none : c.step-step.result.event ≡ None = search rules in
    untold_more before after _ c.step-step.result does
    (unset_without before after _ c.step-step.result does none) c.loop-taken.invariant.untold

-- A step that gives no event took all samples that were left, and leaves no event of theirs untold.
-- None of those that were given sets a mark, so the handset stands for all samples and is still
-- ahead of its mark.
pub returns-then-is_none-clause-none : goal.returns-then-is_none-clause-none
returns-then-is_none-clause-none c = λ _ t heard is.
    let taken = c.loop-taken.taken in
    let samples = c.args.samples.now in
    let none : c.step-step.result.event ≡ None = search rules in
    let all = c.step-step.ensures.none none in
    ahead_all c.loop-taken.mobile c.step-step.new.self _ c.step-step.result
    c.step-step.ensures.steps t heard samples taken (take_rest samples taken) none all.0 all.1
    (c.loop-taken.invariant.none t heard is.has)

pub returns-in-Some-clause-early : goal.returns-in-Some-clause-early
returns-in-Some-clause-early c = λ m e.
    let told : c.mark.result ≡ Some m = c.in-Some.is ∙ e in
    mark_is_ahead c.loop-taken.mobile c.step-step.new.self _ c.step-step.result
    c.step-step.ensures.steps c.mark.result m told c.mark.ensures.given
    c.loop-taken.invariant.untold
    (λ t heard given event stands here unset. c.mark.ensures.ahead t heard given event stands here
    unset m told)

pub returns-in-Some-clause-set : goal.returns-in-Some-clause-set
returns-in-Some-clause-set c = λ m e t heard is.
    let taken = c.loop-taken.taken in
    let samples = c.args.samples.now in
    let told : c.mark.result ≡ Some m = c.in-Some.is ∙ e in
    marked_here c.loop-taken.mobile c.step-step.new.self _ c.step-step.result
    c.step-step.ensures.steps t heard samples taken m (take_rest samples taken)
    (c.loop-taken.invariant.none t heard is.has) (λ now given stands. c.mark.ensures.set t now given stands m told)

-- A step after which the handset tells no mark leaves it ahead of its mark: it tells one just where
-- one of the events that it has given sets it, so this step's event sets none, and neither did
-- those before.
pub loop-taken-preserved : goal.loop-taken-preserved
loop-taken-preserved c =
    let inv = c.loop-taken.invariant in
    let taken = c.loop-taken.taken in
    let samples = c.args.samples.now in
    let before = c.loop-taken.mobile in
    let after = c.step-step.new.self in
    let does = c.step-step.ensures.steps in
    let none : c.mark.result ≡ None = search rules in
    let unset = unset_untold before after _ c.step-step.result does c.mark.result none
    c.mark.ensures.given in
    record {
      most = search rules;
      room = search rules;
      untold = untold_more before after _ c.step-step.result does unset inv.untold;
      none = λ (t : Tuning) (heard : List Sample) (has : HasNoMark t c.args.mobile.now heard).
          no_mark_here before after _ c.step-step.result does unset t heard samples taken
          (take_rest samples taken) (inv.none t heard has);
    }

pub returns-in-Some-clause-none : goal.returns-in-Some-clause-none
returns-in-Some-clause-none c = grind (ints, arith, common_steps)

pub returns-then-is_none-clause-early : goal.returns-then-is_none-clause-early
returns-then-is_none-clause-early c = grind (ints, arith, common_steps)

pub returns-then-is_none-clause-sound : goal.returns-then-is_none-clause-sound
returns-then-is_none-clause-sound c = grind (ints, arith, common_steps)

pub returns-then-is_none-clause-all : goal.returns-then-is_none-clause-all
returns-then-is_none-clause-all c = grind (ints, arith, common_steps)

pub loop-taken-smaller : goal.loop-taken-smaller
loop-taken-smaller c = grind (ints, arith, common_steps)

pub returns-then-is_none-clause-set : goal.returns-then-is_none-clause-set
returns-then-is_none-clause-set c = grind (ints, arith, common_steps)

pub returns-in-Some-clause-all : goal.returns-in-Some-clause-all
returns-in-Some-clause-all c = grind (ints, arith, common_steps)

pub loop-taken-init : goal.loop-taken-init
loop-taken-init c = grind (ints, arith, common_steps)
