use Rattle.pilot_sets.proofs.Common.{arith, common_steps, ints, sym, ◌∙◌, ap, not, lacks, timed_pilots}
use Rattle.pilot_sets.proofs.Within.{filtered_hit, filtered_miss}
use Rattle.pilot_sets.proofs.hearing.free_pilots.Goals.{then-not-has_timer, else-not-has_timer}
use Rattle.pilot_sets.proofs.hearing.free_pilots.Goals as goal

-- One pilot more is looked at: it is added if it is neither active nor a candidate and fewer than
-- 20 are there, as in the first 20 of all such pilots; otherwise the list stays.
pub loop-p-preserved : goal.loop-p-preserved
loop-p-preserved c =
    let test = lacks (timed_pilots c.args.sets.now) in
    let pilots = c.args.pilots.now in
    let tested = ap not (sym c.has_timer.ensures) in
    elim c.if-not-has_timer.branch [
      | then-not-has_timer w ↦ (
        filtered_hit 20 test pilots c.loop-p.free c.if-not-has_timer.free c.loop-p.p-index 0
            c.loop-p-test.true c.loop-p.invariant.0 (tested ∙ ap not w.if-not-has_timer.true)
            (w.free-is ∙ w.push_within.ensures.value),
        rw w.free-is w.push_within.ensures.within,
      )
      | else-not-has_timer w ↦ (
        w.free-is
            ∙ filtered_miss 20 test pilots c.loop-p.free c.loop-p.p-index 0
            c.loop-p-test.true c.loop-p.invariant.0 (tested ∙ ap not w.if-not-has_timer.false),
        rw w.free-is c.loop-p.invariant.1,
      )
    ]

pub returns : goal.returns
returns c = grind (ints, arith, common_steps)
