use Rattle.cdma_replay.proofs.Common.{◌≤◌, ◌∙◌, List, ap, arith, rules, Sample, CellPlan, events, counts_of}
use Rattle.cdma_replay.proofs.Counting.{counted_next, made_all}
use Rattle.cdma_replay.proofs.trial.count_rest.Goals as goal

pub loop-cell-preserved : goal.loop-cell-preserved
loop-cell-preserved c =
    let inv = c.loop-cell.invariant in
    record {
      plan = search rules;
      room = search rules;
      few = c.count_next.ensures.few;
      piece = search rules;
      told = λ t stands is. counted_next t c.loop-cell.mobile c.count_next.new.mobile
          c.loop-cell.counts c.count_next.new.counts _ _ _ _ _ inv.plan (c.count_next.ensures.told t)
          (search rules) (inv.told t stands is);
    }

pub returns : goal.returns
returns c t stands is =
    let inv = c.loop-cell.invariant in
    let plan = c.args.cell.now.plan in
    let all : plan.link.samples ≤ c.loop-cell.cell.given =
    omega (arith, c.left.ensures, c.loop-cell-test.false, ap (λ (p : CellPlan). p.link.samples) inv.plan) in
    (inv.told t stands is).1
    ∙ ap (λ (xs : List Sample). counts_of (events t xs)) (made_all plan c.loop-cell.cell.given all)
