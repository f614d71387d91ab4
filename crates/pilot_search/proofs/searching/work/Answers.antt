use Rattle.pilot_search.proofs.Common.{◌+◌, ◌≤◌, arith, subst, sym, Option, IsFound, Best}
use Rattle.pilot_search.proofs.FoundLemmas.{both_found}
use Rattle.pilot_search.proofs.searching.work.Goals.{then-is_none, else-is_none}
use Rattle.pilot_search.proofs.searching.work.Goals as goal

-- One phase more is tried: the better of what was found before it and of what was found at it is
-- what is found in both, and at most one phase more was left.
pub loop-n-preserved : goal.loop-n-preserved
loop-n-preserved c =
    let inv = c.loop-n.invariant in
    let n = c.loop-n.n in
    let low : c.args.from ≤ n = omega arith in
    let high : n ≤ n + 1 = omega arith in
    let most : n + 1 ≤ 32768 = omega arith in
    let found =
    both_found c.args.samples.now c.args.from n (n + 1) c.loop-n.best c.try_number-found.result
    low high most inv.found c.try_number-found.ensures.found in
    record {
      count = elim c.if-is_none.branch [
        | then-is_none w ↦ omega arith
        | else-is_none w ↦ omega arith
      ];
      held = c.try_number-found.ensures.held;
      top = c.try_number-found.ensures.ceiling;
      found = subst (λ (o : Option Best). IsFound c.args.samples.now c.args.from (n + 1) o)
          (sym c.better-best.ensures) found;
    }
