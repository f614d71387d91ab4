use Rattle.pilot_search.proofs.Common.{◌≤◌, ◌^◌, IsBestIn}
use Rattle.pilot_search.proofs.sweeping.sweep.Given as goal

abbrev pub invariant-loop-n : goal.invariant-loop-n
invariant-loop-n l = record {
  best : IsBestIn l.samples l.from l.n l.best.phase l.best.energy;
  bound : l.best.energy ≤ 2 ^ 63;
}
