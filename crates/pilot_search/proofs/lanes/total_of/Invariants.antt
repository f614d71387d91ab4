use Rattle.pilot_search.proofs.Common.{◌≡◌, ◌≤◌, ◌*◌, take, unsigned_abs, total}
use Rattle.pilot_search.proofs.lanes.total_of.Given as goal

abbrev pub invariant-loop-lane : goal.invariant-loop-lane
invariant-loop-lane l = record {
  sum : l.sum ≡ total (take l.lane-index l.lane-items);
  bound : unsigned_abs l.sum ≤ 2147483648 * l.lane-index;
}
