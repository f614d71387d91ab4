use Rattle.pilot_search.proofs.Common.{map, to_z, w32, AreSums}
use Rattle.pilot_search.proofs.lanes.sums_on_lanes.Given as goal

abbrev pub invariant-loop-k : goal.invariant-loop-k
invariant-loop-k l = record {
  sums : AreSums l.samples l.signs l.k (map (to_z w32) l.real) (map (to_z w32) l.imaginary);
}
