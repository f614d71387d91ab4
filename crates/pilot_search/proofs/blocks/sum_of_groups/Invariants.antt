use Rattle.pilot_search.proofs.Common.{map, to_z, w32, both, AreSums}
use Rattle.pilot_search.proofs.blocks.sum_of_groups.Given as goal

abbrev pub invariant-loop-k : goal.invariant-loop-k
invariant-loop-k l = record {
  sums : AreSums l.samples (map both l.points) l.k (map (to_z w32) l.real) (map (to_z w32) l.imaginary);
}
