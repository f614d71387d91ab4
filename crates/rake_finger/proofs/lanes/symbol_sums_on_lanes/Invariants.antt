use Rattle.rake_finger.proofs.Common.{map, to_z, w32, covered_signs}
use Rattle.pilot_search.specs.Lanes.{AreSums}
use Rattle.rake_finger.proofs.lanes.symbol_sums_on_lanes.Given as goal

abbrev pub invariant-loop-k : goal.invariant-loop-k
invariant-loop-k l = record {
  plain : AreSums l.samples l.signs l.k (map (to_z w32) l.real) (map (to_z w32) l.imaginary);
  covered : AreSums l.samples (covered_signs l.row 0 l.signs) l.k
      (map (to_z w32) l.covered_real) (map (to_z w32) l.covered_imaginary);
}
