use Rattle.rake_finger.proofs.Common.{◌≡◌, ◌+◌, ◌*◌, ◌%◌, ◌<◌, ◌≤◌, List, take, drop, unsigned_abs, sum_of, Sample, despread, HoldsLast}
use Rattle.rake_finger.proofs.Common.{covered_from}
use Rattle.rake_finger.proofs.sums.covered_sum.Given as goal

abbrev pub invariant-loop-k : goal.invariant-loop-k
invariant-loop-k l = record {
  value : (samples : List Sample) → HoldsLast l.ring samples → l.sum ≡ sum_of
      (covered_from l.row 0
      (despread (l.fn.phase + l.place) (take l.k (drop l.place samples))));
  cell : l.cell ≡ (l.place + l.k) % l.ring.room;
  below : l.cell < l.ring.room;
  i_bound : unsigned_abs l.sum.i ≤ 65536 * l.k;
  q_bound : unsigned_abs l.sum.q ≤ 65536 * l.k;
}
