use Rattle.pilot_search.proofs.Common.{◌≡◌, ◌≤◌, ◌*◌, unsigned_abs, drop, plus, correlation_with}
use Rattle.pilot_search.proofs.correlation.correlate_plainly.Given as goal

abbrev pub invariant-loop-t : goal.invariant-loop-t
invariant-loop-t l = record {
  whole : plus l.sum (correlation_with (drop l.t l.samples) (drop l.t l.signs)) ≡ correlation_with l.samples l.signs;
  i_bound : unsigned_abs l.sum.i ≤ 65536 * l.t;
  q_bound : unsigned_abs l.sum.q ≤ 65536 * l.t;
}
