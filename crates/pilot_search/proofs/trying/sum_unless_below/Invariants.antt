use Rattle.pilot_search.proofs.Common.{◌≡◌, ◌+◌, ◌*◌, ◌-◌, ◌≤◌, length, drop, IsSumOf}
use Rattle.pilot_search.proofs.trying.sum_unless_below.Given as goal

abbrev pub decreases-loop-j : goal.decreases-loop-j
decreases-loop-j l = l.last - l.j

abbrev pub invariant-loop-j : goal.invariant-loop-j
invariant-loop-j l = record {
  within : l.j ≤ l.last;
  sum : IsSumOf l.samples l.fn.phase (64 * l.j) l.sum;
  rest : l.rest ≡ drop (64 * l.j) l.samples;
  left : length l.rest + 64 * l.j ≡ length l.samples;
}
