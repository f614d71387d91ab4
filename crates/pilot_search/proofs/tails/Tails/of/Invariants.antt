use Rattle.pilot_search.proofs.Common.{◌≡◌, ℕ, ◌+◌, ◌*◌, ◌<◌, ◌≤◌, length, drop, get_or, magnitudes}
use Rattle.pilot_search.proofs.tails.Tails.of.Given as goal

abbrev pub decreases-loop-k : goal.decreases-loop-k
decreases-loop-k l = l.k

abbrev pub invariant-loop-k : goal.invariant-loop-k
invariant-loop-k l = record {
  within : l.k ≤ length l.samples;
  sum : l.sum ≡ magnitudes (drop l.k l.samples);
  small : l.sum + 65536 * l.k ≤ 65536 * length l.samples;
  long : length l.sums ≡ 512;
  value : (j : ℕ) → l.k ≤ 64 * j → j < 512 → get_or l.sums j 0 ≡ magnitudes (drop (64 * j) l.samples);
  below : (j : ℕ) → j < 512 → get_or l.sums j 0 + 65536 * (64 * j) ≤ 2147483648;
}
