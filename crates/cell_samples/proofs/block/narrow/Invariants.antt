use Rattle.cell_samples.proofs.Common.{◌≡◌, ◌<◌, ℕ, length, get_or, of_sample, origin, no_sample}
use Rattle.cell_samples.proofs.block.narrow.Given as goal

abbrev pub invariant-loop-k : goal.invariant-loop-k
invariant-loop-k l = record {
  long : length l.chips ≡ 64;
  each : (k : ℕ) → k < l.k → of_sample (get_or l.chips k no_sample) ≡ get_or l.sums k origin;
}
