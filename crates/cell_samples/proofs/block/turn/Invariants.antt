use Rattle.cell_samples.proofs.Common.{◌≡◌, length, get_or, of_sample, AreTurned, no_sample}
use Rattle.cell_samples.proofs.block.turn.Given as goal

abbrev pub invariant-loop-k : goal.invariant-loop-k
invariant-loop-k l = record {
  long : length l.samples ≡ length l.fn.samples;
  each : AreTurned (λ k. of_sample (get_or l.chips k no_sample)) l.signs l.k l.samples;
}
