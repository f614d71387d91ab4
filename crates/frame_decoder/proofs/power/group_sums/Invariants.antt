use Rattle.frame_decoder.proofs.Common.{◌≡◌, ◌<◌, ℕ, length, get_or, pos, group_sum}
use Rattle.frame_decoder.proofs.power.group_sums.Given as goal

abbrev pub invariant-loop-group : goal.invariant-loop-group
invariant-loop-group l = record {
  long : length l.sums ≡ 16;
  each : (g : ℕ) → g < l.group → get_or l.sums g (pos 0) ≡ group_sum l.replaced l.softs g;
}
