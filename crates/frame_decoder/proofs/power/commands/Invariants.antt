use Rattle.frame_decoder.proofs.Common.{◌≡◌, ◌<◌, ℕ, length, get_or, false, summed_subchannels, power_bit}
use Rattle.frame_decoder.proofs.power.commands.Given as goal

abbrev pub invariant-loop-group : goal.invariant-loop-group
invariant-loop-group l = record {
  long : length l.bits ≡ 16;
  each : (g : ℕ) → g < l.group → get_or l.bits g false ≡ power_bit (summed_subchannels l.fn.softs) g;
}
