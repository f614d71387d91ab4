use Rattle.line_text.proofs.Common.{◌≡◌, length}
use Rattle.line_text.proofs.StatedTexts.{AreBits}
use Rattle.line_text.proofs.values.power_bits_in.Given as goal

abbrev pub invariant-loop-k : goal.invariant-loop-k
invariant-loop-k l = record {
  bits : AreBits l.text l.power_bits l.k;
  long : length l.power_bits ≡ 16;
}
