use Rattle.line_text.proofs.Common.{◌≡◌, ◌+◌, drop}
use Rattle.line_text.specs.StatedValues.{length_before}
use Rattle.line_text.proofs.values.length_before.Given as goal

abbrev pub invariant-loop-byte : goal.invariant-loop-byte
invariant-loop-byte l = record {
  passed : l.length ≡ l.byte-index;
  left : length_before l.mark l.text ≡ l.byte-index + length_before l.mark (drop l.byte-index l.text);
}
