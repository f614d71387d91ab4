use Rattle.line_text.proofs.Common.{◌≡◌, ◌<◌, ◌≤◌, ◌^◌, drop, length}
use Rattle.line_text.specs.StatedValues.{hex_from}
use Rattle.line_text.proofs.values.hex_in.Given as goal

abbrev pub invariant-loop-digit : goal.invariant-loop-digit
invariant-loop-digit l = record {
  left : hex_from 0 l.text ≡ hex_from l.number (drop l.digit-index l.text);
  below : l.number < 16 ^ l.digit-index;
  passed : l.digit-index ≤ length l.text;
}
