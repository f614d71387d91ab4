use Rattle.chip_core.proofs.Common.{◌≡◌, ◌<◌, ◌^◌, drop, digits_from}
use Rattle.chip_core.proofs.decimal.digits_in.Given as goal

abbrev pub invariant-loop-digit : goal.invariant-loop-digit
invariant-loop-digit l = record {
  left : digits_from 0 l.text ≡ digits_from l.number (drop l.digit-index l.text);
  below : l.number < 10 ^ l.digit-index;
}
