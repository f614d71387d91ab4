use Rattle.quality_bits.proofs.Common.{◌≡◌, ◌-◌, ◌<◌, ◌^◌, take, drop, number}
use Rattle.quality_bits.proofs.checking.number_from.Given as goal

abbrev pub invariant-loop-i : goal.invariant-loop-i
invariant-loop-i l = record {
  read : l.number ≡ number (take (l.i - l.from) (drop l.from l.bits));
  small : l.number < 2 ^ (l.i - l.from);
}
