use Rattle.message_layout.proofs.Common.{◌≡◌, ◌<◌, ◌^◌, take, drop, number}
use Rattle.message_layout.proofs.reading.number_from.Given as goal

abbrev pub invariant-loop-k : goal.invariant-loop-k
invariant-loop-k l = record {
  value : l.number ≡ number (take l.k (drop l.from l.bits));
  small : l.number < 2 ^ l.k;
}
