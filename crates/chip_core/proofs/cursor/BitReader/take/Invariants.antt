use Rattle.chip_core.proofs.Common.{◌≡◌, ◌<◌, ◌^◌, take, drop, number}
use Rattle.chip_core.proofs.cursor.BitReader.take.Given as goal

abbrev pub invariant-loop-k : goal.invariant-loop-k
invariant-loop-k l = record {
  value : l.value ≡ number (take l.k (drop l.self-inside.place l.self-inside.bits.now));
  small : l.value < 2 ^ l.k;
}
