use Rattle.chip_core.proofs.Common.{◌≡◌, ◌+◌, ◌-◌, ◌/◌, ◌^◌, ◌++◌, length, binary}
use Rattle.chip_core.proofs.bit_list.Bits.append_number.Given as goal

abbrev pub invariant-loop-k : goal.invariant-loop-k
invariant-loop-k l = record {
  bits : l.self ≡ l.fn.self ++ binary l.k (l.value / 2 ^ (l.width - l.k));
  count : length l.self ≡ length l.fn.self + l.k;
}
