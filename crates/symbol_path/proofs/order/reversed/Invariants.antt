use Rattle.symbol_path.proofs.Common.{◌≡◌, ◌-◌, ◌<◌, ◌^◌, reverse, number_from, binary, reversed}
use Rattle.symbol_path.proofs.order.reversed.Given as goal

abbrev pub invariant-loop-bit : goal.invariant-loop-bit
invariant-loop-bit l = record {
  value : number_from l.turned (reverse (binary (l.width - l._bit) l.rest)) ≡ reversed l.width l.fn.number;
  small : l.turned < 2 ^ l._bit;
}
