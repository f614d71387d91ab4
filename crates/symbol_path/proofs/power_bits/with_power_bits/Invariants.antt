use Rattle.symbol_path.proofs.Common.{◌≡◌, length, map, places, symbol_or_power_bit}
use Rattle.symbol_path.proofs.power_bits.with_power_bits.Given as goal

abbrev pub invariant-loop-i : goal.invariant-loop-i
invariant-loop-i l = record {
  value : l.out ≡ map (symbol_or_power_bit l.replaced l.power_bits l.symbols) (places l.i);
  count : length l.out ≡ l.i;
}
