use Rattle.symbol_path.proofs.Common.{◌≡◌, ◌/◌, map, get_or, false, length, places, repeated_as}
use Rattle.symbol_path.proofs.placing.place_sent.Given as goal

abbrev pub invariant-loop-i : goal.invariant-loop-i
invariant-loop-i l = record {
  value : l.out ≡ map (λ i. get_or l.code (repeated_as l.symbols i / l.repeats) false) (places l.i);
  count : length l.out ≡ l.i;
}
