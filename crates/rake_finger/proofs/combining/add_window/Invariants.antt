use Rattle.rake_finger.proofs.Common.{◌≡◌, ◌*◌, ◌≤◌, ℕ, List, ℤ, pos, get_or, IsAdded, window_symbols}
use Rattle.rake_finger.proofs.combining.add_window.Given as goal

abbrev pub invariant-loop-symbol : goal.invariant-loop-symbol
invariant-loop-symbol l = record {
  added : (first : List ℤ) →
      IsAdded l.ring l.finger l.fn.form l.start (window_symbols l.fn.form * l.window) first l.fn.out →
      IsAdded l.ring l.finger l.fn.form l.start l.symbol first l.out;
  rest : (j : ℕ) → l.symbol ≤ j → get_or l.out j (pos 0) ≡ get_or l.fn.out j (pos 0);
}
