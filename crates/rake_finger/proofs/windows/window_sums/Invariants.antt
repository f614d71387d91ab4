use Rattle.rake_finger.proofs.Common.{◌≡◌, ◌+◌, ◌*◌, ◌<◌, ◌≤◌, ℕ, List, get_or, length, unsigned_abs, origin, Sample, IsWithin, HoldsLast}
use Rattle.rake_finger.proofs.Common.{symbol_chips, window_symbols, symbol_sum}
use Rattle.rake_finger.proofs.WindowSums.{sum_before}
use Rattle.rake_finger.proofs.windows.window_sums.Given as goal

abbrev pub invariant-loop-k : goal.invariant-loop-k
invariant-loop-k l = record {
  pilot : (samples : List Sample) → HoldsLast l.ring samples →
      l.pilot ≡ sum_before samples l.finger.phase l.first (symbol_chips l.fn.form * l.k);
  symbols : (samples : List Sample) → HoldsLast l.ring samples → (j : ℕ) → j < l.k → get_or l.symbols j origin ≡
      symbol_sum samples l.finger l.fn.form l.start (window_symbols l.fn.form * l.window + j);
  pilot_i : unsigned_abs l.pilot.i ≤ 65536 * (symbol_chips l.fn.form * l.k);
  pilot_q : unsigned_abs l.pilot.q ≤ 65536 * (symbol_chips l.fn.form * l.k);
  small : (j : ℕ) → j < l.k → IsWithin (65536 * symbol_chips l.fn.form) (get_or l.symbols j origin);
  long : length l.symbols ≡ 24;
}
