use Rattle.symbol_path.proofs.Common.{◌≡◌, ◌<◌, ◌+◌, ◌*◌, ℕ, get_or, false, IsState, after, long_chip}
use Rattle.symbol_path.proofs.scramble.symbol_chips.Given as goal

abbrev pub invariant-loop-chip : goal.invariant-loop-chip
invariant-loop-chip l = record {
  later : (n : ℕ) → after l.state n ≡ after l.initial.state (64 * l.chip-index + n);
  state : 0 < l.chip-index → IsState l.state;
  chips : (k : ℕ) → k < l.chip-index → get_or l.out k false ≡ long_chip l.initial.state l.mask (64 * k);
}
