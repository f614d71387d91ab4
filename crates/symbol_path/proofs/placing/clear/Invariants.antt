use Rattle.symbol_path.proofs.Common.{◌≡◌, pos, ℕ, ◌<◌, get_or}
use Rattle.symbol_path.proofs.placing.clear.Given as goal

abbrev pub invariant-loop-value : goal.invariant-loop-value
invariant-loop-value l = (k : ℕ) → k < l.value-index → get_or l.values k (pos 0) ≡ pos 0
