-- The search for the pilot: each phase's correlation with the samples, and the best phase.
use Rattle.pilot_search.specs.Common.{sum_of, norm, first_greatest, Pair, Sample, despread}
use Rattle.std.specs.Prelude.{ℕ, List, pos}

unfoldable pub phase_correlation : List Sample → ℕ → Pair
phase_correlation samples phase = sum_of (despread phase samples)

unfoldable pub energy : List Sample → ℕ → ℕ
energy samples phase = norm (phase_correlation samples phase)

-- the phase of greatest energy, the least on a tie
unfoldable pub best_phase : List Sample → ℕ
best_phase samples = first_greatest (λ phase. pos (energy samples phase)) 32768
