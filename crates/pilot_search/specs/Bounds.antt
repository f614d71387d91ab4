-- The largest energy that a phase can still reach after some of the samples.
use Rattle.pilot_search.specs.Common.{Pair, Sample}
use Rattle.std.specs.Prelude.{◌≡◌, ◌<◌, ◌≤◌, ℕ, ◌+◌, ◌*◌, List, [], ◌∷◌, length, take, drop}
use Rattle.std.specs.Prelude.{unsigned_abs, slice_index}
use Rattle.pilot_search.specs.Search.{phase_correlation, energy, best_phase}

-- the greatest energy of any phase
abbrev pub greatest : List Sample → ℕ
greatest samples = energy samples (best_phase samples)

-- the most that these samples can add to either part of a sum
abbrev pub magnitudes : List Sample → ℕ
magnitudes [] = 0
magnitudes (s ∷ samples) = unsigned_abs s.i + unsigned_abs s.q + magnitudes samples

abbrev pub square_of : ℕ → ℕ
square_of x = x * x

-- the most that the energy can become, whatever the samples after the first `done` add
abbrev pub bound : List Sample → ℕ → ℕ → ℕ
bound samples phase done =
    let partial = phase_correlation (take done samples) phase in
    let left = magnitudes (drop done samples) in
    square_of (unsigned_abs partial.i + left) + square_of (unsigned_abs partial.q + left)

-- after some whole chunks of 64 samples, with samples left, the bound is below the limit
abbrev pub HasBoundBelow : List Sample → ℕ → ℕ → Type 0
HasBoundBelow samples phase limit =
    (j : ℕ) × (64 * j < length samples) × (bound samples phase (64 * j) < limit)

abbrev pub HasNoBoundBelow : List Sample → ℕ → ℕ → Type 0
HasNoBoundBelow samples phase limit =
    (j : ℕ) → 64 * j < length samples → limit ≤ bound samples phase (64 * j)

-- the magnitudes of the samples from each multiple of 64 on
abbrev pub AreTails : List Sample → List ℕ → Type 0
AreTails samples tails =
    (j : ℕ) → j < 512 → slice_index tails j ≡ magnitudes (drop (64 * j) samples)

-- the sum over the first `done` samples
pub record IsSumOf (samples : List Sample) (phase done : ℕ) (sum : Pair) : Type 0 where
  pub value : sum ≡ phase_correlation (take done samples) phase
  pub i_bound : unsigned_abs sum.i ≤ 65536 * done
  pub q_bound : unsigned_abs sum.q ≤ 65536 * done
