-- The strength of a pilot, and the power of the samples, before a moment.
use Rattle.rake_finger.specs.Common.{norm, of_sample, IsFirstGreatest, first_greatest, Sample}
use Rattle.std.specs.Prelude.{ℕ, ◌+◌, ◌-◌, ◌/◌, ◌≤◌, ◌≡◌, List, take, drop, sum_by, ℤ, pos, ◌-ℤ◌}
use Rattle.std.specs.Prelude.{unsigned_abs}
use Rattle.pilot_search.specs.Search.{energy}

-- the 512 samples before a place, counted from sample 0
abbrev pub samples_before : List Sample → ℕ → List Sample
samples_before samples end = take 512 (drop (end - 512) samples)

-- the energy at place i of a window of phases around a phase; the first of them lies half the
-- window below it
abbrev pub window_energy : List Sample → ℕ → ℕ → ℕ → ℕ
window_energy samples phase window i = energy samples (phase + 32768 + i - window / 2)

-- an energy, and the number of chips by which its place is above the window's middle
pub record Strength : Type 0 where
  pub energy : ℕ
  pub delta : ℤ

-- the greatest energy of the window, the least delta on a tie
unfoldable pub strength : List Sample → ℕ → ℕ → Strength
strength samples phase window =
    let place = first_greatest (λ i. pos (window_energy samples phase window i)) (window + 1) in
    record {
      energy = window_energy samples phase window place;
      delta = pos place -ℤ pos (window / 2);
    }

-- the strength before a place of a pilot whose chip at this phase falls on sample 0
abbrev pub strength_before : List Sample → ℕ → ℕ → ℕ → Strength
strength_before samples phase window end =
    strength (samples_before samples end) (phase + (end - 512)) window

-- the sum of the squares of both branches
abbrev pub sample_power : List Sample → ℕ
sample_power samples = sum_by (λ (s : Sample). norm (of_sample s)) samples

-- the place of greatest energy among `count` phases from `lowest` on, the least on a tie, with its
-- energy
pub record IsStrongest (samples : List Sample) (lowest count place most : ℕ) : Type 0 where
  pub first : IsFirstGreatest (λ i. pos (energy samples (lowest + i))) count place
  pub measured : most ≡ energy samples (lowest + place)

-- a sample adds at most 65,536 to either part of a sum
abbrev pub IsNarrow : Sample → Type 0
IsNarrow s = unsigned_abs s.i + unsigned_abs s.q ≤ 65536
