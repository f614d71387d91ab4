-- Despreading: samples times the conjugate of the pilot's code.
use Rattle.std.specs.Prelude.{ℕ, ◌+◌, ◌≤◌, ◌%◌, List, [], ◌∷◌, ℤ, unsigned_abs}
use Rattle.chip_core.specs.Complex.{times, conjugate, point, of_sample}
use Rattle.chip_core.specs.declared.sample.Pair.{Pair}
use Rattle.chip_core.specs.declared.sample.Sample.{Sample}
use Rattle.short_code.specs.ShortCode.{pilot_chip}

-- the code's point at a phase
abbrev pub code_point : ℕ → Pair
code_point phase = point (pilot_chip (phase % 32768))

-- the samples times the conjugate code, the first sample at the phase
abbrev pub despread : ℕ → List Sample → List Pair
despread phase [] = []
despread phase (s ∷ samples) =
    times (of_sample s) (conjugate (code_point phase)) ∷ despread (phase + 1) samples

-- a pair of signs, each of absolute value at most 1
pub record IsUnit (signs : ℤ × ℤ) : Type 0 where
  pub i : unsigned_abs signs.0 ≤ 1
  pub q : unsigned_abs signs.1 ≤ 1

-- a sample times the conjugate of the point with these signs
abbrev pub turned : Sample → ℤ × ℤ → Pair
turned s signs = times (of_sample s) (conjugate (record { i = signs.0; q = signs.1 }))
