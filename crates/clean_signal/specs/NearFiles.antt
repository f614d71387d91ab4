-- A file that holds what one cell sends over one path, with noise of a bounded size, and two kinds
-- of such noise: another path, and rounding.
use Rattle.clean_signal.specs.Common.{Sample, Width, Header, best_phase, made_samples, IsReceivable}
use Rattle.clean_signal.specs.Common.{phase_at, CellPlan, gain_sum, scaled, LinkPlan}
use Rattle.std.specs.Prelude.{◌≡◌, ℕ, ◌+◌, List, take, ◌*◌, ◌<◌, ◌≤◌, map, pos, unsigned_abs, ℤ}
use Rattle.std.specs.Prelude.{◌-ℤ◌, ◌*ℤ◌}
use Rattle.std.specs.List.{AllZip}
use Rattle.clean_signal.specs.BoundedNoise.{IsNear, with_added}

-- A file holds what a lawful cell sends, with noise of at most e in I and in Q of each sample: its
-- flags are the cell's, its samples are near to the cell's, the search finds the cell's path, and
-- there is one finger. The chip at which the file starts represents the link's delay, the factor
-- its rotation and strength.
pub record IsNearFile (e : ℕ) (width : Width) (plan : CellPlan) (span fingers : ℕ)
    (header : Header) (samples : List Sample) : Type 0 where
  pub receivable : IsReceivable width plan
  pub near : IsNear e samples (made_samples plan)
  pub checks_of_30 : header.check30 ≡ plan.cell.check30
  pub checks_of_16 : header.check16 ≡ plan.cell.check16
  pub found : best_phase (take span samples) ≡ phase_at plan plan.link.start
  pub alone : fingers ≡ 1

-- Without noise the samples are the cell's.
abbrev pub IsPlanFile : Width → CellPlan → ℕ → ℕ → Header → List Sample → Type 0
IsPlanFile = IsNearFile 0

-- ---- laws

-- Samples that differ from others by at most 0 are equal to them.
abbrev pub NearWithinNoneIsSame : Type 0
NearWithinNoneIsSame = (xs ys : List Sample) →
    (IsNear 0 xs ys → xs ≡ ys) × (xs ≡ ys → IsNear 0 xs ys)

-- Noise upon noise is noise of the sum of both sizes.
abbrev pub NoiseAddsUp : Type 0
NoiseAddsUp = (d e : ℕ) (xs ys zs : List Sample) → IsNear d xs ys → IsNear e ys zs →
    IsNear (d + e) xs zs

-- ---- another path

-- the same cell over another link: with another factor, or from another local chip on
abbrev pub over_link : LinkPlan → CellPlan → CellPlan
over_link link plan = record plan { link = link }

-- A second path to a cell is noise on the first: the samples of the first with those of the second
-- added differ from those of the first by at most the sum of the second link's absolute parts,
-- times the sum of the cell's gains.
abbrev pub OtherPathsAreNoise : Type 0
OtherPathsAreNoise = (plan : CellPlan) (link : LinkPlan) (e : ℕ) →
    (unsigned_abs link.factor.i + unsigned_abs link.factor.q) * gain_sum plan ≤ e →
    IsNear e (with_added (made_samples plan) (made_samples (over_link link plan)))
    (made_samples plan)

-- ---- a louder link

-- the same cell over a link whose factor is d times as large
abbrev pub louder : ℕ → CellPlan → CellPlan
louder d plan = over_link (record plan.link { factor = scaled (pos d) plan.link.factor }) plan

abbrev pub louder_sample : ℕ → Sample → Sample
louder_sample d x = record { i = pos d *ℤ x.i; q = pos d *ℤ x.q }

-- Its samples are d times the cell's.
abbrev pub LouderLinksAreLouder : Type 0
LouderLinksAreLouder = (d : ℕ) (plan : CellPlan) →
    made_samples (louder d plan) ≡ map (louder_sample d) (made_samples plan)

-- ---- rounding

-- A whole number is the quotient of x and d, rounded up, down or to the nearest: it differs from
-- the quotient by less than 1, so d times it differs from x by less than d.
abbrev pub IsRounded : ℕ → ℤ → ℤ → Type 0
IsRounded d x rounded = unsigned_abs ((pos d *ℤ rounded) -ℤ x) < d

pub record IsRoundedSample (d : ℕ) (x rounded : Sample) : Type 0 where
  pub i : IsRounded d x.i rounded.i
  pub q : IsRounded d x.q rounded.q

-- samples that are divided and rounded, place by place
abbrev pub AreRounded : ℕ → List Sample → List Sample → Type 0
AreRounded d xs rounded = AllZip (IsRoundedSample d) xs rounded

-- If samples differ by at most e times d from those of a cell over a link d times as strong, and
-- are divided by d and rounded, they differ by at most e from the cell's. So a file of 16 bits that
-- is divided by 256 to make a file of 8 bits bears 256 times the noise that the cell bears in 8
-- bits.
abbrev pub RoundingIsNoise : Type 0
RoundingIsNoise = (d e : ℕ) (plan : CellPlan) (samples rounded : List Sample) →
    IsNear (e * d) samples (made_samples (louder d plan)) → AreRounded d samples rounded →
    IsNear e rounded (made_samples plan)
