-- The sums of a symbol's despread samples.
use Rattle.rake_finger.specs.Common.{sum_of, Sample, IsWithin}
use Rattle.std.specs.Prelude.{◌≡◌, ℕ, ◌*◌, List}
use Rattle.rake_finger.specs.Soft.{covered_from, despread_at}
use Rattle.rake_finger.specs.declared.lanes.Sums.{Sums}

-- the sums of `chips` despread samples from a place on: plain, and each with the sign of its chip
-- of a Walsh row
pub record AreSymbolSums (samples : List Sample) (row phase place chips : ℕ) (sums : Sums)
    : Type 0 where
  pub plain : sums.plain ≡ sum_of (despread_at samples phase place chips)
  pub covered : sums.covered ≡ sum_of (covered_from row 0 (despread_at samples phase place chips))

-- sums within the bound for `chips` samples
pub record SumsAreSmall (chips : ℕ) (sums : Sums) : Type 0 where
  pub plain : IsWithin (65536 * chips) sums.plain
  pub covered : IsWithin (65536 * chips) sums.covered
