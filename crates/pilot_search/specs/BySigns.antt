-- The correlation with a list of signs, one pair for each sample.
use Rattle.pilot_search.specs.Common.{sum_of, Pair, Sample, turned}
use Rattle.std.specs.Prelude.{◌≡◌, ◌≤◌, ◌*◌, List, length, ℤ, neg_ℤ, unsigned_abs}
use Rattle.chip_core.specs.Bits.{zip_with}

unfoldable pub correlation_with : List Sample → List (ℤ × ℤ) → Pair
correlation_with samples signs = sum_of (zip_with turned samples signs)

-- a sum that is the correlation, and is bounded by the number of samples
pub record IsSumBy (samples : List Sample) (signs : List (ℤ × ℤ)) (sum : Pair) : Type 0 where
  pub value : sum ≡ correlation_with samples signs
  pub i_bound : unsigned_abs sum.i ≤ 65536 * length samples
  pub q_bound : unsigned_abs sum.q ≤ 65536 * length samples

-- the turned signs of a chip, by which I and Q of a sample are multiplied for the imaginary part
abbrev pub across : ℤ × ℤ → ℤ × ℤ
across signs = (neg_ℤ signs.1, signs.0)
