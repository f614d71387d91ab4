-- The signs of a Walsh row's chips, and signs of the code multiplied by them.
use Rattle.rake_finger.specs.Common.{sign, walsh}
use Rattle.std.specs.Prelude.{◌≡◌, ℕ, suc, ◌%◌, ◌<◌, ◌≤◌, List, [], ◌∷◌, get_or, ℤ, pos, ◌*ℤ◌}
use Rattle.std.specs.Prelude.{unsigned_abs}
use Rattle.pilot_search.specs.Lanes.{eight}

-- the signs of the 64 chips of a row
abbrev pub AreRowSigns : ℕ → List ℤ → Type 0
AreRowSigns row signs = (k : ℕ) → k < 64 → get_or signs k (pos 0) ≡ sign (walsh row k)

-- 64 numbers whose absolute values are 0 or 1
abbrev pub AreUnitSigns : List ℤ → Type 0
AreUnitSigns signs = (k : ℕ) → k < 64 → unsigned_abs (get_or signs k (pos 0)) ≤ 1

-- both signs of a chip of the code, times another sign
abbrev pub turned_sign : ℤ → ℤ × ℤ → ℤ × ℤ
turned_sign by signs = (signs.0 *ℤ by, signs.1 *ℤ by)

-- the signs of chips of the code, each times the sign of its chip of a row; the first one meets the
-- row's chip k
abbrev pub covered_signs : List ℤ → ℕ → List (ℤ × ℤ) → List (ℤ × ℤ)
covered_signs row k [] = []
covered_signs row k (g ∷ signs) =
    turned_sign (get_or row (k % 64) (pos 0)) g ∷ covered_signs row (suc k) signs

-- the eight signs of a row from chip `first` on
abbrev pub sign_lanes : List ℤ → ℕ → List ℤ
sign_lanes signs first = eight (λ t. get_or signs t (pos 0)) first
