-- The paths that a handset is tuned to are near the reference path.
use Rattle.std.specs.Prelude.{◌≡◌, ℕ, pos, IsTrue, All, Some, slice_get}
use Rattle.rake_finger.specs.Near.{is_near, low_in}
use Rattle.heard_events.specs.Tuning.{Tuning, sync_stream}

-- the first frame of the sync channel in a file that is long enough
abbrev pub low_of : Tuning → ℕ
low_of t = low_in (sync_stream t)

-- The fingers are near the reference path, and the first is on it.
pub record IsTuned (t : Tuning) : Type 0 where
  pub near : All (λ d. IsTrue (is_near d)) t.deltas
  pub first : slice_get t.deltas 0 ≡ Some (pos 0)
