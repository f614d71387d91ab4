-- How far fingers may be from the reference path.
use Rattle.std.specs.Prelude.{◌≡◌, ℕ, ◌≤◌, ◌&&◌, Bool, true, List, length, ℤ, pos, negsuc, int_le}
use Rattle.std.specs.Prelude.{nat_le, nat_lt, unsigned_abs, IsTrue, if◌then◌else◌}
use Rattle.std.specs.Ordering.{int_eq}
use Rattle.std.specs.List.{list_all, list_any}
use Rattle.chip_core.specs.Air.{half_window_chips}
use Rattle.rake_finger.specs.Streams.{StreamOf}
use Rattle.rake_finger.specs.declared.finger.Finger.{Finger}

-- NEAR IT
-- at most 128 chips later, and 127 earlier
abbrev pub is_near : ℤ → Bool
is_near d = int_le (negsuc 127) d && int_le d (pos 127)

abbrev pub all_near : List Finger → Bool
all_near fingers = list_all (λ (f : Finger). is_near f.delta) fingers

abbrev pub has_reference : List Finger → Bool
has_reference fingers = list_any (λ (f : Finger). int_eq f.delta (pos 0)) fingers

-- each finger is near the reference path, and one is on it
abbrev pub AreNear : List Finger → Type 0
AreNear fingers = IsTrue (all_near fingers && has_reference fingers)

-- each finger has a Walsh row below 64
abbrev pub have_rows : List Finger → Bool
have_rows fingers = list_all (λ (f : Finger). nat_lt f.row 64) fingers

-- no finger's frame that begins at reference sample u begins before the file
abbrev pub all_begun : ℕ → List Finger → Bool
all_begun u fingers = list_all (λ (f : Finger). int_le f.delta (pos u)) fingers

abbrev pub AreBegun : ℕ → List Finger → Type 0
AreBegun u fingers = IsTrue (all_begun u fingers)

-- the first frame of a stream in a file that is long enough
abbrev pub low_in : {C : Type 0} → StreamOf C → ℕ
low_in s = if all_begun s.first s.fingers then 0 else 1

-- CLOSE TO IT
-- at most half the widest search window from the reference path
abbrev pub is_close : Finger → Bool
is_close f = nat_le (unsigned_abs f.delta) half_window_chips

abbrev pub all_close : List Finger → Bool
all_close fingers = list_all is_close fingers

-- one or more fingers, each of them close
pub record AreClose (fingers : List Finger) : Type 0 where
  pub some : 1 ≤ length fingers
  pub close : all_close fingers ≡ true
