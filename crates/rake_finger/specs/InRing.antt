-- The samples that a finger needs, and those that a pilot's strength needs.
use Rattle.rake_finger.specs.Common.{Form}
use Rattle.std.specs.Prelude.{ℕ, ◌+◌, ◌-◌, ◌≤◌, pos, ◌≤ℤ◌}
use Rattle.rake_finger.specs.Held.{Held}
use Rattle.rake_finger.specs.Soft.{frame_chips, finger_place}
use Rattle.rake_finger.specs.declared.finger.Finger.{Finger}

-- the ring has taken `count` samples from `place` on, and still holds them all
pub record IsHeldInRing (ring : Held) (place count : ℕ) : Type 0 where
  pub kept : ring.taken ≤ place + ring.room
  pub taken : place + count ≤ ring.taken

-- the ring holds the finger's samples of the frame that begins at reference sample `start`
pub record IsInRing (ring : Held) (form : Form) (start : ℕ) (finger : Finger) : Type 0 where
  pub begun : finger.delta ≤ℤ pos start
  pub held : IsHeldInRing ring (finger_place finger start) (frame_chips form)

-- the ring holds the 512 samples before a place
pub record HoldsBefore (ring : Held) (end : ℕ) : Type 0 where
  pub begun : 512 ≤ end
  pub held : IsHeldInRing ring (end - 512) 512
