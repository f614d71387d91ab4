-- The samples in a ring.
use Rattle.rake_finger.specs.Common.{Sample}
use Rattle.std.specs.Prelude.{◌≡◌, ℕ, ◌+◌, ◌%◌, ◌<◌, ◌≤◌, List, length, get_or}

-- A ring: its room in samples, the number of samples it has taken, and its cells. Sample i is in
-- cell i modulo the room.
pub record Held : Type 0 where
  pub room : ℕ
  pub taken : ℕ
  pub cells : List Sample

-- The ring has taken these samples, and holds the last of them, as many as it has room for.
pub record HoldsLast (ring : Held) (samples : List Sample) : Type 0 where
  pub taken : ring.taken ≡ length samples
  pub last : (i : ℕ) (d : Sample) → i < length samples → length samples ≤ i + ring.room →
      get_or ring.cells (i % ring.room) d ≡ get_or samples i d
