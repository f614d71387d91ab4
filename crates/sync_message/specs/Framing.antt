-- The frames of the sync channel: the SOM bit, which is 1 if a message starts, and 31 bits of body.
use Rattle.std.specs.Prelude.{ℕ, ◌+◌, ◌/◌, Bool, List, length}
pub use Rattle.quality_bits.specs.Pieces.{CapsuleStandsFor}

-- the number of superframes of a capsule; each has three frames, and so 93 bits of body
abbrev pub superframes_of : List Bool → ℕ
superframes_of capsule = (length capsule + 92) / 93
