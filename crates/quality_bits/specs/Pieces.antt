-- Capsules in a stream of pieces: sync frames, paging half-frames, or the signaling parts of
-- traffic frames.
use Rattle.std.specs.Prelude.{◌≡◌, ◌-◌, Bool, false, cond, if◌then◌else◌, List, [], ◌∷◌, length}
use Rattle.std.specs.Prelude.{map, take, Option, None, nat_lt, nat_le}
use Rattle.std.specs.List.{flat_map}
use Rattle.quality_bits.specs.Capsules.{stated_bits, front_capsule, still_open}

-- the mark, whether a message may begin with the piece, and the bits that follow the mark
pub record Piece : Type 0 where
  pub starts : Bool
  pub body : List Bool

-- the mark is the first bit
abbrev pub piece : List Bool → Piece
piece [] = record { starts = false; body = [] }
piece (b ∷ bits) = record { starts = b; body = bits }

abbrev pub bodies : List Piece → List Bool
bodies pieces = flat_map (λ p. p.body) pieces

-- the pieces from the last one that starts a message on; none if there is no such piece
abbrev pub from_last_start : List Piece → List Piece
from_last_start [] = []
from_last_start (p ∷ pieces) = let later = from_last_start pieces in
    if nat_lt 0 (length later) then later else cond p.starts (p ∷ pieces) []

-- all but the last
abbrev pub but_last : {A : Type 0} → List A → List A
but_last xs = take (length xs - 1) xs

-- The capsule whose last bit lies in the last of these pieces. It begins with the last piece that
-- starts a message: a piece that starts one drops any message under way.
unfoldable pub capsule_ending : List Piece → Option (List Bool)
capsule_ending pieces =
    let message = from_last_start pieces in
    if nat_le (stated_bits (bodies message)) (length (bodies (but_last message))) then None
    else front_capsule (bodies message)

-- the bits of the message that is under way after these pieces, if more bits may complete it
unfoldable pub under_way : List Piece → Option (List Bool)
under_way pieces =
    let message = from_last_start pieces in
    if nat_lt 0 (length message) then still_open (bodies message) else None

-- the open capsule, if any, has the bits of the message that is under way after these pieces, each
-- of which begins with its mark
abbrev pub CapsuleStandsFor : Option (List Bool) → List (List Bool) → Type 0
CapsuleStandsFor capsule pieces = capsule ≡ under_way (map piece pieces)
