-- Half-frames of the paging channel (TIA/EIA-95-B, 7.7.2.1): the SCI bit, which is 1 if a capsule
-- begins right after it, and 95 bits of body at 9600 bits per second, or 47 at 4800.
use Rattle.paging_message.specs.Common.{places, stated_bits, is_stated, still_open}
use Rattle.std.specs.Prelude.{◌≡◌, ℕ, zero, suc, ◌+◌, ◌-◌, ◌*◌, ◌/◌, ◌%◌, ◌==◌, if◌then◌else◌, ◌&&◌}
use Rattle.std.specs.Prelude.{Bool, List, [], ◌∷◌, length, map, take, drop, Option, Some, None}
use Rattle.std.specs.Prelude.{nat_le}
use Rattle.std.specs.List.{flat_map}
use Rattle.std.specs.Option.{option_to_list}
use Rattle.quality_bits.specs.declared.rate.Rate.{Rate}
use Rattle.quality_bits.specs.declared.rate.Rate.TheVariants.{R9600, R4800, R2400, R1200}
use Rattle.quality_bits.specs.Pieces.{Piece, piece, bodies, from_last_start}

-- the rates of a paging channel
abbrev pub IsPagingRate : Rate → Type 0
IsPagingRate R9600 = Unit {0}
IsPagingRate R4800 = Unit {0}
IsPagingRate R2400 = ⊥
IsPagingRate R1200 = ⊥

-- the number of body bits of a half-frame
abbrev pub half_frame_body : Rate → ℕ
half_frame_body R9600 = 95
half_frame_body R4800 = 47
half_frame_body R2400 = 23
half_frame_body R1200 = 11

-- how many body bits of the current half-frame are left, `count` body bits after a start
unfoldable pub bits_left : ℕ → ℕ → ℕ
bits_left size count = (size - count % size) % size

-- The capsule that ends with the last of the bits, if capsules follow one another from the start.
-- After a capsule another one follows if at least 8 bits of its last half-frame are left. `count`
-- is the number of bits before, and the fuel is a number of capsules.
unfoldable pub ends_chain : ℕ → ℕ → ℕ → List Bool → Option (List Bool)
ends_chain zero size count bits = None
ends_chain (suc fuel) size count bits =
    let later = count + stated_bits bits in
    let rest = drop (stated_bits bits) bits in
    if is_stated bits && nat_le (stated_bits bits) (length bits)
    then (if nat_le (length bits) (stated_bits bits) then Some bits
    else (if nat_le 8 (bits_left size later) then ends_chain fuel size later rest else None))
    else None

-- the half-frames of a stream of bits; the last may be cut short
unfoldable pub half_frames : ℕ → List Bool → List Piece
half_frames size bits =
    map (λ h. piece (take (size + 1) (drop ((size + 1) * h) bits)))
    (places ((length bits + size) / (size + 1)))

-- the capsule that ends with the last bit of the stream; none ends with an SCI bit
unfoldable pub half_frame_capsule_ending : ℕ → List Bool → Option (List Bool)
half_frame_capsule_ending size bits =
    let message = bodies (from_last_start (half_frames size bits)) in
    if length bits % (size + 1) == 1 then None else ends_chain (length message) size 0 message

-- the capsules that end in a stream of bits, in order
unfoldable pub capsules_in : ℕ → List Bool → List (List Bool)
capsules_in size bits =
    flat_map (λ i. option_to_list (half_frame_capsule_ending size (take (i + 1) bits)))
    (places (length bits))

-- The bits of the capsule that is open after these, if more bits may complete it. They are the
-- empty list right after a capsule that another one may follow.
unfoldable pub open_chain : ℕ → ℕ → ℕ → List Bool → Option (List Bool)
open_chain zero size count bits = None
open_chain (suc fuel) size count bits =
    let later = count + stated_bits bits in
    let rest = drop (stated_bits bits) bits in
    if is_stated bits && nat_le (stated_bits bits) (length bits)
    then (if nat_le 8 (bits_left size later) then open_chain fuel size later rest else None)
    else still_open bits

abbrev pub opened : ℕ → List Piece → Option (List Bool)
opened size [] = None
opened size (p ∷ pieces) =
    open_chain (suc (length (bodies (p ∷ pieces)))) size 0 (bodies (p ∷ pieces))

unfoldable pub half_under_way : ℕ → List Bool → Option (List Bool)
half_under_way size bits = opened size (from_last_start (half_frames size bits))

-- a framer: a half-frame's number of body bits, the number of bits taken of the current one, and
-- the bits of the open capsule
pub record Framing : Type 0 where
  pub size : ℕ
  pub place : ℕ
  pub open_bits : Option (List Bool)

-- a framer that has taken these bits
pub record HalfFramesStandFor (framer : Framing) (bits : List Bool) : Type 0 where
  pub placed : framer.place ≡ length bits % (framer.size + 1)
  pub under_way : framer.open_bits ≡ half_under_way framer.size bits
