-- Worked values.
use Rattle.paging_message.specs.Common.{number, binary, places, capsule, is_stated, M30}
use Rattle.std.specs.Prelude.{◌≡◌, refl, ℕ, ◌+◌, ◌*◌, ◌-◌, Bool, true, false, List, [], ◌∷◌, ◌++◌}
use Rattle.std.specs.Prelude.{replicate, length, take, map, Some, None}
use Rattle.chip_core.specs.declared.check_form.CheckForm.TheVariants.{Plain}
use Rattle.message_layout.specs.Spelling.{spelling}
use Rattle.quality_bits.specs.Quality.{check_bits}
use Rattle.paging_message.specs.HalfFrames.{bits_left, ends_chain, half_frames}
use Rattle.paging_message.specs.HalfFrames.{half_frame_capsule_ending}
use Rattle.paging_message.specs.Laying.{Laid, laid_on, nothing_laid, half_frames_of, framed, fill}
use Rattle.paging_message.specs.Messages.{message_body, paging_capsule}
use Rattle.paging_message.specs.Admitted.{admits}
use Rattle.paging_message.specs.Reading.{body_reading, is_body, message_at, paging_reading}
use Rattle.paging_message.specs.System.{system_of}
use Rattle.paging_message.specs.declared.channels.ChannelFields.{ChannelFields}
use Rattle.paging_message.specs.declared.neighbors.NeighborFields.{NeighborFields}
use Rattle.paging_message.specs.declared.message.PagingMessage.TheVariants.{Channels, Neighbors}
use Rattle.paging_message.specs.declared.message.PagingMessage.TheVariants.{Other, System}

-- a CDMA Channel List: `34:04ff8046c0`, nine octets as a capsule
one_channel : ChannelFields
one_channel = record { pn = 511; seq = 0; freqs = 283 ∷ []; rest = [] }

channel_spelled :
    message_body (Channels one_channel) ++ replicate 6 false ≡ binary 40 0x04ff8046c0
unfolding one_channel message_body spelling binary
channel_spelled = refl

-- a Neighbor List of two neighbors, followed by three bits
two_neighbors : NeighborFields
two_neighbors =
    record {
      pn = 511;
      seq = 0;
      inc = 4;
      configs = 0 ∷ 7 ∷ [];
      pns = 4 ∷ 508 ∷ [];
      rest = binary 3 5;
    }

neighbors_spelled :
    message_body (Neighbors two_neighbors) ++ replicate 2 false ≡ binary 56 0x03ff808009ff94
unfolding two_neighbors message_body spelling binary
neighbors_spelled = refl

-- a System Parameters Message in which the value of each field is its place in the table, or less
places_in_order : List ℕ
places_in_order =
    0 ∷ 1 ∷ 2 ∷ 3 ∷ 4 ∷ 5 ∷ 6 ∷ 1 ∷ 0 ∷ 9 ∷ 10 ∷ 3 ∷ 4 ∷ 1 ∷ 0 ∷ 1 ∷ 0 ∷ 1 ∷ 0 ∷ 19 ∷ 20 ∷ 21 ∷ 22
    ∷ 7 ∷ 8 ∷ 9 ∷ 10 ∷ 11 ∷ 12 ∷ 1 ∷ 0 ∷ 15 ∷ 1 ∷ 17 ∷ 18 ∷ 3 ∷ 4 ∷ []

system_spelled :
    message_body (System (system_of places_in_order [])) ++ replicate 2 false
    ≡ binary 224 0x0100020008000c012e800269ca898000280000540b3c4d2f27d148d0
unfolding places_in_order system_of message_body spelling binary
system_spelled = refl

channel_octets : (length (paging_capsule Plain (Channels one_channel)) ≡ 72) ×
    (number (take 8 (paging_capsule Plain (Channels one_channel))) ≡ 9)
unfolding one_channel paging_capsule message_body spelling capsule check_bits binary places
channel_octets = (refl, refl)

-- reading returns the message that was spelled
channel_read :
    paging_reading Plain (paging_capsule Plain (Channels one_channel)) ≡ Some (Channels one_channel)
unfolding one_channel paging_reading body_reading is_body admits message_at
    paging_capsule message_body spelling capsule check_bits binary places
channel_read = refl

-- the longest message of type 9
longest : length (paging_capsule Plain (Other (record { kind = 9; bits = replicate 1138 false })))
    ≡ 1184
unfolding paging_capsule message_body spelling capsule check_bits binary places
longest = refl

-- A capsule of 94 octets fills eight half-frames except for 8 bits, and one of 6 octets follows it.
-- The check of the first is written out, so that it is computed only once.
first : List Bool
unfolding binary
first = binary 16 0x5e09 ++ replicate 706 false ++ binary 30 0x04447c6e

first_checked : first ≡ capsule M30 Plain (binary 8 9 ++ replicate 706 false)
unfolding first capsule check_bits binary places
first_checked = refl

second : List Bool
unfolding capsule check_bits binary places
second = capsule M30 Plain (binary 8 9 ++ replicate 2 true)

both : Laid
unfolding first second laid_on fill
both = laid_on 95 (laid_on 95 nothing_laid false first) true second

stream : List Bool
unfolding both half_frames_of framed fill places
stream = half_frames_of 95 both

stream_length : length stream ≡ 9 * 96
unfolding stream both first second laid_on half_frames_of framed fill capsule check_bits binary
    places
stream_length = refl

first_heard : half_frame_capsule_ending 95 (take (8 * 96 - 8) stream) ≡ Some first
unfolding stream both first second laid_on half_frames_of framed fill capsule check_bits binary
    places half_frame_capsule_ending half_frames ends_chain bits_left is_stated
first_heard = refl

second_heard : half_frame_capsule_ending 95 (take (8 * 96 + 1 + 40) stream) ≡ Some second
unfolding stream both first second laid_on half_frames_of framed fill capsule check_bits binary
    places half_frame_capsule_ending half_frames ends_chain bits_left is_stated
second_heard = refl

nothing_earlier : half_frame_capsule_ending 95 (take (8 * 96 + 40) stream) ≡ None
unfolding stream both first second laid_on half_frames_of framed fill capsule check_bits binary
    places half_frame_capsule_ending half_frames ends_chain bits_left is_stated
nothing_earlier = refl

-- after the first capsule, 8 body bits of the eighth half-frame are left; after a capsule of 11
-- octets, 7 of the first half-frame
left_after_capsules : (bits_left 95 (length first) ≡ 8) × (bits_left 95 88 ≡ 7)
unfolding first bits_left binary places
left_after_capsules = (refl, refl)

-- a length of 4 or of 149 octets opens no capsule
shut : map (λ octets. half_frame_capsule_ending 47
    (true ∷ (binary 8 octets ++ replicate 24 false))) (4 ∷ 149 ∷ []) ≡ None ∷ None ∷ []
unfolding binary places half_frame_capsule_ending half_frames ends_chain bits_left is_stated
shut = refl

-- a capsule of 5 octets is carried
shortest : half_frame_capsule_ending 47 (true ∷ (binary 8 5 ++ replicate 32 false))
    ≡ Some (binary 8 5 ++ replicate 32 false)
unfolding binary places half_frame_capsule_ending half_frames ends_chain bits_left is_stated
shortest = refl
