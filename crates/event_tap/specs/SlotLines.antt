-- The slots of a sleeping handset (TIA/EIA-95-B, 6.6.2.1.1.3) after a mark, by their times: the
-- messages of a slot, and its text.
use Rattle.event_tap.specs.Common.{places, CheckForm, Sample, Rate, channel_stream, mark, Stream}
use Rattle.event_tap.specs.Common.{paging_rate, Tuning, Paging, Mark, slot_bits, is_monitored}
use Rattle.std.specs.Prelude.{ℕ, ◌+◌, ◌*◌, ◌/◌, ◌&&◌, Bool, nat_le, nat_lt, List, [], ◌++◌, length}
use Rattle.std.specs.Prelude.{filter, ℤ, Option, None, Some}
use Rattle.std.specs.List.{flat_map, list_all}
use Rattle.std.specs.Option.{option_to_list}
use Rattle.chip_core.specs.Air.{superframe_chips}
use Rattle.paging_message.specs.HalfFrames.{capsules_in, half_frame_body}
use Rattle.paging_message.specs.Reading.{paging_reading}
use Rattle.paging_message.specs.declared.message.PagingMessage.{PagingMessage}
use Rattle.rake_finger.specs.Streams.{frame_end, frame_softs, frame_start, is_in_file}
use Rattle.event_tap.specs.PagingLines.{paging_line, slot_line}

-- ---- a slot's messages and lines

-- the messages of the bits of a slot: those whose capsules lie entirely in these bits
unfoldable pub slot_pages : CheckForm → Rate → List Bool → List PagingMessage
slot_pages check rate bits =
    flat_map (λ capsule. option_to_list (paging_reading check capsule))
    (capsules_in (half_frame_body rate) bits)

-- the line of a slot that ends after `place` samples, and those of its messages
abbrev pub slot_lines : ℕ → ℕ → List PagingMessage → List ℕ
slot_lines place time pages =
    slot_line place time (length pages) ++ flat_map (paging_line place) pages

-- ---- slots by their times

-- Slots are counted from the mark on. Each has four frames.
abbrev pub frame_of_slot : ℕ → ℕ → ℕ
frame_of_slot slot i = 4 * slot + i

-- the number of samples at which one of its frames ends
abbrev pub frame_of_slot_end : Stream → ℕ → ℕ → ℕ
frame_of_slot_end s slot i = frame_end s.fingers s.form (frame_start s (frame_of_slot slot i))

-- whether all of its frames lie in a file of `count` samples, and end within the first n
abbrev pub is_slot_within : ℕ → Stream → ℕ → ℕ → Bool
is_slot_within count s n slot =
    list_all
    (λ i. is_in_file count s (frame_of_slot slot i) && nat_le (frame_of_slot_end s slot i) n)
    (places 4)

-- Whether it is heard in the first n samples: the handset monitors its time, the mark's data rate
-- is one of the two that a paging channel has, and its frames lie within these samples.
abbrev pub is_heard : ℕ → ℕ → ℕ → Stream → Mark → ℕ → ℕ → Bool
is_heard key cycle count s m n slot =
    is_monitored (m.time + slot) key cycle && nat_lt m.prat 2 && is_slot_within count s n slot

-- the soft values of its frames
abbrev pub slot_softs : List Sample → Stream → ℕ → List ℤ
slot_softs samples s slot = flat_map (λ i. frame_softs samples s (frame_of_slot slot i)) (places 4)

-- its line, and those of the messages of its bits
abbrev pub lines_of_slot : CheckForm → Mark → List Sample → Stream → ℕ → List ℕ
lines_of_slot check m samples s slot =
    let rate = paging_rate m.prat in
    slot_lines (frame_of_slot_end s slot 3) (m.time + slot)
    (slot_pages check rate (slot_bits rate (slot_softs samples s slot)))

-- a bound above the number of slots that end within n samples
abbrev pub slot_bound : ℕ → ℕ
slot_bound n = n / superframe_chips + 1

-- the lines of all slots that are heard in these samples, in the order of their times
abbrev pub lines_by_times : ℕ → ℕ → Tuning → ℕ → Mark → List Sample → List ℕ
lines_by_times key cycle t number m samples =
    let s = channel_stream t (Paging number) m in
    let n = length samples in
    flat_map (lines_of_slot t.check30 m samples s)
    (filter (is_heard key cycle t.count s m n) (places (slot_bound n)))

-- the same for a mark that may be missing; without one there are no lines
abbrev pub lines_if_marked : ℕ → ℕ → Tuning → ℕ → List Sample → Option Mark → List ℕ
lines_if_marked key cycle t number samples None = []
lines_if_marked key cycle t number samples (Some m) = lines_by_times key cycle t number m samples

-- the lines of the slots after the mark that the samples set
abbrev pub lines_of_slots : ℕ → ℕ → Tuning → ℕ → List Sample → List ℕ
lines_of_slots key cycle t number samples =
    lines_if_marked key cycle t number samples (mark t samples (length samples))
