-- The events of a paging channel (TIA/EIA-95-B, 7.7.2.1).
use Rattle.heard_events.specs.Common.{places, CheckForm, Sample, PagingMessage, is_in_file, Event}
use Rattle.heard_events.specs.Common.{known_now, Mark}
use Rattle.std.specs.Prelude.{ℕ, ◌+◌, ◌-◌, Bool, List, [], ◌++◌, length, take, filter, Option, Some}
use Rattle.std.specs.Prelude.{None, nat_lt, if◌then◌else◌}
use Rattle.std.specs.List.{flat_map, range_with_len}
use Rattle.std.specs.Option.{option_to_list}
use Rattle.paging_message.specs.HalfFrames.{half_frame_body, half_frame_capsule_ending}
use Rattle.paging_message.specs.Reading.{paging_reading}
use Rattle.heard_events.specs.PagingStreams.{paging_rate, paging_stream, paging_bound}
use Rattle.heard_events.specs.Streams.{Stream, frame_own_bits}
use Rattle.heard_events.specs.Tuning.{Tuning}
use Rattle.heard_events.specs.declared.event.Event.TheVariants.{Paging}
use Rattle.heard_events.specs.SpelledMessages.{SpelledPage, as_spelled, spelled_in}

-- a capsule, and the message that it spells
abbrev pub as_spelled_page : List Bool → Option PagingMessage → Option SpelledPage
as_spelled_page = as_spelled

-- the message of a capsule; none if the capsule has a fault
abbrev pub page_in : CheckForm → Option (List Bool) → Option SpelledPage
page_in form = spelled_in (paging_reading form)

-- The bits of the frames in the file before frame `next`. These all follow one another: a mark lies
-- so far after the file's first sample that frame 0 is in the file if any later frame is.
unfoldable pub paging_bits_before : ℕ → List Sample → Stream → ℕ → List Bool
paging_bits_before count samples s next =
    flat_map (frame_own_bits count samples s) (filter (is_in_file count s) (places next))

-- the bits up to and including bit i of frame k
unfoldable pub bits_up_to : ℕ → List Sample → Stream → ℕ → ℕ → List Bool
bits_up_to count samples s k i =
    paging_bits_before count samples s k ++ take (i + 1) (frame_own_bits count samples s k)

-- the message that bit i of frame k of a paging channel completes
unfoldable pub page_at : Tuning → ℕ → Mark → List Sample → ℕ → ℕ → Option SpelledPage
page_at t channel m samples k i =
    page_in t.check30
    (half_frame_capsule_ending (half_frame_body (paging_rate m.prat))
    (bits_up_to t.count samples (paging_stream t channel m) k i))

-- the messages that the bits of frame k complete, from bit `from` on, in order
unfoldable pub pages_from : Tuning → ℕ → Mark → List Sample → ℕ → ℕ → List SpelledPage
pages_from t channel m samples k from =
    let own = frame_own_bits t.count samples (paging_stream t channel m) k in
    flat_map (λ i. option_to_list (page_at t channel m samples k i))
    (range_with_len from (length own - from))

-- the messages that become known at n samples
unfoldable pub pages_at : Tuning → ℕ → Mark → List Sample → ℕ → List SpelledPage
pages_at t channel m samples n =
    flat_map (λ k. pages_from t channel m samples k 0)
    (known_now t.count (paging_stream t channel m) n (paging_bound n))

-- the same after the mark, if it is set; with PRAT 2 or 3 no channel is received
abbrev pub pages_if_marked : Tuning → ℕ → Option Mark → List Sample → ℕ → List SpelledPage
pages_if_marked t channel None samples n = []
pages_if_marked t channel (Some m) samples n =
    if nat_lt m.prat 2 then pages_at t channel m samples n else []

-- the event of a message that is known at n samples
abbrev pub page_event : ℕ → SpelledPage → Event
page_event n page = Paging n page.capsule page.message
