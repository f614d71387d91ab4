-- The laws of slots, by the signs of a paging channel's soft values.
use Rattle.clean_frames.specs.Common.{CheckForm, cycled, paging_frame_size, half_frame_body}
use Rattle.clean_frames.specs.Common.{PagingMessage}
use Rattle.clean_link.specs.Common.{superframe_chips, places, Sample, Width, sent, Rate, page_cycle}
use Rattle.clean_link.specs.Common.{sent_paging_rate, continued_symbols, CellPlan, Page, PagingPlan}
use Rattle.clean_link.specs.Common.{SyncPlan, mark, Tuning, Mark, IsReceivable}
use Rattle.clean_signal.specs.Common.{HaveSigns}
use Rattle.std.specs.List.{Contains, flat_map}
use Rattle.std.specs.Prelude.{ℕ, ◌+◌, ◌*◌, ◌<◌, ◌≡◌, Bool, List, length, ℤ, Some, ◌-◌, ◌/◌, nat_lt}
use Rattle.std.specs.Prelude.{if◌then◌else◌, [], filter, Option, None, map}
use Rattle.clean_frames.specs.WholePages.{AreWholePages, end_chip, message_in, cycle_half_frames}
use Rattle.clean_frames.specs.WholePages.{is_between, placed, Placed}
use Rattle.clean_frames.specs.WholeSendings.{told_with_sync}
use Rattle.clean_link.specs.CleanLink.{IsOnPath}
use Rattle.clean_link.specs.SentSigns.{FromMark, IsCellMark, MarkIsAt, PagingFrameHasSigns}
use Rattle.clean_signal.specs.Signals.{IsWholeChannel}
use Rattle.event_tap.specs.SlotLines.{lines_of_slots, slot_pages, slot_softs, slot_lines}
use Rattle.frame_decoder.specs.Spans.{Channel, own_bits, paging_channel}
use Rattle.heard_events.specs.Channels.{channel_stream}
use Rattle.slot_mode.specs.Frames.{slot_bits}
use Rattle.slot_mode.specs.Slots.{is_monitored}
use Rattle.heard_events.specs.PagingStreams as heard
use Rattle.heard_events.specs.declared.channel.CodeChannel.TheVariants as channels

-- the bits of the four frames from frame `first` on, if a channel sends `bits_of k` in frame k
abbrev pub bits_in_slot : (ℕ → List Bool) → ℕ → List Bool
bits_in_slot bits_of first = flat_map (λ k. bits_of (first + k)) (places 4)

-- the message of a page that is sent
abbrev pub placed_message : Placed → PagingMessage
placed_message p = message_in p.page.body

-- The pages of one round of a cycle whose run begins in the four frames from frame `first` on and
-- which also end in them, in order. The round begins `half_frames` half-frames after the first one.
-- A run begins with a half-frame; a page ends with its last bit.
abbrev pub round_in_slot : ℕ → ℕ → List Placed → List PagingMessage
round_in_slot first half_frames pages =
    map placed_message (filter (is_between (2 * first) (2 * (first + 4)) half_frames) pages)

-- The pages of all rounds of the cycle: the first 2 (first + 4) rounds are enough, because no later
-- one begins before the slot ends.
unfoldable pub pages_in_slot : Rate → CheckForm → List Page → ℕ → List PagingMessage
pages_in_slot rate form pages first =
    flat_map
    (λ r. round_in_slot first (cycle_half_frames rate form pages * r)
    (placed (half_frame_body rate) form 0 0 pages))
    (places (2 * (first + 4)))

-- Slot n is the cell's superframe n: 98,304 chips from local chip 98,304 n on, with the paging
-- channels' frames from 4 n on. The number of slots from slot `first` on that end in the file:
abbrev pub slots_to_end : CellPlan → ℕ → ℕ
slots_to_end plan first = end_chip plan / superframe_chips - first

-- the line of slot n, with the number of samples at which it ends and its time, and the lines of
-- its pages
abbrev pub sent_slot : CellPlan → PagingPlan → ℕ → List ℕ
sent_slot plan p n =
    slot_lines (superframe_chips * (n + 1) - plan.link.start) (plan.cell.time + n)
    (pages_in_slot (sent_paging_rate plan.sync) plan.cell.check30 p.pages (4 * n))

-- the slots that the handset of a key monitors in a cycle, among those from slot `first` on that
-- end in the file, counted from slot `first`
abbrev pub monitored_slots : ℕ → ℕ → CellPlan → ℕ → List ℕ
monitored_slots key cycle plan first =
    filter (λ i. is_monitored (plan.cell.time + (first + i)) key cycle)
    (places (slots_to_end plan first))

-- the lines of these slots after a mark at the first chip of slot `first`, if one is set
abbrev pub slots_after_mark : ℕ → ℕ → CellPlan → PagingPlan → Option ℕ → List ℕ
slots_after_mark key cycle plan p None = []
slots_after_mark key cycle plan p (Some first) =
    flat_map (λ i. sent_slot plan p (first + i)) (monitored_slots key cycle plan first)

-- these lines, or none if the cell sends no sync channel or its PRAT is 2 or 3
abbrev pub slots_after : ℕ → ℕ → CellPlan → PagingPlan → Option ℕ → Option SyncPlan → List ℕ
slots_after key cycle plan p at None = []
slots_after key cycle plan p at (Some sync) =
    if nat_lt sync.message.prat 2 then slots_after_mark key cycle plan p at else []

-- What is written for the handset of a key that monitors one of the cell's paging channels in a
-- cycle: the first whole transmission of the sync channel sets the mark.
unfoldable pub slots_sent : ℕ → ℕ → CellPlan → PagingPlan → List ℕ
slots_sent key cycle plan p = slots_after key cycle plan p (told_with_sync plan plan.sync) plan.sync

-- ---- frames

-- the symbols of n frames from frame `first` on, frame after frame in the order in which they are
-- sent, for a source of bits whose encoder continues from frame to frame
abbrev pub sent_in_span : Channel → (ℕ → List Bool) → ℕ → ℕ → List Bool
sent_in_span c bits_of first frames =
    flat_map (λ j. sent c.shape c.repeats (continued_symbols bits_of (first + j))) (places frames)

-- Soft values with the signs of these symbols, whatever their sizes, give back the bits of each
-- frame, wherever the span begins: the encoder's bits before it needn't be known.
abbrev pub SpansComeBackBySigns : Type 0
SpansComeBackBySigns =
    (c : Channel) (symbols : ℕ) (bits_of : ℕ → List Bool) (first frames own : ℕ)
    (softs : List ℤ) →
    IsWholeChannel c symbols → ((k : ℕ) → length (bits_of k) ≡ c.bits) → own < frames →
    HaveSigns (sent_in_span c bits_of first frames) softs →
    own_bits c frames own softs ≡ bits_of (first + own)

-- So the bits of a slot are those that are sent in its four frames, though each frame is decoded
-- only with its neighbors in the slot.
abbrev pub SlotBitsComeBackBySigns : Type 0
SlotBitsComeBackBySigns =
    (rate : Rate) (bits_of : ℕ → List Bool) (first : ℕ) (softs : List ℤ) →
    ((k : ℕ) → length (bits_of k) ≡ (paging_channel rate).bits) →
    HaveSigns (sent_in_span (paging_channel rate) bits_of first 4) softs →
    slot_bits rate softs ≡ bits_in_slot bits_of first

-- ---- pages

-- The bits of four frames of a cycle of pages, from any frame on, spell exactly the pages whose run
-- begins in these frames and which end in them, in order. Nothing is received of a page that was
-- under way before them.
abbrev pub SlotPagesComeBack : Type 0
SlotPagesComeBack =
    (rate : Rate) (form : CheckForm) (pages : List Page) (first : ℕ) → AreWholePages rate pages →
    slot_pages form rate
    (bits_in_slot (cycled (page_cycle rate form pages) (paging_frame_size rate)) first)
    ≡ pages_in_slot rate form pages first

-- ---- in a file

-- A handset with one finger on the path of a cell that sends this paging channel, and a mark that
-- is the cell's.
pub record HearsSlots (width : Width) (plan : CellPlan) (p : PagingPlan) (t : Tuning) (m : Mark)
    (superframes : ℕ) : Type 0 where
  pub receivable : IsReceivable width plan
  pub tuned : IsOnPath plan t
  pub sent : Contains plan.paging p
  pub cell : IsCellMark plan m superframes

-- Exactly the pages that are sent in slot i, counted from the mark on, come back from it.
abbrev pub AreSlotPages : CellPlan → PagingPlan → Tuning → Mark → ℕ → ℕ → List Sample → Type 0
AreSlotPages plan p t m superframes i samples =
    slot_pages t.check30 (heard.paging_rate m.prat)
    (slot_bits (heard.paging_rate m.prat)
    (slot_softs samples (channel_stream t (channels.Paging p.number) m) i))
    ≡ pages_in_slot (sent_paging_rate plan.sync) plan.cell.check30 p.pages (4 * (superframes + i))

-- This holds for each slot from the mark on that ends in a file of any origin, if the soft values
-- of its four frames have the sent signs.
abbrev pub SlotsComeBack : Type 0
SlotsComeBack =
    (width : Width) (plan : CellPlan) (p : PagingPlan) (t : Tuning) (m : Mark)
    (superframes i : ℕ) (samples : List Sample) →
    HearsSlots width plan p t m superframes → i < slots_to_end plan superframes →
    ((k : ℕ) → k < 4 → PagingFrameHasSigns plan p samples (4 * (superframes + i) + k)) →
    AreSlotPages plan p t m superframes i samples

-- If each of the channel's frames from a mark on has these signs, what is written for a handset
-- that sleeps through all slots but those of a key and a cycle is what the cell sends: slot by
-- slot, the slot's line and the lines of its pages.
abbrev pub SlotTextsComeBack : Type 0
SlotTextsComeBack =
    (width : Width) (plan : CellPlan) (p : PagingPlan) (t : Tuning) (key cycle : ℕ)
    (at : Option ℕ) (samples : List Sample) → IsReceivable width plan →
    length samples ≡ plan.link.samples → IsOnPath plan t → Contains plan.paging p →
    MarkIsAt plan (mark t samples plan.link.samples) at →
    FromMark (PagingFrameHasSigns plan p samples) at →
    lines_of_slots key cycle t p.number samples ≡ slots_after key cycle plan p at plan.sync
