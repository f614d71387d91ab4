-- The laws of the text for a sleeping handset's slots.
use Rattle.tuned_listener.specs.Common.{superframe_chips, Sample, mark, AreNear, Tuning, Mark}
use Rattle.tuned_listener.specs.Common.{sync_stream, tuned_text}
use Rattle.std.specs.Prelude.{◌≡◌, ℕ, ◌+◌, ◌*◌, IsTrue, List, [], ◌∷◌, length, take, drop, ℤ, pos}
use Rattle.std.specs.Prelude.{◌-ℤ◌, unsigned_abs, Some, None}
use Rattle.heard_events.specs.Channels.{channel_stream}
use Rattle.heard_events.specs.declared.channel.CodeChannel.TheVariants.{Paging}
use Rattle.event_tap.specs.SlotLines.{is_heard, lines_by_times}
use Rattle.event_tap.specs.declared.tuned_text.TunedText.TheVariants.{Slots}

-- ---- slots by their times

-- The text consists of the lines of the slots that are heard,
abbrev pub IsWrittenByTimes : Type 0
IsWrittenByTimes =
    (key cycle : ℕ) (t : Tuning) (number : ℕ) (m : Mark) (samples : List Sample) →
    AreNear (sync_stream t).fingers → mark t samples (length samples) ≡ Some m →
    tuned_text (Slots key cycle) t (Paging number) samples
    ≡ lines_by_times key cycle t number m samples

-- and is empty if no mark is set.
abbrev pub NeedsMark : Type 0
NeedsMark =
    (key cycle : ℕ) (t : Tuning) (number : ℕ) (samples : List Sample) →
    mark t samples (length samples) ≡ None →
    tuned_text (Slots key cycle) t (Paging number) samples ≡ []

-- ---- sleep

-- Two files agree in the samples of a slot that begins at reference sample u. The samples that a
-- finger takes for the slot begin earlier by the finger's delta.
abbrev pub AgreeInSlot : List Sample → List Sample → ℕ → List ℤ → Type 0
AgreeInSlot one other u [] = Unit {0}
AgreeInSlot one other u (delta ∷ deltas) =
    (take superframe_chips (drop (unsigned_abs (pos u -ℤ delta)) one)
    ≡ take superframe_chips (drop (unsigned_abs (pos u -ℤ delta)) other))
    × AgreeInSlot one other u deltas

-- they agree in each slot that is heard in n samples
abbrev pub AgreeWhereHeard : ℕ → ℕ → Tuning → ℕ → Mark → List Sample → List Sample → ℕ → Type 0
AgreeWhereHeard key cycle t number m one other n =
    (slot : ℕ) →
    IsTrue (is_heard key cycle t.count (channel_stream t (Paging number) m) m n slot) →
    AgreeInSlot one other (m.sample + superframe_chips * slot) t.deltas

-- Two files have the same text if they have the same length and tuning, one of them sets a mark,
-- and they agree before the mark and in the slots that are heard.
abbrev pub SleepsThroughTheRest : Type 0
SleepsThroughTheRest =
    (key cycle : ℕ) (t : Tuning) (number : ℕ) (m : Mark) (one other : List Sample) →
    AreNear (sync_stream t).fingers → length one ≡ length other →
    mark t one (length one) ≡ Some m → take m.sample one ≡ take m.sample other →
    AgreeWhereHeard key cycle t number m one other (length one) →
    tuned_text (Slots key cycle) t (Paging number) one
    ≡ tuned_text (Slots key cycle) t (Paging number) other
