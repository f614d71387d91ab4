-- The mark: the sample at which a sync message's time holds.
use Rattle.heard_events.specs.Common.{superframe_chips, places, Sample, piece, from_last_start}
use Rattle.heard_events.specs.Common.{frame_start, is_in_file, known_by, Event, Sync, Mark}
use Rattle.std.specs.Prelude.{ℕ, ◌+◌, ◌-◌, ◌*◌, ◌==◌, not, Bool, false, if◌then◌else◌, List, []}
use Rattle.std.specs.Prelude.{◌∷◌, length, map, filter, nat_lt, Option, Some, None}
use Rattle.std.specs.List.{flat_map}
use Rattle.sync_message.specs.Framing.{superframes_of}
use Rattle.heard_events.specs.SyncEvents.{frames_before, heard_at}
use Rattle.heard_events.specs.Tuning.{Tuning, sync_stream, sync_bound}
use Rattle.heard_events.specs.SpelledMessages.{SpelledMessage}

-- how many of the frames before frame `next` belong to the message under way
unfoldable pub frames_open : Tuning → List Sample → ℕ → ℕ
frames_open t samples next = length (from_last_start (map piece (frames_before t samples next)))

-- The time in a message holds four superframes of 98,304 chips after the message's last one, less
-- the pilot's offset. `first` is the reference sample at which the message's first frame begins
-- (TIA/EIA-95-B, 7.7.1.3).
abbrev pub mark_at : ℕ → SpelledMessage → Mark
mark_at first heard = record {
  sample = first + superframe_chips * (superframes_of heard.capsule + 4) - 64 * heard.message.pn;
  time = heard.message.time;
  state = heard.message.lc;
  pilot = heard.message.pn;
  prat = heard.message.prat;
}

-- a message whose long-code state is 0 sets no mark
abbrev pub marks_of : ℕ → Option SpelledMessage → List Mark
marks_of first None = []
marks_of first (Some heard) = if heard.message.lc == 0 then [] else mark_at first heard ∷ []

-- the mark of the message that frame k completes
unfoldable pub marks_at : Tuning → List Sample → ℕ → List Mark
marks_at t samples k =
    marks_of (frame_start (sync_stream t) (k + 1 - frames_open t samples (k + 1)))
    (heard_at t samples k)

abbrev pub first_of : {A : Type 0} → List A → Option A
first_of [] = None
first_of (x ∷ xs) = Some x

-- the mark after n samples: that of the first message known by then that sets one
unfoldable pub mark : Tuning → List Sample → ℕ → Option Mark
mark t samples n =
    first_of (flat_map (marks_at t samples) (known_by t.count (sync_stream t) n (sync_bound n)))

-- whether an event's message sets a mark
abbrev pub sets_mark : Event → Bool
sets_mark (Sync n capsule message) = not (message.lc == 0)
sets_mark event = false

-- the number of frames of the message under way once another frame is added, whose first bit is
-- `begins`: 1 if a message begins there
abbrev pub frames_with : Bool → ℕ → ℕ
frames_with begins before = if begins then 1 else (if nat_lt 0 before then before + 1 else 0)

-- the mark that is set by the frames in the file before frame `next`
unfoldable pub mark_before : Tuning → List Sample → ℕ → Option Mark
mark_before t samples next =
    first_of
    (flat_map (marks_at t samples) (filter (is_in_file t.count (sync_stream t)) (places next)))
