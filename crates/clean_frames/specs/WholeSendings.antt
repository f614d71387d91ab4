-- The whole transmissions of a sync channel: those whose chips all lie in a file.
use Rattle.clean_frames.specs.Common.{superframe_chips, places, sync_capsule, SyncFields, phase_at}
use Rattle.clean_frames.specs.Common.{superframes_a_sending, CellPlan, SyncPlan, told_superframes}
use Rattle.std.specs.Prelude.{ℕ, ◌+◌, ◌-◌, ◌*◌, ◌/◌, ◌%◌, ◌&&◌, Bool, if◌then◌else◌, nat_le, List}
use Rattle.std.specs.Prelude.{[], ◌∷◌, length, filter, Option, None, Some}

-- ---- frames

-- A frame is known at the end of the next one, or at its own end if the next is not in the file.
abbrev pub heard_after : ℕ → ℕ → ℕ → ℕ
heard_after frame count ends = if nat_le (ends + frame) count then ends + frame else ends

-- the number of the cell's first sync frame that begins in the file
abbrev pub first_sync_frame : CellPlan → ℕ
first_sync_frame plan =
    (plan.link.start + (32768 - phase_at plan plan.link.start) % 32768 - 64 * plan.cell.pn) / 32768

-- ---- whole transmissions

-- the local chips of a transmission: the first chip of its first frame, and the end of the frame
-- that holds its capsule's last bit
abbrev pub sending_begins : CellPlan → SyncFields → ℕ → ℕ
sending_begins plan m sending =
    64 * plan.cell.pn + superframe_chips * (sending * superframes_a_sending plan.cell m)

abbrev pub sending_ends : CellPlan → SyncFields → ℕ → ℕ
sending_ends plan m sending =
    sending_begins plan m sending + 32768 * ((length (sync_capsule plan.cell.check30 m) + 30) / 31)

-- whether the whole transmission lies in the file
abbrev pub is_whole : CellPlan → SyncFields → ℕ → Bool
is_whole plan m sending =
    nat_le plan.link.start (sending_begins plan m sending) &&
    nat_le (sending_ends plan m sending) (plan.link.start + plan.link.samples)

abbrev pub whole_sendings : CellPlan → SyncFields → List ℕ
whole_sendings plan m =
    filter (is_whole plan m) (places ((plan.link.start + plan.link.samples) / superframe_chips + 1))

-- ---- the mark that the first of them sets

-- the number of superframes from local chip 0 to the mark, which the first whole transmission sets
abbrev pub told_by_first : CellPlan → SyncFields → List ℕ → Option ℕ
told_by_first plan m [] = None
told_by_first plan m (sending ∷ sendings) = Some (told_superframes plan.cell m sending)

-- the number of superframes up to the mark, if the cell sends a sync channel
abbrev pub told_with_sync : CellPlan → Option SyncPlan → Option ℕ
told_with_sync plan None = None
told_with_sync plan (Some sync) = told_by_first plan sync.message (whole_sendings plan sync.message)
