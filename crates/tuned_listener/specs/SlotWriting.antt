-- The writer of a sleeping handset's slots, and its progress.
use Rattle.tuned_listener.specs.Common.{CheckForm, frame_most, SoftFrame}
use Rattle.std.specs.Prelude.{◌≡◌, ◌<◌, ◌≤◌, ℕ, ◌*◌, Bool, List, [], ◌∷◌, length, take, drop, None}
use Rattle.std.specs.Prelude.{sum_by, unsigned_abs, Option, Some}
use Rattle.std.specs.List.{flat_map}
use Rattle.std.specs.Option.{option_to_list}
use Rattle.paging_message.specs.HalfFrames.{half_frame_capsule_ending}
use Rattle.paging_message.specs.Reading.{paging_reading}
use Rattle.paging_message.specs.declared.message.PagingMessage.{PagingMessage}
use Rattle.tuned_listener.specs.declared.slot_writer.Page.{Page}
use Rattle.tuned_listener.specs.declared.slot_writer.SlotWriter.{SlotWriter}

-- the message that the last of these bits of half-frames completes
abbrev pub pages_ending : CheckForm → ℕ → List Bool → List PagingMessage
pages_ending check size bits =
    flat_map (λ capsule. option_to_list (paging_reading check capsule))
    (option_to_list (half_frame_capsule_ending size bits))

-- the message of a page, if there is one
abbrev pub page_list : Option Page → List PagingMessage
page_list None = []
page_list (Some page) = page.message ∷ []

-- it keeps these frames of a slot
pub record HoldsSlot (w : SlotWriter) (slot : List SoftFrame) : Type 0 where
  pub count_is : w.kept ≡ length slot
  pub softs_are : take (384 * w.kept) w.softs ≡ flat_map (λ (f : SoftFrame). f.descrambled) slot

-- its decoder has room for three frames, and the soft values it keeps are small enough to decode
pub record IsReadyForSlots (w : SlotWriter) : Type 0 where
  pub decodes : w.decoder ≡ 576
  pub few : w.kept ≤ 4
  pub lawful : w.cycle ≤ 7
  pub small : (frame : ℕ) → frame < w.kept →
      sum_by unsigned_abs (take 384 (drop (384 * frame) w.softs)) ≤ frame_most
