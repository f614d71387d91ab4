-- The slots of a sleeping handset (TIA/EIA-95-B, 6.6.2.1.1.3), from the frames of its paging
-- channel, and the text of a slot.
use Rattle.event_tap.specs.Common.{CheckForm, paging_rate, Mark, SoftFrame, slot_bits, is_monitored}
use Rattle.std.specs.Prelude.{ℕ, ◌+◌, ◌/◌, ◌%◌, ◌==◌, ◌&&◌, if◌then◌else◌, nat_lt, List, [], ◌∷◌}
use Rattle.std.specs.Prelude.{◌++◌, length}
use Rattle.std.specs.List.{flat_map}
use Rattle.event_tap.specs.SlotLines.{slot_lines, slot_pages}

-- ---- the frames of a slot

-- The four frames of a slot are those whose numbers, counted from the mark on, have the same
-- quotient by 4. This is the list of a slot's frames up to `frame`, given the kept list before it.
-- A slot's first frame starts a new list, another frame is appended to those before it, and the
-- list is empty if one of these is missing.
abbrev pub slot_more : List SoftFrame → SoftFrame → List SoftFrame
slot_more kept frame =
    if frame.number % 4 == 0 then frame ∷ []
    else (if frame.number % 4 == length kept then kept ++ frame ∷ [] else [])

-- the frames of a slot that are kept after all of these
unfoldable pub slot_after : List SoftFrame → List SoftFrame → List SoftFrame
slot_after kept [] = kept
slot_after kept (frame ∷ frames) = slot_after (slot_more kept frame) frames

-- ---- its lines

-- The text written at a frame, given the kept frames of its slot up to it. It is the slot's lines
-- if all four frames are kept, the handset with this key and cycle monitors the slot, and the
-- mark's data rate is one that a paging channel has. Otherwise it is empty.
abbrev pub slot_text : ℕ → ℕ → CheckForm → Mark → List SoftFrame → SoftFrame → List ℕ
slot_text key cycle check m slot frame =
    let time = m.time + frame.number / 4 in
    let rate = paging_rate m.prat in
    if length slot == 4 && is_monitored time key cycle && nat_lt m.prat 2
    then slot_lines frame.end time
    (slot_pages check rate
    (slot_bits rate (flat_map (λ (f : SoftFrame). f.descrambled) slot)))
    else []
