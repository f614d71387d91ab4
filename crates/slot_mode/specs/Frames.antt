-- The bits of a slot: those of four frames of a paging channel.
use Rattle.std.specs.Prelude.{ℕ, ◌+◌, ◌-◌, ◌*◌, Bool, List, take, drop, min, ℤ}
use Rattle.std.specs.List.{flat_map}
use Rattle.chip_core.specs.Bits.{places}
use Rattle.quality_bits.specs.declared.rate.Rate.{Rate}
use Rattle.frame_decoder.specs.Spans.{paging_channel, own_bits}

-- A frame's span is the frame itself and its neighbours among the four. The span's first frame;
-- frame 0 has no frame before it.
abbrev pub slot_span_first : ℕ → ℕ
slot_span_first frame = frame - 1

-- the frame at which the span ends; frame 3 has no frame after it
abbrev pub span_end : ℕ → ℕ
span_end frame = min (frame + 2) 4

-- the soft values of a frame's span, taken from those of the slot, 384 per frame
abbrev pub slot_span_softs : List ℤ → ℕ → List ℤ
slot_span_softs softs frame =
    take (384 * (span_end frame - slot_span_first frame)) (drop (384 * slot_span_first frame) softs)

-- the frame's own bits of its span
abbrev pub slot_frame_bits : Rate → List ℤ → ℕ → List Bool
slot_frame_bits rate softs frame =
    own_bits (paging_channel rate) (span_end frame - slot_span_first frame)
    (frame - slot_span_first frame)
    (slot_span_softs softs frame)

-- the bits of the slot, frame after frame
unfoldable pub slot_bits : Rate → List ℤ → List Bool
slot_bits rate softs = flat_map (slot_frame_bits rate softs) (places 4)
