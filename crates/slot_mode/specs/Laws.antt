-- The laws of slots.
use Rattle.std.specs.Prelude.{◌≡◌, ◌<◌, ◌≤◌, ◌↔◌, ℕ, ◌+◌, ◌-◌, ◌*◌, ◌%◌, List, ◌++◌, length, take}
use Rattle.std.specs.Prelude.{drop, ℤ, IsTrue}
use Rattle.quality_bits.specs.declared.rate.Rate.{Rate}
use Rattle.frame_decoder.specs.Spans.{paging_channel, own_bits}
use Rattle.slot_mode.specs.Slots.{slot_period, is_monitored, next_monitored}
use Rattle.slot_mode.specs.Frames.{slot_span_first, span_end, slot_frame_bits}

-- a time that is a whole number of cycles after another is monitored exactly if the other is
abbrev pub ComesAgain : Type 0
ComesAgain =
    (time key cycle count : ℕ) →
    is_monitored (time + count * slot_period cycle) key cycle ≡ is_monitored time key cycle

-- the next monitored time is among as many consecutive times as the cycle has slots
abbrev pub ComesInTime : Type 0
ComesInTime = (from key cycle : ℕ) → let next = next_monitored from key cycle in
    (from ≤ next) × (next < from + slot_period cycle) × IsTrue (is_monitored next key cycle)

-- it is the only monitored time among them
abbrev pub ComesOnce : Type 0
ComesOnce =
    (from key cycle time : ℕ) → from ≤ time → time < from + slot_period cycle →
    IsTrue (is_monitored time key cycle) → time ≡ next_monitored from key cycle

-- all monitored times of a key and a cycle have the same remainder
abbrev pub HasOneRemainder : Type 0
HasOneRemainder =
    (one other key cycle : ℕ) → IsTrue (is_monitored one key cycle) →
    IsTrue (is_monitored other key cycle) → one % slot_period cycle ≡ other % slot_period cycle

-- a time that is monitored in a cycle is monitored in each shorter one
abbrev pub IsAmongShorter : Type 0
IsAmongShorter =
    (time key cycle more : ℕ) → IsTrue (is_monitored time key (cycle + more)) →
    IsTrue (is_monitored time key cycle)

-- the frames of a frame's span are the frame itself and its neighbours among the four
abbrev pub IsOfNeighbours : Type 0
IsOfNeighbours =
    (frame other : ℕ) → frame < 4 →
    ((slot_span_first frame ≤ other) × (other < span_end frame))
    ↔ ((other < 4) × (other ≤ frame + 1) × (frame ≤ other + 1))

-- The two frames in the middle of a slot have the bits that a handset decodes if it never sleeps:
-- whatever soft values precede and follow the slot's, each is decoded with the frame before it and
-- the one after it.
abbrev pub IsHeardAsEver : Type 0
IsHeardAsEver =
    (rate : Rate) (before softs following : List ℤ) (frame : ℕ) → length softs ≡ 1536 →
    1 ≤ frame → frame ≤ 2 →
    slot_frame_bits rate softs frame ≡ own_bits (paging_channel rate) 3 1
    (take 1152 (drop (length before + 384 * (frame - 1)) (before ++ softs ++ following)))
