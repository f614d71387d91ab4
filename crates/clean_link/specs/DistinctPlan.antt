-- A cell with a mark, and after it a distinct frame of each rate of both rate sets.
use Rattle.clean_link.specs.Common.{binary, Plain, Sixteen, before, Rate, R9600, R4800, R2400}
use Rattle.clean_link.specs.Common.{R1200, Rate2, R14400, R7200, R3600, R1800, SyncFields, planned}
use Rattle.clean_link.specs.Common.{frames_of, some_message, some_sync, cycled_frame, SetOne}
use Rattle.clean_link.specs.Common.{SetTwo, CellPlan, TrafficPlan, TrafficFrame, SetOneFrame}
use Rattle.clean_link.specs.Common.{SetTwoFrame, Traffic, IsReceivable, is_received, replaced_of}
use Rattle.clean_link.specs.Common.{received_frames, IsAssigned, SendsSetTwo, told_with_sync}
use Rattle.std.specs.Prelude.{◌≡◌, ℕ, true, All, Bool, List, [], ◌∷◌, ◌++◌, map, replicate, pos}
use Rattle.std.specs.Prelude.{negsuc, Some}
use Rattle.std.specs.List.{Contains, flat_map}
use Rattle.clean_link.specs.DistinctFrames.{distinct_frame_with}
use Rattle.clean_link.specs.ReceivedFrames.{cycled_frame2, IsDistinctFrame2}
use Rattle.clean_link.specs.SentEvents.{signaling_sent, IsFollowed}

-- ---- the cell

-- a sync message of 25 octets, whose first transmission has the time of superframe 7
abbrev pub told_message : SyncFields
told_message = some_message 1

-- information bits of each rate; those at 9,600 bits a second are only primary traffic
abbrev pub distinct_bits_of : Rate → List Bool
distinct_bits_of R9600 =
    binary 64 0x66ead69800f6c1c5 ++ binary 64 0xa65d1b54066a284c ++ binary 44 0x6547829256
distinct_bits_of R4800 = binary 64 0x6f0dbecf19b63b60 ++ binary 16 0xdc17
distinct_bits_of R2400 = binary 40 0x6afb64b799
distinct_bits_of R1200 = binary 16 0x6060

abbrev pub bits_of2 : Rate2 → List Bool
bits_of2 R14400 =
    binary 64 0x15e08e4b2708292f ++ binary 64 0xcc0a97475591f043 ++ binary 64 0x7e7539761e440232
    ++ binary 64 0xaf40c2e43a5b249d ++ binary 12 0x96f
bits_of2 R7200 = binary 64 0x6ab5c5ac7d237d8d ++ binary 62 0x1221de457012e2f5
bits_of2 R3600 = binary 56 0x7f7f6ad5e9ac66
bits_of2 R1800 = binary 22 0xa13a0

-- frames with these bits that order a handset to lower its power
abbrev pub frame_at : Rate → SetOneFrame
frame_at rate = distinct_frame_with rate (distinct_bits_of rate)

abbrev pub frame2_at : Rate2 → SetTwoFrame
frame2_at rate = record { rate = rate; information = bits_of2 rate; power_bits = replicate 16 true }

-- a channel with these frames
abbrev pub channel_on : ℕ → List TrafficFrame → TrafficPlan
channel_on row frames =
    record { row = row; esn = 0x9f1c0a37; offset = 0; gain = 20; frames = frames }

-- channels with a frame of each rate of their rate set, the highest first
abbrev pub first_channel : TrafficPlan
first_channel =
    channel_on 8 (map (planned SetOne) (map frame_at (R9600 ∷ R4800 ∷ R2400 ∷ R1200 ∷ [])))

abbrev pub second_channel : TrafficPlan
second_channel =
    channel_on 9 (map (planned SetTwo) (map frame2_at (R14400 ∷ R7200 ∷ R3600 ∷ R1800 ∷ [])))

-- The cell sends both, and the file has eight superframes. The long code's state is 1 at chip
-- 686,592, a power control group before superframe 7.
abbrev pub distinct_plan : CellPlan
distinct_plan = record {
  cell = record { pn = 0; time = 1000; lc = before 1 686592; check30 = Plain; check16 = Plain };
  link = record { factor = record { i = pos 0; q = negsuc 2 }; start = 0; samples = 786432 };
  pilot = record { gain = 100 };
  sync = Some (some_sync 1);
  paging = [];
  traffic = first_channel ∷ second_channel ∷ [];
}

-- the assignment of a handset to the channel on this row
abbrev pub on_row : ℕ → Traffic
on_row row = record { esn = 0x9f1c0a37; row = row; offset = 0 }

-- ---- the laws

-- The cell is lawful, and its first whole transmission sets the mark at superframe 7.
abbrev pub HasMark : Type 0
HasMark = IsReceivable Sixteen distinct_plan
    × (told_with_sync distinct_plan distinct_plan.sync ≡ Some 7)

-- A handset that follows the first channel follows one of the cell's, whose frames from the mark on
-- that lie in the file are all distinct: there is one of each rate of rate set 1. None of them has
-- signaling, so no message directs a handoff.
pub record HasSetOne : Type 0 where
  pub followed : IsFollowed distinct_plan (on_row 8) first_channel
  pub rates : flat_map
      (λ frame. map (λ (f : SetOneFrame). f.rate)
      (cycled_frame (frames_of distinct_plan first_channel) frame))
      (received_frames distinct_plan first_channel 688128)
      ≡ R9600 ∷ R4800 ∷ R2400 ∷ R1200 ∷ []
  pub silent : signaling_sent distinct_plan (Some (on_row 8)) ≡ []

-- The same for the second channel and rate set 2.
pub record HasSetTwo : Type 0 where
  pub sent : Contains distinct_plan.traffic second_channel
  pub assigned : IsAssigned second_channel (on_row 9)
  pub two : SendsSetTwo second_channel
  pub distinct : (frame : ℕ) →
      is_received distinct_plan second_channel 688128 frame ≡ true →
      All (IsDistinctFrame2 (replaced_of distinct_plan second_channel frame))
      (cycled_frame2 (frames_of distinct_plan second_channel) frame)
  pub rates : flat_map
      (λ frame. map (λ (f : SetTwoFrame). f.rate)
      (cycled_frame2 (frames_of distinct_plan second_channel) frame))
      (received_frames distinct_plan second_channel 688128)
      ≡ R14400 ∷ R7200 ∷ R3600 ∷ R1800 ∷ []
