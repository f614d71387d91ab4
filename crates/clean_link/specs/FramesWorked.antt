-- Worked values of the frames of a traffic channel on a clean link, which the checker computes.
use Rattle.clean_link.specs.Common.{places, Plain, R1200, R2400, CellPlan, SetOneFrame, at_of}
use Rattle.clean_link.specs.Common.{Event, Frame, sent_bits, sent_power_bits, cell_of_frames}
use Rattle.std.specs.Prelude.{◌≡◌, ℕ, refl, true, false, List, [], ◌∷◌, length, map, replicate}
use Rattle.clean_link.specs.HeardFrames.{frames_sent}

-- two frames, whose power control bits order a handset to raise its power, and to lower it
slow : SetOneFrame
slow = record { rate = R1200; information = replicate 16 true; power_bits = replicate 16 false }

faster : SetOneFrame
faster = record { rate = R2400; information = replicate 40 true; power_bits = replicate 16 true }

-- `samples` samples of a cell from a local chip on, with a traffic channel that sends both in turn
cell : ℕ → ℕ → CellPlan
cell start samples = cell_of_frames start samples Plain (slow ∷ faster ∷ [])

-- the number of information bits of an event
abbrev bit_count_of : Event → ℕ
bit_count_of (Frame n rate good bits power_bits) = length bits
bit_count_of event = 0

-- the ends of the frames after superframe 8, in samples, and their numbers of information bits
heard : CellPlan → ℕ → List (ℕ × ℕ)
heard plan row = map (λ (e : Event). (at_of e, bit_count_of e)) (frames_sent plan row 786432)

-- Frames 32 and 33 of the channel: the second ends with the file, or one sample after it; the file
-- begins 100 chips before the mark; no traffic channel has the row.
two_frames : (heard (cell 0 838656) 9 ≡ (814080, 16) ∷ (838656, 40) ∷ [])
    × (heard (cell 0 838655) 9 ≡ (814080, 16) ∷ [])
    × (heard (cell 786332 52324) 9 ≡ (27748, 16) ∷ (52324, 40) ∷ [])
    × (heard (cell 0 838656) 10 ≡ [])
unfolding heard cell slow faster frames_sent places
two_frames = (refl, refl, refl, refl)

-- power control bits as they are sent
lowering : sent_power_bits faster ≡ replicate 16 true
unfolding faster sent_bits places
lowering = refl
