-- The frames of a traffic channel of either rate set that come back on a clean link, each received
-- only from the reference base station (TIA/EIA-95-B, 7.1.3.5).
use Rattle.clean_link.specs.Common.{superframe_chips, kept_count, Data, good_frame2, decoded2}
use Rattle.clean_link.specs.Common.{Decoded2, set_two, FrameCycle, CellPlan, TrafficPlan, SoftFrame}
use Rattle.clean_link.specs.Common.{SetTwoFrame, IsUnshared2, frame_symbols2, frame_codeword2}
use Rattle.clean_link.specs.Common.{frames_in_turn, soft_strength, frame_ends, is_received}
use Rattle.clean_link.specs.Common.{received_frames, replaced_of, sent_bits, ShowFrame}
use Rattle.std.specs.Prelude.{ℕ, ◌*◌, ◌≡◌, true, Bool, List, map, ℤ, pos, Option, Some}

-- ---- any frame

-- The soft frame of frame `frame` of a channel, which sends these power control bits: it ends at
-- the frame's own end, its power control bits are the sent ones, and its descrambled soft values
-- satisfy a condition.
pub record IsReceived (plan : CellPlan) (p : TrafficPlan) (frame : ℕ) (power_bits : List Bool)
    (Show : List ℤ → Type 0) (soft : SoftFrame) : Type 0 where
  pub ends : soft.end ≡ frame_ends plan p frame
  pub powered : soft.power ≡ Some (record {
    replaced = replaced_of plan p frame;
    power_bits = sent_bits power_bits;
  })
  pub shown : Show soft.descrambled

-- On a clean link the soft values show the symbols that the frame sends.
abbrev pub IsReceivedAs : CellPlan → TrafficPlan → ℕ → List Bool → List Bool → SoftFrame → Type 0
IsReceivedAs plan p frame symbols power_bits soft = IsReceived plan p frame power_bits
    (ShowFrame (replaced_of plan p frame) (soft_strength plan Data p.gain) symbols) soft

-- ---- frames of rate set 2

-- the frame that is sent as frame k
abbrev pub cycled_frame2 : FrameCycle → ℕ → List SetTwoFrame
cycled_frame2 c k = frames_in_turn (set_two c.frames) k

-- the 384 symbols of a frame before scrambling, in the order in which they are sent
abbrev pub codeword_symbols2 : SetTwoFrame → List Bool
codeword_symbols2 f = frame_symbols2 f.rate (frame_codeword2 f.rate f.information)

-- A frame such that no other codeword of any of the four rates has its symbols at the places that
-- no power control bit replaces, whether that codeword's quality bits are right or not.
abbrev pub IsDistinctFrame2 : List ℕ → SetTwoFrame → Type 0
IsDistinctFrame2 replaced f = IsUnshared2 replaced f.rate (frame_codeword2 f.rate f.information)

-- the decoding of a frame that comes back, which is sent as frame `frame`
abbrev pub sent_decoded2 : CellPlan → TrafficPlan → ℕ → SetTwoFrame → Decoded2
sent_decoded2 plan p frame f = good_frame2 f.rate f.information
    (pos (soft_strength plan Data p.gain * kept_count (replaced_of plan p frame)))

-- The soft frame of frame `frame`, which is f: if it is distinct, it is decoded as a good frame,
-- with its rate and its information bits.
pub record IsSentFrame2 (plan : CellPlan) (p : TrafficPlan) (frame : ℕ) (f : SetTwoFrame)
    (soft : SoftFrame) : Type 0 where
  pub received : IsReceivedAs plan p frame (codeword_symbols2 f) f.power_bits soft
  pub decoded : IsDistinctFrame2 (replaced_of plan p frame) f →
      decoded2 (replaced_of plan p frame) soft.descrambled ≡ sent_decoded2 plan p frame f

-- ---- after a mark

-- Soft frames, in order, one for each of a channel's frames that begin at a mark or after it and
-- lie in the file; each satisfies a condition. The mark is `superframes` superframes after local
-- chip 0.
pub record AreReceivedFrom (plan : CellPlan) (p : TrafficPlan) (at : Option ℕ)
    (Is : ℕ → SoftFrame → Type 0) (frames : List SoftFrame) : Type 0 where
  pub superframes : ℕ
  pub told : at ≡ Some superframes
  pub soft : ℕ → SoftFrame
  pub each : frames ≡ map soft (received_frames plan p (superframe_chips * superframes))
  pub are : (frame : ℕ) → is_received plan p (superframe_chips * superframes) frame ≡ true →
      Is frame (soft frame)
