-- What comes back of a traffic channel of either rate set in a file of any origin, if its frames
-- are received only from the reference base station.
use Rattle.clean_link.specs.Common.{codeword_symbols, traffic_channel, received_frames, SetTwoFrame}
use Rattle.clean_link.specs.Common.{IsDistinctFrame, frame_codeword2, frame_codeword, IsSetTwoFrame}
use Rattle.clean_link.specs.Common.{IsSetOneFrame, soft_strength, ShowPowerBits, cycled_frame, Data}
use Rattle.clean_link.specs.Common.{made_samples, IsReceivable, SendsSymbols, SetOneFrame, CellPlan}
use Rattle.clean_link.specs.Common.{TrafficPlan, good_frame2, soft_frames, is_received, replaced_of}
use Rattle.clean_link.specs.Common.{SendsSetTwo, soft_frame, IsAssigned, SoftFrame, frames_of, Mark}
use Rattle.clean_link.specs.Common.{Decoded2, decoded2, Traffic, Sample, Tuning, raw_at, Width}
use Rattle.std.specs.Prelude.{ℕ, ◌+◌, ◌-◌, ◌*◌, ◌≡◌, true, Bool, List, [], ◌∷◌, length, map, Some}
use Rattle.std.specs.Prelude.{ℤ, Option}
use Rattle.std.specs.List.{Contains}
use Rattle.clean_link.specs.CleanLink.{IsOnPath}
use Rattle.clean_link.specs.ReceivedFrames.{IsDistinctFrame2, codeword_symbols2, cycled_frame2}
use Rattle.clean_link.specs.ReceivedFrames.{AreReceivedFrom, IsReceived, IsReceivedAs, IsSentFrame2}
use Rattle.clean_link.specs.SentSigns.{MarkIsAt, TrafficFrameHasSigns}
use Rattle.clean_link.specs.TrafficLaws.{HavePowerSigns, HearsSentTraffic, IsOnlyBestFrame}
use Rattle.clean_link.specs.TrafficLaws.{IsOnlyBestFrame2, NoisyFrame}

-- ---- what is sent

-- a frame of rate set 1 sends the symbols of its codeword, and so does one of rate set 2
abbrev pub SetOneSends : Type 0
SetOneSends = (plan : CellPlan) (p : TrafficPlan) (frame : ℕ) (f : SetOneFrame) →
    cycled_frame (frames_of plan p) frame ≡ f ∷ [] →
    SendsSymbols plan p frame (codeword_symbols f) f.power_bits

abbrev pub SetTwoSends : Type 0
SetTwoSends = (plan : CellPlan) (p : TrafficPlan) (frame : ℕ) (f : SetTwoFrame) →
    cycled_frame2 (frames_of plan p) frame ≡ f ∷ [] →
    SendsSymbols plan p frame (codeword_symbols2 f) f.power_bits

-- ---- what is received

-- One frame is received, in order, for each frame of the channel that begins at the mark or after
-- it and lies in the file: each superframe has four. This holds in any file that is as long as the
-- cell's, whatever its samples are.
abbrev pub EachFrameIsReceived : Type 0
EachFrameIsReceived = (width : Width) (plan : CellPlan) (p : TrafficPlan) (t : Tuning)
    (traffic : Traffic) (m : Mark) (superframes : ℕ) (samples : List Sample) →
    HearsSentTraffic width plan p t traffic m superframes → length samples ≡ plan.link.samples →
    soft_frames t (traffic_channel traffic) m samples ≡
    map (λ frame. soft_frame t (traffic_channel traffic) m samples (frame - 4 * superframes))
    (received_frames plan p (plan.link.start + m.sample))

-- On a clean link each of them shows what it sends, whatever that is.
abbrev pub FramesShowSymbols : Type 0
FramesShowSymbols = (width : Width) (plan : CellPlan) (p : TrafficPlan) (t : Tuning)
    (traffic : Traffic) (m : Mark) (superframes frame : ℕ) (symbols power_bits : List Bool) →
    HearsSentTraffic width plan p t traffic m superframes →
    is_received plan p (plan.link.start + m.sample) frame ≡ true →
    SendsSymbols plan p frame symbols power_bits →
    IsReceivedAs plan p frame symbols power_bits
    (soft_frame t (traffic_channel traffic) m (made_samples plan) (frame - 4 * superframes))

-- Its raw soft values show the power control bits, at the places of the symbols that they replace.
abbrev pub FramesShowPowerBits : Type 0
FramesShowPowerBits = (width : Width) (plan : CellPlan) (p : TrafficPlan) (t : Tuning)
    (traffic : Traffic) (m : Mark) (superframes frame : ℕ) (symbols power_bits : List Bool) →
    HearsSentTraffic width plan p t traffic m superframes →
    is_received plan p (plan.link.start + m.sample) frame ≡ true →
    SendsSymbols plan p frame symbols power_bits →
    ShowPowerBits (replaced_of plan p frame) (soft_strength plan Data p.gain) power_bits
    (raw_at t (traffic_channel traffic) m (made_samples plan) (frame - 4 * superframes))

-- So a distinct frame of rate set 2 is decoded with its rate and its information bits, and is good.
abbrev pub SetTwoFramesComeBack : Type 0
SetTwoFramesComeBack = (plan : CellPlan) (p : TrafficPlan) (frame : ℕ) (f : SetTwoFrame)
    (soft : SoftFrame) → IsSetTwoFrame f →
    IsReceivedAs plan p frame (codeword_symbols2 f) f.power_bits soft →
    IsSentFrame2 plan p frame f soft

-- ---- any frame

-- The soft frame of frame `frame` of a channel, which sends these symbols and these power control
-- bits: it ends at the frame's own end, its power control bits are the sent ones, and its
-- descrambled soft values have the signs of the symbols at the places that those bits leave.
abbrev pub IsReceivedBySigns : CellPlan → TrafficPlan → ℕ → List Bool → List Bool → SoftFrame →
    Type 0
IsReceivedBySigns plan p frame symbols power_bits soft = IsReceived plan p frame power_bits
    (NoisyFrame (replaced_of plan p frame) symbols) soft

-- A frame with the sent signs is received so, whatever it sends and whatever the other frames are.
-- At the places that its power control bits replace, its raw soft values have their signs.
abbrev pub SignedFramesAreReceived : Type 0
SignedFramesAreReceived = (width : Width) (plan : CellPlan) (p : TrafficPlan) (t : Tuning)
    (traffic : Traffic) (m : Mark) (superframes frame : ℕ) (samples : List Sample)
    (symbols power_bits : List Bool) →
    HearsSentTraffic width plan p t traffic m superframes →
    TrafficFrameHasSigns plan p samples frame →
    is_received plan p (plan.link.start + m.sample) frame ≡ true →
    SendsSymbols plan p frame symbols power_bits →
    IsReceivedBySigns plan p frame symbols power_bits
    (soft_frame t (traffic_channel traffic) m samples (frame - 4 * superframes))
    × HavePowerSigns (replaced_of plan p frame) power_bits
    (raw_at t (traffic_channel traffic) m samples (frame - 4 * superframes))

-- Only the codeword that a distinct frame of rate set 1 sends has the greatest score of all
-- codewords of every rate.
abbrev pub ReceivedAreTheOnlyBest : Type 0
ReceivedAreTheOnlyBest = (plan : CellPlan) (p : TrafficPlan) (frame : ℕ) (f : SetOneFrame)
    (soft : SoftFrame) → IsSetOneFrame f →
    IsReceivedBySigns plan p frame (codeword_symbols f) f.power_bits soft →
    IsDistinctFrame (replaced_of plan p frame) f →
    IsOnlyBestFrame (replaced_of plan p frame) soft.descrambled f.rate
    (frame_codeword f.rate f.information)

-- ---- frames of rate set 2

-- The same holds for a distinct frame of rate set 2.
abbrev pub SetTwoAreTheOnlyBest : Type 0
SetTwoAreTheOnlyBest = (plan : CellPlan) (p : TrafficPlan) (frame : ℕ) (f : SetTwoFrame)
    (soft : SoftFrame) → IsSetTwoFrame f →
    IsReceivedBySigns plan p frame (codeword_symbols2 f) f.power_bits soft →
    IsDistinctFrame2 (replaced_of plan p frame) f →
    IsOnlyBestFrame2 (replaced_of plan p frame) soft.descrambled f.rate
    (frame_codeword2 f.rate f.information)

-- The decoding of a frame that comes back: its rate and its information bits, as a good frame, with
-- any score.
pub record IsDecodedAs2 (f : SetTwoFrame) (decoded : Decoded2) : Type 0 where
  pub score : ℤ
  pub same : decoded ≡ good_frame2 f.rate f.information score

-- The soft frame of frame `frame`, which is f: if it is distinct, it is decoded so.
pub record IsSentFrame2BySigns (plan : CellPlan) (p : TrafficPlan) (frame : ℕ)
    (f : SetTwoFrame) (soft : SoftFrame) : Type 0 where
  pub received : IsReceivedBySigns plan p frame (codeword_symbols2 f) f.power_bits soft
  pub decoded : IsDistinctFrame2 (replaced_of plan p frame) f →
      IsDecodedAs2 f (decoded2 (replaced_of plan p frame) soft.descrambled)

-- A frame of rate set 2 that is received by the signs of its symbols comes back.
abbrev pub SignedSetTwoFramesComeBack : Type 0
SignedSetTwoFramesComeBack = (plan : CellPlan) (p : TrafficPlan) (frame : ℕ) (f : SetTwoFrame)
    (soft : SoftFrame) → IsSetTwoFrame f →
    IsReceivedBySigns plan p frame (codeword_symbols2 f) f.power_bits soft →
    IsSentFrame2BySigns plan p frame f soft

-- ---- in a file

-- P holds for the frames that are received from the cell's mark on, in a file as long as the
-- cell's.
abbrev pub HoldsAfterMark : (CellPlan → TrafficPlan → Option ℕ → List Sample → List SoftFrame →
    Type 0) → Type 0
HoldsAfterMark P = (width : Width) (plan : CellPlan) (p : TrafficPlan) (t : Tuning)
    (traffic : Traffic) (m : Mark) (at : Option ℕ) (samples : List Sample) →
    IsReceivable width plan → length samples ≡ plan.link.samples → IsOnPath plan t →
    Contains plan.traffic p → IsAssigned p traffic → MarkIsAt plan (Some m) at →
    P plan p at samples (soft_frames t (traffic_channel traffic) m samples)

-- They are exactly the channel's frames that begin there or later and lie in the file, in order,
-- and each one with the sent signs shows what it sends.
abbrev pub FramesAfterMark : Type 0
FramesAfterMark = HoldsAfterMark (λ plan p at samples frames.
    AreReceivedFrom plan p at
    (λ frame soft. TrafficFrameHasSigns plan p samples frame → (symbols power_bits : List Bool) →
    SendsSymbols plan p frame symbols power_bits →
    IsReceivedBySigns plan p frame symbols power_bits soft) frames)

-- If the channel's frames are of rate set 2, each one with the sent signs comes back with its power
-- control bits and, if it is distinct, with its rate and its information bits, as a good frame.
abbrev pub SetTwoAfterMark : Type 0
SetTwoAfterMark = HoldsAfterMark (λ plan p at samples frames. SendsSetTwo p →
    AreReceivedFrom plan p at
    (λ frame soft. TrafficFrameHasSigns plan p samples frame → (f : SetTwoFrame)
    × (cycled_frame2 (frames_of plan p) frame ≡ f ∷ [])
    × IsSentFrame2BySigns plan p frame f soft) frames)
