-- The lines of a traffic channel's frames and of a paging channel's slots, in a file of any origin.
use Rattle.std.specs.List.{Contains, flat_map}
use Rattle.std.specs.Prelude.{◌≡◌, ◌≤◌, ℕ, ◌*◌, true, List, [], ◌∷◌, length, Option, None, Some}
use Rattle.reply_laws.specs.Common.{Sample, Width, CellPlan, TrafficPlan, event_line, frame2_line}
use Rattle.reply_laws.specs.Common.{Traffic, IsAssigned, SendsSetOne, mark, SendsSetTwo}
use Rattle.reply_laws.specs.Common.{sent_frame_event, cycled_frame2, sent_decoded2}
use Rattle.reply_laws.specs.Common.{IsDistinctFrame2, IsReceivable, IsOnPath, MarkIsAt, Tuning}
use Rattle.reply_laws.specs.Common.{TrafficFrameHasSigns, tuned_text, TunedText, Listed, RateSetTwo}
use Rattle.reply_laws.specs.Common.{reference_alone, Mark, tuned_frame_text, PagingPlan, Paging}
use Rattle.reply_laws.specs.Common.{FromMark, PagingFrameHasSigns, slots_after, Slots}
use Rattle.clean_link.specs.Common.{superframe_chips, Decoded, Decoded2, frames_of, SetOneFrame}
use Rattle.clean_link.specs.Common.{SetTwoFrame, cycled_frame, traffic_channel, frame_event}
use Rattle.clean_link.specs.Common.{soft_frame, soft_frames, frame_heard, SoftFrame}
use Rattle.clean_frames.specs.SentFrames.{frame_ends, is_received, received_frames, replaced_of}
use Rattle.clean_frames.specs.SentFrames.{sent_bits, sent_power_bits, IsDistinctFrame}

-- ---- any frames

-- One line, in order, for each frame of a channel in the file that begins at the mark or later. The
-- mark is `superframes` superframes after local chip 0, and each line satisfies `Is`.
pub record AreSentLines (plan : CellPlan) (p : TrafficPlan) (Is : ℕ → List ℕ → Type 0)
    (superframes : ℕ) (text : List ℕ) : Type 0 where
  pub line : ℕ → List ℕ
  pub each : text ≡ flat_map line (received_frames plan p (superframe_chips * superframes))
  pub are : (frame : ℕ) → is_received plan p (superframe_chips * superframes) frame ≡ true →
      Is frame (line frame)

-- the text of a channel's frames; no text if no mark is set
abbrev pub IsSentText : CellPlan → TrafficPlan → (ℕ → List ℕ → Type 0) → Option ℕ → List ℕ → Type 0
IsSentText plan p Is None text = text ≡ []
IsSentText plan p Is (Some superframes) text = AreSentLines plan p Is superframes text

-- In a file of any origin, as long as the cell's, the text of form `form` for a channel that the
-- cell sends and that satisfies `Sends` is this text from the cell's mark on. If a frame has the
-- sent signs, its line is that of what is sent, whatever the other frames are.
abbrev pub LinesComeBack : TunedText → (TrafficPlan → Type 0) →
    (CellPlan → TrafficPlan → ℕ → List ℕ → Type 0) → Type 0
LinesComeBack form Sends Is = (width : Width) (plan : CellPlan) (p : TrafficPlan) (t : Tuning)
    (traffic : Traffic) (samples : List Sample) (at : Option ℕ) → IsReceivable width plan →
    length samples ≡ plan.link.samples → IsOnPath plan t →
    MarkIsAt plan (mark t samples (length samples)) at → Contains plan.traffic p →
    IsAssigned p traffic → Sends p →
    IsSentText plan p
    (λ frame line. TrafficFrameHasSigns plan p samples frame → Is plan p frame line) at
    (tuned_text form t (traffic_channel traffic) samples)

-- ---- frames of rate set 1

-- The line of frame `frame` of a channel, which is `f`: it has the frame's end and the power
-- control bits that were sent. If the frame is distinct, it is the line of the frame that was sent,
-- as a good frame.
pub record IsSentLine (plan : CellPlan) (p : TrafficPlan) (frame : ℕ) (f : SetOneFrame)
    (line : List ℕ) : Type 0 where
  pub decoded : Decoded
  pub spelled : line ≡ event_line (frame_event (frame_ends plan p frame) decoded
      (sent_power_bits f))
  pub back : IsDistinctFrame (replaced_of plan p frame) f →
      line ≡ event_line (sent_frame_event (frame_ends plan p frame) f)

-- the frame that is sent with number `frame` has this line
abbrev pub IsLineOfSetOne : CellPlan → TrafficPlan → ℕ → List ℕ → Type 0
IsLineOfSetOne plan p frame line = (f : SetOneFrame)
    × (cycled_frame (frames_of plan p) frame ≡ f ∷ []) × IsSentLine plan p frame f line

-- The list of a channel of rate set 1 has these lines, for any number of codewords of a rate.
abbrev pub ListedLinesComeBack : Type 0
ListedLinesComeBack = (k : ℕ) → 1 ≤ k → LinesComeBack (Listed k) SendsSetOne IsLineOfSetOne

-- ---- frames of rate set 2

-- The line of a frame of rate set 2: it has the frame's end and the power control bits that were
-- sent. If the frame is distinct, it also has its rate and its information bits, as a good frame.
pub record IsSentLine2 (plan : CellPlan) (p : TrafficPlan) (frame : ℕ) (f : SetTwoFrame)
    (line : List ℕ) : Type 0 where
  pub decoded : Decoded2
  pub spelled : line ≡ frame2_line (frame_ends plan p frame) decoded (sent_bits f.power_bits)
  pub back : IsDistinctFrame2 (replaced_of plan p frame) f →
      line ≡ frame2_line (frame_ends plan p frame) (sent_decoded2 plan p frame f)
      (sent_bits f.power_bits)

-- the frame that is sent with number `frame` has this line
abbrev pub IsLineOfSetTwo : CellPlan → TrafficPlan → ℕ → List ℕ → Type 0
IsLineOfSetTwo plan p frame line = (f : SetTwoFrame)
    × (cycled_frame2 (frames_of plan p) frame ≡ f ∷ []) × IsSentLine2 plan p frame f line

-- the text of a channel of rate set 2 has these lines
abbrev pub SetTwoLinesComeBack : Type 0
SetTwoLinesComeBack = LinesComeBack RateSetTwo SendsSetTwo IsLineOfSetTwo

-- ---- one codeword of each rate

-- the line of the event that a handset receives at this frame's end if only the reference's pilot
-- is active
abbrev pub followed_frame_line : Tuning → Traffic → Mark → List Sample → SoftFrame → List ℕ
followed_frame_line t traffic m samples frame =
    event_line (frame_heard t traffic m (reference_alone traffic m) samples frame.end frame.number)

-- With one codeword, this line is written for each frame, whatever is kept of its slot.
abbrev pub OneCodewordFollowsFrame : Type 0
OneCodewordFollowsFrame = (t : Tuning) (traffic : Traffic) (m : Mark) (samples : List Sample)
    (slot : List SoftFrame) (k : ℕ) →
    let frame = soft_frame t (traffic_channel traffic) m samples k in
    tuned_frame_text (Listed 1) t.check30 m slot frame
    ≡ followed_frame_line t traffic m samples frame

-- The same holds for all frames that end within these samples, after the mark that they set.
abbrev pub OneCodewordFollows : Type 0
OneCodewordFollows = (t : Tuning) (traffic : Traffic) (m : Mark) (samples : List Sample) →
    mark t samples (length samples) ≡ Some m →
    tuned_text (Listed 1) t (traffic_channel traffic) samples ≡
    flat_map (followed_frame_line t traffic m samples)
    (soft_frames t (traffic_channel traffic) m samples)

-- ---- slots

-- Take a file of any origin, as long as the cell's, in which each frame of a paging channel from
-- the cell's mark on has the sent signs. A handset that sleeps through all slots but those of a key
-- and a cycle writes for the channel, slot by slot from the mark on, the slot's line and the lines
-- of its pages.
abbrev pub FileSlotsComeBack : Type 0
FileSlotsComeBack =
    (width : Width) (plan : CellPlan) (p : PagingPlan) (t : Tuning) (key cycle : ℕ)
    (at : Option ℕ) (samples : List Sample) → IsReceivable width plan →
    length samples ≡ plan.link.samples → IsOnPath plan t → Contains plan.paging p →
    MarkIsAt plan (mark t samples plan.link.samples) at →
    FromMark (PagingFrameHasSigns plan p samples) at →
    tuned_text (Slots key cycle) t (Paging p.number) samples
    ≡ slots_after key cycle plan p at plan.sync
