-- The text for the frames of one channel after the mark.
use Rattle.event_tap.specs.Common.{CheckForm, Sample, IsLawful, mark, Tuning, Mark, SoftFrame}
use Rattle.std.specs.Prelude.{◌≤◌, ℕ, Bool, List, [], ◌∷◌, ◌++◌, length, ℤ, Option, None, Some}
use Rattle.chip_core.specs.Air.{IsListLength}
use Rattle.event_tap.specs.FrameLines.{frame2_line, frame_line}
use Rattle.frame_decoder.specs.declared.traffic.Decoded.{Decoded}
use Rattle.listed_frame.specs.ListedFrames.{listed}
use Rattle.rate_set_two.specs.TrafficFrames.{decoded2}
use Rattle.heard_events.specs.SoftFrames.{soft_frames}
use Rattle.heard_events.specs.declared.channel.CodeChannel.{CodeChannel}
use Rattle.heard_events.specs.declared.soft_frame.PowerControl.{PowerControl}
use Rattle.event_tap.specs.Slots.{slot_more, slot_text}
use Rattle.event_tap.specs.declared.tuned_text.TunedText.{TunedText}
use Rattle.event_tap.specs.declared.tuned_text.TunedText.TheVariants.{Listed, RateSetTwo, Slots}

-- ---- the frames after the mark, and their text

-- the frames after a mark that may be missing; none without one
abbrev pub frames_from : Tuning → CodeChannel → List Sample → Option Mark → List SoftFrame
frames_from t channel samples None = []
frames_from t channel samples (Some m) = soft_frames t channel m samples

-- the frames of a channel that end within these samples, after the mark that the samples set
abbrev pub after_mark : Tuning → CodeChannel → List Sample → List SoftFrame
after_mark t channel samples = frames_from t channel samples (mark t samples (length samples))

-- the line of a frame of rate set 2; a frame of a channel without power control bits has none
abbrev pub rate2_text : ℕ → List ℤ → Option PowerControl → List ℕ
rate2_text place descrambled None = []
rate2_text place descrambled (Some power) =
    frame2_line place (decoded2 power.replaced descrambled) power.power_bits

-- the line of a decoded frame of rate set 1
abbrev pub decoded_line : ℕ → Decoded → List Bool → List ℕ
decoded_line place frame power_bits = frame_line place frame.rate frame.good frame.bits power_bits

-- the line of a frame of rate set 1, decoded from the first k codewords of each rate; a frame of a
-- channel without power control bits has none
abbrev pub listed_text : ℕ → ℕ → List ℤ → Option PowerControl → List ℕ
listed_text k place descrambled None = []
listed_text k place descrambled (Some power) =
    decoded_line place (listed k power.replaced descrambled) power.power_bits

-- the text written at a frame, given the kept frames of its slot up to it
abbrev pub tuned_frame_text : TunedText → CheckForm → Mark → List SoftFrame → SoftFrame → List ℕ
tuned_frame_text RateSetTwo check m slot frame = rate2_text frame.end frame.descrambled frame.power
tuned_frame_text (Listed k) check m slot frame = listed_text k frame.end frame.descrambled
    frame.power
tuned_frame_text (Slots key cycle) check m slot frame = slot_text key cycle check m slot frame

-- the text of frames in order, given the frames of a slot that are kept from those before
unfoldable pub frames_text : TunedText → CheckForm → Mark → List SoftFrame → List SoftFrame → List ℕ
frames_text form check m kept [] = []
frames_text form check m kept (frame ∷ frames) =
    let slot = slot_more kept frame in
    tuned_frame_text form check m slot frame ++ frames_text form check m slot frames

-- the text of the frames after a mark
abbrev pub text_from : TunedText → Tuning → CodeChannel → Mark → List Sample → List ℕ
text_from form t channel m samples =
    frames_text form t.check30 m [] (soft_frames t channel m samples)

-- the same for a mark that may be missing; without one there is no text
abbrev pub text_if_marked : TunedText → Tuning → CodeChannel → List Sample → Option Mark → List ℕ
text_if_marked form t channel samples None = []
text_if_marked form t channel samples (Some m) = text_from form t channel m samples

-- the text of all frames that end within these samples, after the mark that the samples set
unfoldable pub tuned_text : TunedText → Tuning → CodeChannel → List Sample → List ℕ
tuned_text form t channel samples =
    text_if_marked form t channel samples (mark t samples (length samples))

-- a lawful channel, and such a text with parameters in range
abbrev pub IsLawfulTuned : CodeChannel → TunedText → Type 0
IsLawfulTuned channel RateSetTwo = IsLawful channel
IsLawfulTuned channel (Listed k) = IsLawful channel × IsListLength k
IsLawfulTuned channel (Slots key cycle) = IsLawful channel × (cycle ≤ 7)
