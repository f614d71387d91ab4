-- The writer of the text of a channel's frames, and its progress.
use Rattle.tuned_listener.specs.Common.{IsListLength, CheckForm, Sample, soft_frames, Tuning, Mark}
use Rattle.tuned_listener.specs.Common.{CodeChannel, SoftFrame, slot_after, text_from}
use Rattle.std.specs.Prelude.{◌≡◌, ◌≤◌, ℕ, List, [], ◌++◌, Option}
use Rattle.std.specs.Io.{StartsWith}
use Rattle.std.specs.Io.KnownBytes.{Appends}
use Rattle.tuned_listener.specs.Tuners.{IsTunedTo}
use Rattle.tuned_listener.specs.declared.tuner.Tuner.{Tuner}
use Rattle.tuned_listener.specs.SlotWriting.{HoldsSlot, IsReadyForSlots}
use Rattle.tuned_listener.specs.declared.frame_writer.FrameWriter.{FrameWriter}
use Rattle.event_tap.specs.declared.tuned_text.TunedText.{TunedText}
use Rattle.event_tap.specs.declared.tuned_text.TunedText.TheVariants.{Listed, RateSetTwo, Slots}
use Rattle.tuned_listener.specs.declared.frame_writer.FrameWriter.TheVariants as writers

-- the kind of text that it writes
abbrev pub tuned_text_of : FrameWriter → TunedText
tuned_text_of (writers.RateSetTwo decoder) = RateSetTwo
tuned_text_of (writers.Listed decoder k) = Listed k
tuned_text_of (writers.Slots slots) = Slots slots.key slots.cycle

-- its decoder has room for a frame and lists 1 to 16 codewords, or it is ready for slots
abbrev pub IsReady : FrameWriter → Type 0
IsReady (writers.RateSetTwo decoder) = 288 ≤ decoder
IsReady (writers.Listed decoder k) = (192 ≤ decoder) × IsListLength k
IsReady (writers.Slots slots) = IsReadyForSlots slots

-- the parameters of the text are in range
abbrev pub IsLawfulText : TunedText → Type 0
IsLawfulText RateSetTwo = Unit {0}
IsLawfulText (Listed k) = IsListLength k
IsLawfulText (Slots key cycle) = cycle ≤ 7

-- if it decodes slots, it checks messages in this form and keeps these frames of a slot
abbrev pub HoldsFrames : FrameWriter → CheckForm → List SoftFrame → Type 0
HoldsFrames (writers.RateSetTwo decoder) check slot = Unit {0}
HoldsFrames (writers.Listed decoder k) check slot = Unit {0}
HoldsFrames (writers.Slots slots) check slot = (slots.check ≡ check) × HoldsSlot slots slot

-- A receiver that had taken the samples `before` has now taken `heard`, a sink took the text of the
-- frames that end in between, and the writer keeps the frames of the last slot.
pub record WritesFrames (t : Tuning) (channel : CodeChannel) (m : Mark) (form : TunedText)
    (tuner : Tuner) (writer : FrameWriter) (before heard : List Sample) (old new : Option (List ℕ))
    : Type 0 where
  pub text : List ℕ
  pub written : Appends old new text
  pub all : text_from form t channel m before ++ text ≡ text_from form t channel m heard
  pub tuned : IsTunedTo t channel m tuner heard
  pub holds : HoldsFrames writer t.check30 (slot_after [] (soft_frames t channel m heard))

-- a sink took a beginning of that text
pub record WritesFramesPart (t : Tuning) (channel : CodeChannel) (m : Mark) (form : TunedText)
    (before heard : List Sample) (old new : Option (List ℕ)) : Type 0 where
  pub text : List ℕ
  pub written : Appends old new text
  pub begins : StartsWith (text_from form t channel m heard)
      (text_from form t channel m before ++ text)
