-- The listener for the frames of one channel.
use Rattle.tuned_listener.specs.Common.{Sample, mark, AreNear, has_room, Tuning, sync_stream, Mark}
use Rattle.tuned_listener.specs.Common.{CodeChannel, Mobile, Near, slot_after, after_mark}
use Rattle.tuned_listener.specs.Common.{tuned_text}
use Rattle.std.specs.Prelude.{◌≡◌, ℕ, Bool, true, false, List, [], ◌++◌, length, take, Option, Some}
use Rattle.std.specs.Io.{StartsWith}
use Rattle.std.specs.Io.KnownBytes.{Appends}
use Rattle.tuned_listener.specs.Tuners.{IsTunedTo, samples_left}
use Rattle.tuned_listener.specs.FrameWriting.{HoldsFrames, tuned_text_of}
use Rattle.tuned_listener.specs.Marking.{IsMarkedAt, ListensAhead}
use Rattle.tuned_listener.specs.declared.tuned.Hearer.{Hearer}
use Rattle.tuned_listener.specs.declared.tuned.Hearer.TheVariants.{Ahead, After}
use Rattle.tuned_listener.specs.declared.tuned.TunedListener.{TunedListener}
use Rattle.tuned_listener.specs.declared.tuner.Tuner.{Tuner}
use Rattle.event_tap.specs.declared.tuned_text.TunedText.{TunedText}

-- the parameters with which the receiver is opened are those of the tuning and the channel
pub record OpensFor (t : Tuning) (channel for_channel : CodeChannel) (phase : ℕ) (near : Near)
    : Type 0 where
  pub phase_is : t.phase ≡ phase
  pub deltas_are : t.deltas ≡ take near.count near.deltas
  pub channel_is : for_channel ≡ channel

-- a handset ahead of the mark, which such a receiver will replace, has taken these samples
pub record WaitsFor (t : Tuning) (channel : CodeChannel) (mobile : Mobile)
    (for_channel : CodeChannel) (phase : ℕ) (near : Near) (heard : List Sample) : Type 0 where
  pub opens : OpensFor t channel for_channel phase near
  pub ahead : ListensAhead t mobile heard

-- a receiver after a mark has taken these samples, which set that mark
pub record ListensAfter (t : Tuning) (channel : CodeChannel) (m : Mark) (tuner : Tuner)
    (heard : List Sample) : Type 0 where
  pub marked : mark t heard (length heard) ≡ Some m
  pub tuned : IsTunedTo t channel m tuner heard

-- a handset or a receiver has taken these samples in this way
abbrev pub ListensFrom : Tuning → CodeChannel → Hearer → List Sample → Type 0
ListensFrom t channel (Ahead mobile for_channel phase near) heard =
    WaitsFor t channel mobile for_channel phase near heard
ListensFrom t channel (After m tuner) heard = ListensAfter t channel m tuner heard

-- a handset, which such a receiver will replace, has taken these samples, which set this mark
abbrev pub WasTold : Tuning → CodeChannel → Hearer → Mark → List Sample → Type 0
WasTold t channel (Ahead mobile for_channel phase near) m heard =
    OpensFor t channel for_channel phase near × IsMarkedAt t mobile m heard
WasTold t channel (After already tuner) m heard = ⊥

-- A listener for this text of this channel has taken these samples of a file, and written the lines
-- of the frames that end within them.
pub record ListensTuned (t : Tuning) (channel : CodeChannel) (form : TunedText) (l : TunedListener)
    (heard : List Sample) : Type 0 where
  pub form_is : tuned_text_of l.writer ≡ form
  pub close : AreNear (sync_stream t).fingers
  pub holds : HoldsFrames l.writer t.check30 (slot_after [] (after_mark t channel heard))
  pub listens : ListensFrom t channel l.hearer heard

-- whether a handset waits for the mark
abbrev pub is_ahead : Hearer → Bool
is_ahead (Ahead mobile channel phase near) = true
is_ahead (After m tuner) = false

-- how many samples of the file are left to the handset or the receiver
abbrev pub room_of : Hearer → ℕ
room_of (Ahead mobile channel phase near) = has_room mobile
room_of (After m tuner) = samples_left tuner

-- how many samples of the file are left to the listener
abbrev pub tuned_room : TunedListener → ℕ
tuned_room l = room_of l.hearer

-- The listener, which had taken the samples `before`, has now taken `heard`, and a sink took the
-- text of the frames that end in between.
pub record TellsTuned (t : Tuning) (channel : CodeChannel) (form : TunedText) (l : TunedListener)
    (before heard : List Sample) (old new : Option (List ℕ)) : Type 0 where
  pub text : List ℕ
  pub written : Appends old new text
  pub all : tuned_text form t channel before ++ text ≡ tuned_text form t channel heard
  pub listens : ListensTuned t channel form l heard

-- a sink took a beginning of that text
pub record TellsTunedPart (t : Tuning) (channel : CodeChannel) (form : TunedText)
    (before heard : List Sample) (old new : Option (List ℕ)) : Type 0 where
  pub text : List ℕ
  pub written : Appends old new text
  pub begins : StartsWith (tuned_text form t channel heard)
      (tuned_text form t channel before ++ text)
