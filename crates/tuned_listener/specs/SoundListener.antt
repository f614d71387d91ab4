-- The invariant of a listener.
use Rattle.tuned_listener.specs.Common.{Near, IsSoundMark, CodeChannel, Mark, samples_taken, Mobile}
use Rattle.std.specs.Prelude.{◌≡◌, ◌≤◌, ℕ, pos, Some, slice_get}
use Rattle.heard_events.specs.Channels.{IsLawful}
use Rattle.tuned_listener.specs.FrameWriting.{IsReady}
use Rattle.tuned_listener.specs.Marking.{IsUntold}
use Rattle.tuned_listener.specs.declared.frame_writer.FrameWriter.{FrameWriter}
use Rattle.tuned_listener.specs.declared.tuned.Hearer.{Hearer}
use Rattle.tuned_listener.specs.declared.tuned.Hearer.TheVariants.{Ahead, After}
use Rattle.tuned_listener.specs.declared.tuner.Tuner.{Tuner}

-- a receiver of frames can be opened for a channel and one to three paths, the reference's first
pub record CanOpenFor (channel : CodeChannel) (near : Near) : Type 0 where
  pub lawful : ∥ IsLawful channel ∥₁
  pub least : 1 ≤ near.count
  pub most : near.count ≤ 3
  pub first : slice_get near.deltas 0 ≡ Some (pos 0)

-- a handset ahead of the mark has not set one, and a receiver can be opened to replace it; the mark
-- of a receiver is sound
pub record IsSoundHearer (hearer : Hearer) : Type 0 where
  pub ahead : (mobile : Mobile) (channel : CodeChannel) (phase : ℕ) (near : Near) →
      hearer ≡ Ahead mobile channel phase near → IsUntold mobile × CanOpenFor channel near
  pub after : (m : Mark) (tuner : Tuner) → hearer ≡ After m tuner → IsSoundMark m

-- a handset has taken no sample after this mark, and a receiver can be opened to replace it
abbrev pub CanOpen : Hearer → Mark → Type 0
CanOpen (Ahead mobile channel phase near) m =
    (samples_taken mobile ≤ m.sample) × CanOpenFor channel near
CanOpen (After already tuner) m = ⊥

-- the part that takes the samples is sound, and the writer is ready for a frame
pub record IsSoundListener (hearer : Hearer) (writer : FrameWriter) : Type 0 where
  pub hears : IsSoundHearer hearer
  pub ready : ∥ IsReady writer ∥₁
