-- The state of the receiver of one channel's frames, and the effect of a step.
use Rattle.tuned_listener.specs.Common.{Sample, HoldsLast, soft_frames, frame_most, Tuning}
use Rattle.tuned_listener.specs.Common.{CodeChannel}
use Rattle.tuned_listener.specs.Common.{Mark, SoftFrame}
use Rattle.std.specs.Prelude.{◌≡◌, ℕ, ◌+◌, ◌-◌, ◌<◌, ◌≤◌, List, ◌++◌, length, take, IfSome, None}
use Rattle.std.specs.Prelude.{sum_by, unsigned_abs}
use Rattle.std.specs.Option.{option_to_list}
use Rattle.tuned_listener.specs.FrameReceiving.{HasGiven}
use Rattle.tuned_listener.specs.declared.tuner.Tuner.{Tuner}
use Rattle.tuned_listener.specs.declared.tuner.TunerStep.{TunerStep}

-- It receives this channel after this mark, has taken these samples of a file, and has returned the
-- frames that end within them.
pub record IsTunedTo (t : Tuning) (channel : CodeChannel) (m : Mark) (r : Tuner)
    (heard : List Sample) : Type 0 where
  pub count_is : r.count ≡ t.count
  pub ring : HoldsLast r.ring heard
  pub given : HasGiven t channel m r.receiver (length heard)

-- how many samples of the file are left
abbrev pub samples_left : Tuner → ℕ
samples_left r = r.count - r.ring.taken

-- Between these states it took the first `step.taken` of these samples, at least one if there is
-- one. It returned the frame `step.frame`, which ends at the last of them, and no other frame ends
-- within them. If it returned none, it took all samples. A frame's soft values are so small that
-- those of three frames may be decoded together.
pub record IsTunerStep (before after : Tuner) (samples : List Sample) (step : TunerStep)
    : Type 0 where
  pub most : step.taken ≤ length samples
  pub some : 0 < length samples → 0 < step.taken
  pub all : step.frame ≡ None → step.taken ≡ length samples
  pub left : samples_left after + step.taken ≡ samples_left before
  pub ends : IfSome step.frame (λ (frame : SoftFrame). frame.end ≡ before.ring.taken + step.taken)
  pub small : IfSome step.frame
      (λ (frame : SoftFrame). sum_by unsigned_abs frame.descrambled ≤ frame_most)
  pub stands : (t : Tuning) (channel : CodeChannel) (m : Mark) (heard : List Sample) →
      IsTunedTo t channel m before heard →
      IsTunedTo t channel m after (heard ++ take step.taken samples)
  pub gives : (t : Tuning) (channel : CodeChannel) (m : Mark) (heard : List Sample) →
      IsTunedTo t channel m before heard →
      soft_frames t channel m (heard ++ take step.taken samples)
      ≡ soft_frames t channel m heard ++ option_to_list step.frame
