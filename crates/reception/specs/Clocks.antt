-- The clock of a channel's frames, and its meaning.
use Rattle.std.specs.Prelude.{◌≡◌, ◌⊎◌, ℕ, ◌+◌, ◌-◌, ◌*◌, ◌<◌, if◌then◌else◌, nat_lt, Bool, true}
use Rattle.std.specs.Prelude.{List}
use Rattle.rake_finger.specs.Soft.{frame_chips}
use Rattle.rake_finger.specs.declared.finger.Finger.{Finger}
use Rattle.rake_finger.specs.declared.form.Form.{Form}
use Rattle.rake_finger.specs.Near.{all_begun}
use Rattle.reception.specs.Progress.{IsReached}
use Rattle.rake_finger.specs.Streams.{StreamOf, frame_end, frame_start}
use Rattle.rake_finger.specs.Timing.{IsTimed, stream_end}
use Rattle.reception.specs.declared.frame_clock.FrameClock.{FrameClock}

-- the first frame that begins in the file on each finger, if frame 0 begins at reference sample
-- `first`
abbrev pub first_frame : List Finger → ℕ → ℕ
first_frame fingers first = if all_begun first fingers then 0 else 1

-- the clock before any frame has arrived, whose next frame is `frame`
abbrev pub clock_from : List Finger → Form → Bool → ℕ → ℕ → FrameClock
clock_from fingers form waits first frame = record {
  form = form;
  waits = waits;
  low = frame;
  next = frame;
  have = frame;
  start = first + frame_chips form * frame;
  end = frame_end fingers form (first + frame_chips form * frame);
}

-- the clock after another frame has arrived
abbrev pub frame_come : FrameClock → FrameClock
frame_come c = record c {
  have = c.have + 1;
  start = c.start + frame_chips c.form;
  end = c.end + frame_chips c.form;
}

-- the clock after another frame has been decoded
abbrev pub clock_after_frame : FrameClock → FrameClock
clock_after_frame c = record c { next = c.next + 1 }

-- whether the next frame is known: it has arrived, and if it waits, the frame after it has arrived
-- or is not in the file
abbrev pub IsDueAt : ℕ → FrameClock → Type 0
IsDueAt count c = (c.next < c.have) × (c.waits ≡ true → (c.next + 1 < c.have) ⊎ (count < c.end))

-- the first frame of the next frame's span: the frame before it, if that is in the file
abbrev pub span_from : FrameClock → ℕ
span_from c = if nat_lt c.low c.next then c.next - 1 else c.next

-- the clock shows the next frame of a stream in a file of `count` samples, after `taken` of them
pub record IsAt {C : Type 0} (count : ℕ) (s : StreamOf C) (c : FrameClock) (taken : ℕ) :
    Type 0 where
  pub timed : IsTimed count s c.low
  pub reached : IsReached count s c.low c.next c.have taken
  pub form_is : c.form ≡ s.form
  pub waits_is : c.waits ≡ s.waits
  pub start_is : c.start ≡ frame_start s c.have
  pub end_is : c.end ≡ stream_end s c.have
