-- The invariants of a receiver's parts: they fit one another, and no number is large.
use Rattle.std.specs.Prelude.{◌≡◌, ◌+◌, ◌*◌, ◌^◌, ◌<◌, ◌≤◌, true, length}
use Rattle.rake_finger.specs.Near.{AreBegun, AreClose, AreNear, have_rows}
use Rattle.rake_finger.specs.Soft.{frame_chips, symbols}
use Rattle.rake_finger.specs.Streams.{frame_end}
use Rattle.rake_finger.specs.declared.form.Form.TheVariants.{Data}
use Rattle.reception.specs.Softs.{AreSmall}
use Rattle.reception.specs.declared.continued.Continued.{Continued}
use Rattle.reception.specs.declared.frame_clock.FrameClock.{FrameClock}
use Rattle.reception.specs.declared.frame_receiver.FrameReceiver.{FrameReceiver}

-- the next frame is at most two before the one that arrives next, and both are early in the file
pub record IsSoundClock (c : FrameClock) : Type 0 where
  pub low_next : c.low ≤ c.next
  pub next_have : c.next ≤ c.have
  pub have_most : c.have ≤ c.next + 2
  pub start_least : frame_chips c.form * c.have ≤ c.start
  pub start_end : c.start < c.end
  pub have_end : c.have < c.end
  pub end_most : c.end < 2 ^ 30

-- one to three fingers near the reference path, and soft values small enough for a decoder
pub record IsSoundChannel (c : Continued) : Type 0 where
  pub clocked : IsSoundClock c.clock
  pub near : AreNear c.fingers
  pub begun : AreBegun c.clock.start c.fingers
  pub ends : c.clock.end ≡ frame_end c.fingers c.clock.form c.clock.start
  pub few : length c.fingers ≤ 3
  pub rows : have_rows c.fingers ≡ true
  pub whole : length c.softs ≡ 1152
  pub small : AreSmall (symbols c.clock.form) c.softs

-- one or more fingers, close to the reference path
pub record IsSoundReceiver (r : FrameReceiver) : Type 0 where
  pub clocked : IsSoundClock r.clock
  pub form_is : r.clock.form ≡ Data
  pub close : AreClose r.fingers
  pub begun : AreBegun r.clock.start r.fingers
  pub ends : r.clock.end ≡ frame_end r.fingers Data r.clock.start
  pub rows : have_rows r.fingers ≡ true
  pub masked : r.scrambling.mask < 2 ^ 42
