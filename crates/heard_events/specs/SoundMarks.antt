-- The marks after which channels are followed.
use Rattle.heard_events.specs.Common.{IsState, Mark}
use Rattle.std.specs.Prelude.{◌^◌, ◌<◌, ◌≤◌}

-- The mark is not far past the end of a file, and late enough for fingers that read early. Its time
-- has 36 bits, its state is one of the long code, and its pilot is one of the 512.
pub record IsSoundMark (m : Mark) : Type 0 where
  pub early : m.sample < 2 ^ 29
  pub late : 2 ^ 16 ≤ m.sample
  pub time : m.time < 2 ^ 36
  pub state : IsState m.state
  pub pilot : m.pilot ≤ 511
