-- The state of the receiver of a continued channel.
use Rattle.std.specs.Prelude.{◌≡◌, ℕ, ◌+◌, ◌-◌, ◌≤◌, true, List, length}
use Rattle.std.specs.List.{flat_map}
use Rattle.chip_core.specs.Bits.{places}
use Rattle.chip_core.specs.declared.sample.Sample.{Sample}
use Rattle.rake_finger.specs.Soft.{symbols}
use Rattle.reception.specs.Clocks.{IsAt}
use Rattle.reception.specs.Softs.{last_softs}
use Rattle.rake_finger.specs.Streams.{StreamOf, frame_softs}
use Rattle.reception.specs.declared.continued.Continued.{Continued}

-- The stream's fingers have taken these samples of a file. The clock is at their end, and the soft
-- values of the last frames, up to three, are those of the stream.
pub record Receives {C : Type 0} (count : ℕ) (s : StreamOf C) (c : Continued)
    (heard : List Sample) : Type 0 where
  pub waits : s.waits ≡ true
  pub clocked : IsAt count s c.clock (length heard)
  pub fingers_are : c.fingers ≡ s.fingers
  pub softs_are : (m : ℕ) → m ≤ 3 → c.clock.low + m ≤ c.clock.have →
      last_softs (symbols s.form) m c.softs
      ≡ flat_map (λ j. frame_softs heard s (c.clock.have - m + j)) (places m)
