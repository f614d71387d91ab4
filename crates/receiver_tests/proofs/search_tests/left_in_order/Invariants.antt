use Rattle.std.specs.Prelude.{◌≡◌}
use Rattle.pilot_search.specs.Bounds.{greatest}
use Rattle.pilot_search.specs.Knowledge.{IsHeld}
use Rattle.receiver_tests.proofs.search_tests.left_in_order.Given as goal

abbrev pub invariant-loop-n : goal.invariant-loop-n
invariant-loop-n l = record {
  held : IsHeld l.seat l.shared;
  top : l.seat.ceiling ≡ greatest l.samples;
}
