use Rattle.pilot_search.proofs.Common.{◌≡◌, ◌+◌, ◌≤◌, IsFound, greatest, IsHeld}
use Rattle.pilot_search.proofs.searching.work.Given as goal

abbrev pub invariant-loop-n : goal.invariant-loop-n
invariant-loop-n l = record {
  count : l.unfinished + l.from ≤ l.n;
  held : IsHeld l.seat l.shared;
  top : l.seat.ceiling ≡ greatest l.samples;
  found : IsFound l.samples l.from l.n l.best;
}
