use Rattle.pilot_sets.proofs.Common.{◌≡◌, [], drop, length, first_repeated}
use Rattle.pilot_sets.proofs.directing.repeated.Given as goal

abbrev pub invariant-loop-i : goal.invariant-loop-i
invariant-loop-i l =
    (first_repeated [] l.pilots ≡ first_repeated l.seen (drop l.i l.pilots))
    × (length l.seen ≡ l.i)
