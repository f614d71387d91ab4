use Rattle.pilot_sets.proofs.Common.{◌≡◌, ◌≤◌, ◌++◌, [], drop, length, firsts as firsts_of}
use Rattle.pilot_sets.proofs.hearing.firsts.Given as goal

abbrev pub invariant-loop-i : goal.invariant-loop-i
invariant-loop-i l =
    (firsts_of [] l.pilots ≡ l.seen ++ firsts_of l.seen (drop l.i l.pilots))
    × (length l.seen ≤ l.i)
