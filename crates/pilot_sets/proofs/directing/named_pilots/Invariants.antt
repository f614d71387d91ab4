use Rattle.pilot_sets.proofs.Common.{◌≡◌, ◌++◌, drop, length, named_pilots as pilots_named}
use Rattle.pilot_sets.proofs.directing.named_pilots.Given as goal

abbrev pub invariant-loop-i : goal.invariant-loop-i
invariant-loop-i l =
    (pilots_named l.pns l.combs l.rows
    ≡ l.named ++ pilots_named (drop l.i l.pns) (drop l.i l.combs) (drop l.i l.rows))
    × (length l.named ≡ l.i)
