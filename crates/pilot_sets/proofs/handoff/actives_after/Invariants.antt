use Rattle.pilot_sets.proofs.Common.{◌≡◌, ◌≤◌, ◌++◌, drop, length, actives_after as actives_by}
use Rattle.pilot_sets.proofs.handoff.actives_after.Given as goal

abbrev pub invariant-loop-i : goal.invariant-loop-i
invariant-loop-i l =
    (actives_by l.old 0 l.named ≡ l.actives ++ actives_by l.old l.subchannel (drop l.i l.named))
    × (l.subchannel ≤ l.i)
    × (length l.actives ≡ l.i)
