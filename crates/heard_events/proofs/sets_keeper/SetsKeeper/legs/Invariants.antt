use Rattle.heard_events.proofs.Common.{◌≡◌, map, take, length, leg_of}
use Rattle.heard_events.proofs.sets_keeper.SetsKeeper.legs.Given as goal

abbrev pub invariant-loop-i : goal.invariant-loop-i
invariant-loop-i l =
    (l.legs ≡ map (leg_of l.self.mark l.self.sets.deltas) (take l.i l.active))
    × (length l.legs ≡ l.i)
