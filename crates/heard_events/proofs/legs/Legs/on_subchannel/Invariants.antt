use Rattle.heard_events.proofs.Common.{◌≡◌, ◌≤◌, take, length, on_subchannel}
use Rattle.heard_events.proofs.legs.Legs.on_subchannel.Given as goal

abbrev pub invariant-loop-leg : goal.invariant-loop-leg
invariant-loop-leg l =
    (l.legs ≡ on_subchannel l.subchannel (take l.leg-index l.leg-items))
    × (length l.legs ≤ l.leg-index)
