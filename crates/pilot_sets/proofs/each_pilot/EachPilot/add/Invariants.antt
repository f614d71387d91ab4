use Rattle.pilot_sets.proofs.Common.{◌≡◌, ◌++◌, take}
use Rattle.pilot_sets.proofs.each_pilot.EachPilot.add.Given as goal

abbrev pub invariant-loop-t : goal.invariant-loop-t
invariant-loop-t g l = l.self-inside.list ≡ l.initial.self-inside.list ++ take l.t-index l.things
