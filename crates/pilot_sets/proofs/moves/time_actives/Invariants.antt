use Rattle.pilot_sets.proofs.Common.{◌≡◌, take, map, energy_in, active_timed}
use Rattle.pilot_sets.proofs.moves.time_actives.Given as goal

abbrev pub invariant-loop-a : goal.invariant-loop-a
invariant-loop-a l =
    l.timed
    ≡ map (active_timed (energy_in l.strengths) l.k l.power l.time) (take l.a-index l.actives)
