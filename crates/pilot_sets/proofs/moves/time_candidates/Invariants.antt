use Rattle.pilot_sets.proofs.Common.{◌≡◌, take, map, energy_in, candidate_timed}
use Rattle.pilot_sets.proofs.moves.time_candidates.Given as goal

abbrev pub invariant-loop-c : goal.invariant-loop-c
invariant-loop-c l =
    l.timed
    ≡ map (candidate_timed (energy_in l.strengths) l.k l.power l.time) (take l.c-index l.candidates)
