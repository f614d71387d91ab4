use Rattle.pilot_sets.proofs.Common.{◌≡◌, take, pilots_of_candidates}
use Rattle.pilot_sets.proofs.pilots.candidate_pilots.Given as goal

abbrev pub invariant-loop-c : goal.invariant-loop-c
invariant-loop-c l = l.pilots ≡ pilots_of_candidates (take l.c-index l.candidates)
