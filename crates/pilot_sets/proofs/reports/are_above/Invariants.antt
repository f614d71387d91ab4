use Rattle.pilot_sets.proofs.Common.{◌≡◌, drop, list_any, energy_in, is_above as is_above_by}
use Rattle.pilot_sets.proofs.reports.are_above.Given as goal

abbrev pub invariant-loop-c : goal.invariant-loop-c
invariant-loop-c l =
    list_any (is_above_by (energy_in l.strengths) l.k l.actives) l.candidates
    ≡ list_any (is_above_by (energy_in l.strengths) l.k l.actives) (drop l.c-index l.candidates)
