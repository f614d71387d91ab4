use Rattle.pilot_sets.proofs.Common.{◌≡◌, drop, energy_in, is_above as is_above_by}
use Rattle.pilot_sets.proofs.reports.is_above.Given as goal

abbrev pub invariant-loop-a : goal.invariant-loop-a
invariant-loop-a l =
    is_above_by (energy_in l.strengths) l.k l.actives l.candidate
    ≡ is_above_by (energy_in l.strengths) l.k (drop l.a-index l.actives) l.candidate
