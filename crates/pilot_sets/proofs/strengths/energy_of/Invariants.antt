use Rattle.pilot_sets.proofs.Common.{◌≡◌, drop, energy_in}
use Rattle.pilot_sets.proofs.strengths.energy_of.Given as goal

-- the strengths so far are of other pilots
abbrev pub invariant-loop-strength : goal.invariant-loop-strength
invariant-loop-strength l = energy_in l.strengths l.pilot ≡ energy_in (drop l.strength-index l.strengths) l.pilot
