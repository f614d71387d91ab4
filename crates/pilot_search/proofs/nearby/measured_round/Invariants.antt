use Rattle.pilot_search.proofs.Common.{IsRound}
use Rattle.pilot_search.proofs.nearby.measured_round.Given as goal

abbrev pub invariant-loop-place : goal.invariant-loop-place
invariant-loop-place l = IsRound l.samples l.fn.best.phase l.place l.round
