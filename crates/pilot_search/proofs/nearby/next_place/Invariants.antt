use Rattle.pilot_search.proofs.Common.{IsNext}
use Rattle.pilot_search.proofs.nearby.next_place.Given as goal

abbrev pub invariant-loop-place : goal.invariant-loop-place
invariant-loop-place l = IsNext l.round l.first l.second l.place l.next
