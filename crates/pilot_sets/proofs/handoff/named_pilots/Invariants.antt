use Rattle.pilot_sets.proofs.Common.{◌≡◌, take, pilots_named}
use Rattle.pilot_sets.proofs.handoff.named_pilots.Given as goal

abbrev pub invariant-loop-n : goal.invariant-loop-n
invariant-loop-n l = l.pilots ≡ pilots_named (take l.n-index l.named)
