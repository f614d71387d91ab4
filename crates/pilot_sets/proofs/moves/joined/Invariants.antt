use Rattle.pilot_sets.proofs.Common.{◌≡◌, ◌≤◌, ◌++◌, take, length}
use Rattle.pilot_sets.proofs.moves.joined.Given as goal

abbrev pub invariant-loop-p : goal.invariant-loop-p
invariant-loop-p l = (l.joined ≡ take 20 (l.fn.neighbors ++ take l.p-index l.others)) × (length l.joined ≤ 20)
