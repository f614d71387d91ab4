use Rattle.pilot_sets.proofs.Common.{◌≡◌, ◌≤◌, take, length, without as without_pilots}
use Rattle.pilot_sets.proofs.pilots.without.Given as goal

abbrev pub invariant-loop-p : goal.invariant-loop-p
invariant-loop-p l = (l.left ≡ without_pilots l.others (take l.p-index l.pilots)) × (length l.left ≤ l.p-index)
