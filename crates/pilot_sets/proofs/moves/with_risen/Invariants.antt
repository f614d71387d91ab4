use Rattle.pilot_sets.proofs.Common.{◌≡◌, ◌++◌, take, map, fresh as fresh_candidate}
use Rattle.pilot_sets.proofs.moves.with_risen.Given as goal

abbrev pub invariant-loop-p : goal.invariant-loop-p
invariant-loop-p l = l.risen ≡ l.fn.candidates ++ map fresh_candidate (take l.p-index l.up)
