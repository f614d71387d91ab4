use Rattle.pilot_sets.proofs.Common.{◌≡◌, ◌≤◌, take, length, without, timed_pilots}
use Rattle.pilot_sets.proofs.hearing.free_pilots.Given as goal

abbrev pub invariant-loop-p : goal.invariant-loop-p
invariant-loop-p l =
    (l.free ≡ take 20 (without (timed_pilots l.sets) (take l.p-index l.pilots)))
    × (length l.free ≤ 20)
