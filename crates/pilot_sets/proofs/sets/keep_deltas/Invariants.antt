use Rattle.pilot_sets.proofs.Common.{◌≡◌, drop, length, deltas_with}
use Rattle.pilot_sets.proofs.sets.keep_deltas.Given as goal

abbrev pub invariant-loop-s : goal.invariant-loop-s
invariant-loop-s l =
    (deltas_with l.strengths l.initial.deltas
    ≡ deltas_with (drop l.s-index l.strengths) l.deltas)
    × (length l.deltas ≡ 512)
