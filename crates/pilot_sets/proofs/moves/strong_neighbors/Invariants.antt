use Rattle.pilot_sets.proofs.Common.{◌≡◌, ◌≤◌, take, filter, length, energy_in, rises}
use Rattle.pilot_sets.proofs.moves.strong_neighbors.Given as goal

abbrev pub invariant-loop-p : goal.invariant-loop-p
invariant-loop-p l =
    (l.strong
    ≡ take l.room (filter (rises (energy_in l.strengths) l.k l.power l.began) (take l.p-index l.neighbors)))
    × (length l.strong ≤ l.room)
