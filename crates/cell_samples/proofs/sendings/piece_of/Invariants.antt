use Rattle.cell_samples.proofs.Common.{◌≡◌, ◌+◌, ◌*◌, ◌==◌, ◌∷◌, length, take, drop, padded}
use Rattle.cell_samples.proofs.sendings.piece_of.Given as goal

abbrev pub invariant-loop-k : goal.invariant-loop-k
invariant-loop-k l = record {
  bits : l.bits ≡ (l.place == 0) ∷ take l.k (drop (31 * l.place) (padded l.capsule));
  count : length l.bits ≡ l.k + 1;
}
