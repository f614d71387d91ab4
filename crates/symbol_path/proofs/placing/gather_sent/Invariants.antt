use Rattle.symbol_path.proofs.Common.{◌≡◌, ◌≤◌, ◌/◌, ℕ, get_or, take, pos, sum_by, unsigned_abs, repeated_as}
use Rattle.symbol_path.proofs.Gathering.{part}
use Rattle.symbol_path.proofs.placing.gather_sent.Given as goal

abbrev pub invariant-loop-i : goal.invariant-loop-i
invariant-loop-i l = record {
  sums : (c : ℕ) → get_or l.out c (pos 0) ≡
      part (λ i. get_or l.softs i (pos 0)) (λ i. repeated_as l.symbols i / l.repeats) l.i c;
  sizes : sum_by unsigned_abs l.out ≤ sum_by unsigned_abs (take l.i l.softs);
}
