use Rattle.rake_finger.proofs.Common.{◌≡◌, ◌<◌, ℕ, get_or, length, pos, sign, walsh}
use Rattle.rake_finger.proofs.rows.row_signs.Given as goal

abbrev pub invariant-loop-k : goal.invariant-loop-k
invariant-loop-k l = record {
  long : length l.signs ≡ 64;
  chips : (j : ℕ) → j < l.k → get_or l.signs j (pos 0) ≡ sign (walsh l.row j);
}
