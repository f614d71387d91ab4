use Rattle.cell_plan.proofs.Common.{◌≡◌, length, take, xor, zip_with}
use Rattle.cell_plan.proofs.scrambling.mixed.Given as goal

abbrev pub invariant-loop-k : goal.invariant-loop-k
invariant-loop-k l = record {
  bits : l.out ≡ zip_with xor (take l.k l.symbols) (take l.k l.chips);
  count : length l.out ≡ l.k;
}
