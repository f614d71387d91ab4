use Rattle.long_code.proofs.Common.{◌≡◌, ◌*◌, ◌/◌, ◌%◌, ◌^◌, after}
use Rattle.long_code.proofs.symbol_step.times_x64.Given as goal

-- the product of the bits that were read
abbrev pub invariant-loop-row : goal.invariant-loop-row
invariant-loop-row l = record {
  left : l.left ≡ l.value / 2 ^ (2 * l.row-index);
  sum : l.sum ≡ after (l.value % 2 ^ (2 * l.row-index)) 64;
}
