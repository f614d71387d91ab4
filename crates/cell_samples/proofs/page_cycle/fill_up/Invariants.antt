use Rattle.cell_samples.proofs.Common.{◌≡◌, ◌++◌, replicate, false, length, ◌+◌}
use Rattle.cell_samples.proofs.page_cycle.fill_up.Given as goal

abbrev pub invariant-loop-zero : goal.invariant-loop-zero
invariant-loop-zero l = record {
  bits : l.bits ≡ l.fn.bits ++ replicate l._zero false;
  count : length l.bits ≡ length l.fn.bits + l._zero;
}
