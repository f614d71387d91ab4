use Rattle.cell_samples.proofs.Common.{◌≡◌, length, map, places, bit_of_frame}
use Rattle.cell_samples.proofs.page_cycle.PageCycle.frame_bits.Given as goal

abbrev pub invariant-loop-k : goal.invariant-loop-k
invariant-loop-k l = record {
  value : l.bits ≡ map (bit_of_frame l.fn.self.bits l.size l.frame) (places l.k);
  count : length l.bits ≡ l.k;
}
