use Rattle.paging_message.proofs.Common.{◌≡◌, ◌+◌, ◌*◌, ◌≤◌, ◌++◌, false, length, replicate, Laid, HasLaid}
use Rattle.paging_message.proofs.layout.Layout.make_way.Given as goal

abbrev pub invariant-loop-zero : goal.invariant-loop-zero
invariant-loop-zero l = record {
  size : l.self.size ≡ l.fn.self.size;
  longer : length l.out ≤ length l.fn.out + 2 * l._zero;
  laid : (was : Laid) → HasLaid l.fn.self was l.fn.out → HasLaid l.self
      (record { body = was.body ++ replicate l._zero false; starts = was.starts }) l.out;
}
