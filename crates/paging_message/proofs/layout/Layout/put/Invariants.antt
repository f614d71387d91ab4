use Rattle.paging_message.proofs.Common.{◌≡◌, ◌+◌, ◌*◌, ◌≤◌, length, take, Laid, laid_on, HasLaid}
use Rattle.paging_message.proofs.layout.Layout.put.Given as goal

abbrev pub invariant-loop-i : goal.invariant-loop-i
invariant-loop-i l = record {
  size : l.self.size ≡ l.fn.self.size;
  longer : length l.out ≤ length l.fn.out + 190 + 2 * l.i;
  laid : (was : Laid) → HasLaid l.fn.self was l.fn.out →
      HasLaid l.self (laid_on l.fn.self.size was l.fn.follow (take l.i l.capsule)) l.out;
}
