use Rattle.event_tap.proofs.Common.{◌≡◌, ◌≤◌, ◌+◌, ◌*◌, ◌++◌, length, take, commas}
use Rattle.event_tap.proofs.items.append_items.Given as goal

abbrev pub invariant-loop-i : goal.invariant-loop-i
invariant-loop-i g l = record {
  most : l.i ≤ g.L.Items.size l.items;
  value : l.text ≡ l.fn.text ++ commas (take l.i (g.L.Items.texts l.items));
  long : length l.text ≤ length l.fn.text + g.L.Items.width l.items * l.i;
}
