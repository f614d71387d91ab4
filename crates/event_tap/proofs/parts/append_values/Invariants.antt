use Rattle.event_tap.proofs.Common.{◌≡◌, ◌≤◌, ◌+◌, ◌*◌, ◌++◌, length, map, take, named_values}
use Rattle.event_tap.proofs.parts.append_values.Given as goal

abbrev pub invariant-loop-i : goal.invariant-loop-i
invariant-loop-i l = record {
  value :
      l.text ≡ l.fn.text
      ++ named_values (take l.i (map (λ row. row.0.now) l.table)) (take l.i l.values);
  long : length l.text ≤ length l.fn.text + 16 * l.i;
}
