use Rattle.message_layout.proofs.Common.{◌≤◌, drop, length, map}
use Rattle.message_layout.proofs.Loops.{FieldsRead}
use Rattle.message_layout.proofs.reading.read_fields.Given as goal

abbrev pub invariant-loop-i : goal.invariant-loop-i
invariant-loop-i l = record {
  fields : FieldsRead (map (λ row. row.1) l.rows) l.i (drop l.from l.bits) l.values (drop l.place l.bits);
  within : l.place ≤ length l.bits;
}
