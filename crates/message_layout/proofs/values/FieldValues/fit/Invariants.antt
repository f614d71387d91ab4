use Rattle.message_layout.proofs.Common.{map, take, in_widths, FieldsFit}
use Rattle.message_layout.proofs.values.FieldValues.fit.Given as goal

abbrev pub invariant-loop-i : goal.invariant-loop-i
invariant-loop-i l = FieldsFit (in_widths (take l.i (map (λ row. row.1) l.rows)) (take l.i l.self))
