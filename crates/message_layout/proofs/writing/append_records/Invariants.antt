use Rattle.message_layout.proofs.Common.{◌≡◌, ◌++◌, map, spelled, record_fields}
use Rattle.message_layout.proofs.writing.append_records.Given as goal

abbrev pub invariant-loop-i : goal.invariant-loop-i
invariant-loop-i l = l.body ≡ l.fn.body ++ spelled (record_fields (map (λ row. row.1) l.fields) l.i l.columns)
