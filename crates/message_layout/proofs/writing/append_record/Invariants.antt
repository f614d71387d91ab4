use Rattle.message_layout.proofs.Common.{◌≡◌, ◌++◌, map, take, spelled, in_widths, record_at}
use Rattle.message_layout.proofs.writing.append_record.Given as goal

abbrev pub invariant-loop-j : goal.invariant-loop-j
invariant-loop-j l =
    l.body ≡ l.fn.body ++ spelled
    (in_widths (take l.j (map (λ row. row.1) l.fields)) (take l.j (record_at l.i l.columns)))
