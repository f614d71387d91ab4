use Rattle.message_layout.proofs.Common.{◌≡◌, ◌++◌, map, take, spelled, in_widths}
use Rattle.message_layout.proofs.writing.append_values.Given as goal

abbrev pub invariant-loop-i : goal.invariant-loop-i
invariant-loop-i l =
    l.body ≡ l.fn.body ++ spelled (in_widths (take l.i (map (λ row. row.1) l.rows)) (take l.i l.values))
