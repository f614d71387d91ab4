use Rattle.message_layout.proofs.Common.{map}
use Rattle.message_layout.proofs.Loops.{Summed}
use Rattle.message_layout.proofs.reading.size_of.Given as goal

abbrev pub invariant-loop-i : goal.invariant-loop-i
invariant-loop-i l = Summed (map (λ row. row.1) l.fields) l.i l.size
