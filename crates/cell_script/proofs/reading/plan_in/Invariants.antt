use Rattle.cell_script.proofs.Common.{length}
use Rattle.cell_script.proofs.ScriptReading.{HasMade}
use Rattle.cell_script.proofs.reading.plan_in.Given as goal

abbrev pub invariant-loop-statement : goal.invariant-loop-statement
invariant-loop-statement l = HasMade l.script l.plan l.rest

abbrev pub decreases-loop-statement : goal.decreases-loop-statement
decreases-loop-statement l = length l.rest
