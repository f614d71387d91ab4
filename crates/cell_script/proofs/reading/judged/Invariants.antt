use Rattle.cell_script.proofs.Common.{length}
use Rattle.cell_script.proofs.ScriptReading.{HasRead}
use Rattle.cell_script.proofs.reading.judged.Given as goal

abbrev pub invariant-loop-rest : goal.invariant-loop-rest
invariant-loop-rest l = HasRead l.script l.stage l.judge l.n l.rest

abbrev pub decreases-loop-rest : goal.decreases-loop-rest
decreases-loop-rest l = length l.rest
