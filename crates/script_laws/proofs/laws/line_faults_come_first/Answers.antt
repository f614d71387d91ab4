use Rattle.script_laws.proofs.LineFaults.{line_answer}
use Rattle.script_laws.proofs.laws.line_faults_come_first.Goals as goal

pub returns : goal.returns
returns c = line_answer
