use Rattle.pilot_sets.proofs.Running.{keeps, only}
use Rattle.pilot_sets.proofs.laws.timers_run_in_their_sets.Goals as goal

pub returns-clause-keeps : goal.returns-clause-keeps
returns-clause-keeps c = keeps

pub returns-clause-only : goal.returns-clause-only
returns-clause-only c = only
