use Rattle.pilot_search.proofs.Runs.{finds_best, best_first}
use Rattle.pilot_search.proofs.laws.every_run_finds_the_best.Goals as goal

pub returns-clause-evaluated : goal.returns-clause-evaluated
returns-clause-evaluated c = finds_best

pub returns-clause-first : goal.returns-clause-first
returns-clause-first c = best_first
