use Rattle.pilot_search.proofs.BestPhase.{best_phase-only, best_energy-only, best_phase-is}
use Rattle.pilot_search.proofs.laws.best_of_all_is_best_phase.Goals as goal

pub returns-clause-phase : goal.returns-clause-phase
returns-clause-phase c = best_phase-only

pub returns-clause-energy : goal.returns-clause-energy
returns-clause-energy c = best_energy-only

pub returns-clause-is : goal.returns-clause-is
returns-clause-is c = best_phase-is
