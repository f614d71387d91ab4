use Rattle.chip_core.proofs.Greatest.{lower_of_neighbours, higher_of_neighbours}
use Rattle.chip_core.proofs.laws.best_of_neighbours.Goals as goal

pub returns-clause-lower : goal.returns-clause-lower
returns-clause-lower c = lower_of_neighbours

pub returns-clause-higher : goal.returns-clause-higher
returns-clause-higher c = higher_of_neighbours
