use Rattle.chip_core.proofs.Greatest.{first_greatest-is, only}
use Rattle.chip_core.proofs.laws.first_greatest_is_the_only_one.Goals as goal

pub returns-clause-is : goal.returns-clause-is
returns-clause-is c = first_greatest-is

pub returns-clause-only : goal.returns-clause-only
returns-clause-only c = only
