use Rattle.pilot_survey.proofs.Ranked.{ranking_only}
use Rattle.pilot_survey.proofs.Sorting.{ranking_is}
use Rattle.pilot_survey.proofs.laws.ranking_is_the_only_one.Goals as goal

pub returns-clause-is : goal.returns-clause-is
returns-clause-is c = ranking_is

pub returns-clause-only : goal.returns-clause-only
returns-clause-only c = ranking_only
