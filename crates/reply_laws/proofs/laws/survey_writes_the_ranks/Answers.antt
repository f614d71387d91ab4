use Rattle.reply_laws.proofs.Required.{survey_writes}
use Rattle.reply_laws.proofs.laws.survey_writes_the_ranks.Goals as goal

pub returns : goal.returns
returns c = survey_writes
