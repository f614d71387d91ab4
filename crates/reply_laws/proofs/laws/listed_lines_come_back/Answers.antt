use Rattle.reply_laws.proofs.SentLines.{listed_lines}
use Rattle.reply_laws.proofs.laws.listed_lines_come_back.Goals as goal

pub returns : goal.returns
returns c = listed_lines
