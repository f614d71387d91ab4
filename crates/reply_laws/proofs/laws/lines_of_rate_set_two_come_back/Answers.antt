use Rattle.reply_laws.proofs.SentLines.{set_two_lines}
use Rattle.reply_laws.proofs.laws.lines_of_rate_set_two_come_back.Goals as goal

pub returns : goal.returns
returns c = set_two_lines
