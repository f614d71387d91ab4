use Rattle.run_replies.proofs.Common.{rules}
use Rattle.run_replies.proofs.FirstSamples.{pilot_text}
use Rattle.run_replies.proofs.findings.find_pilot.Goals as goal

pub returns-clause-text : goal.returns-clause-text
returns-clause-text g c = pilot_text c.args.first.now c.in_ok-best.best (search rules)
