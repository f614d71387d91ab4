use Rattle.event_tap.proofs.SaidTexts.{is_shown}
use Rattle.event_tap.proofs.said.append_message.Goals as goal

pub append_said-requires-clause-shown : goal.append_said-requires-clause-shown
append_said-requires-clause-shown c = is_shown c.args.layout.now c.args.contents.now c.requires.said c.requires.line
