use Rattle.cell_script.proofs.NamedPages.{pages_are_carried, pages_are_messages}
use Rattle.script_laws.proofs.laws.named_pages_are_carried.Goals as goal

pub returns-clause-messages : goal.returns-clause-messages
returns-clause-messages c = pages_are_messages

pub returns-clause-carried : goal.returns-clause-carried
returns-clause-carried c = pages_are_carried
