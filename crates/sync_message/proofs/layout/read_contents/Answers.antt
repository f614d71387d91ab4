use Rattle.sync_message.proofs.ByLayout.{sync_lawful}
use Rattle.sync_message.proofs.layout.read_contents.Goals as goal

pub read_from-requires-clause-lawful : goal.read_from-requires-clause-lawful
read_from-requires-clause-lawful c = sync_lawful
