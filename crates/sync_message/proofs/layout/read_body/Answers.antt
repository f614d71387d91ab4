use Rattle.sync_message.proofs.ByLayout.{fields_fit}
use Rattle.sync_message.proofs.layout.read_body.Goals as goal

pub fields_from-requires-clause-fixed : goal.fields_from-requires-clause-fixed
fields_from-requires-clause-fixed c = (fields_fit c.in_ok-contents.contents c.in_ok-contents.ensures.found).0
