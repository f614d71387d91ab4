use Rattle.paging_message.proofs.Messages.{admits_message, message_fills, message_is_admitted}
use Rattle.paging_message.proofs.laws.type_and_length_admit.Goals as goal

pub returns-clause-fills : goal.returns-clause-fills
returns-clause-fills c m is = message_fills m is

pub returns-clause-admitted : goal.returns-clause-admitted
returns-clause-admitted c body fills = (λ h. admits_message body fills h, λ has. message_is_admitted body has)
