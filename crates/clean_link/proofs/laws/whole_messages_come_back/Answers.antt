use Rattle.clean_link.proofs.messages.MessagesBack.{messages_back}
use Rattle.clean_link.proofs.messages.EachChannel.{no_event_directed}
use Rattle.clean_link.proofs.laws.whole_messages_come_back.Goals as goal

pub returns : goal.returns
returns c = record { undirected = no_event_directed; heard = messages_back }
