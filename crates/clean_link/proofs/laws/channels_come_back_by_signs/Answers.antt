use Rattle.clean_link.proofs.messages.EachChannel.{channels_by_signs, tells_the_mark}
use Rattle.clean_link.proofs.messages.MessagesBack.{all_by_signs}
use Rattle.clean_link.proofs.laws.channels_come_back_by_signs.Goals as goal

pub returns : goal.returns
returns c = record { mark = tells_the_mark; heard = channels_by_signs; all = all_by_signs }
