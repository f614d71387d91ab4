use Rattle.reply_laws.proofs.SignedReplies.{file_slots}
use Rattle.reply_laws.proofs.laws.slots_of_a_file_come_back.Goals as goal

pub returns : goal.returns
returns c = file_slots
