use Rattle.reply_laws.proofs.SentLines.{one_frame, one_codeword_follows}
use Rattle.reply_laws.proofs.laws.listing_one_codeword_is_following.Goals as goal

pub returns : goal.returns
returns c = record { frame = one_frame; text = one_codeword_follows }
