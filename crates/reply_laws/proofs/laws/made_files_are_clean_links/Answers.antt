use Rattle.reply_laws.proofs.MadeLinks.{made_clean, made_clean_sent, made_readable}
use Rattle.reply_laws.proofs.laws.made_files_are_clean_links.Goals as goal

pub returns : goal.returns
returns c = record { file = made_readable; clean = made_clean; sent = made_clean_sent }
