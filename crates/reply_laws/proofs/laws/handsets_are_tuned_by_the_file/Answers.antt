use Rattle.reply_laws.proofs.Common.{handsets_tuned, on_plans_path}
use Rattle.reply_laws.proofs.laws.handsets_are_tuned_by_the_file.Goals as goal

pub returns : goal.returns
returns c = record { tuned = handsets_tuned; path = on_plans_path }
