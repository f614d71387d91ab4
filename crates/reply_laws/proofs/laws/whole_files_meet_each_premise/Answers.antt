use Rattle.reply_laws.proofs.WholeFiles.{loud_comes_back, meets_each, meets_noise}
use Rattle.reply_laws.proofs.laws.whole_files_meet_each_premise.Goals as goal

pub returns : goal.returns
returns c = record { clean = meets_each; noisy = meets_noise; any = loud_comes_back }
