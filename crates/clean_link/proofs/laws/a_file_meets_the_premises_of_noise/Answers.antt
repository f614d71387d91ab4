use Rattle.clean_link.proofs.noise.MarginFile.{meets_premises}
use Rattle.clean_link.proofs.laws.a_file_meets_the_premises_of_noise.Goals as goal

pub returns : goal.returns
returns c = meets_premises
