use Rattle.clean_link.proofs.noise.FileAtMargin.{comes_back}
use Rattle.clean_link.proofs.laws.a_file_comes_back_at_its_margin.Goals as goal

pub returns : goal.returns
returns c = comes_back
