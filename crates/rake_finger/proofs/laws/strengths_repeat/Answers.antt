use Rattle.rake_finger.proofs.Strongest.{strength_again}
use Rattle.rake_finger.proofs.laws.strengths_repeat.Goals as goal

pub returns : goal.returns
returns c = strength_again
