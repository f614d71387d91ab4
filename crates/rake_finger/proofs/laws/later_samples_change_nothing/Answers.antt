use Rattle.rake_finger.proofs.Strongest.{samples_before-append}
use Rattle.rake_finger.proofs.laws.later_samples_change_nothing.Goals as goal

pub returns : goal.returns
returns c = samples_before-append
