use Rattle.trial_link.proofs.TrialPlans.{trial_named}
use Rattle.trial_link.proofs.laws.trial_scripts_are_lawful.Goals as goal

pub returns : goal.returns
returns c = trial_named
