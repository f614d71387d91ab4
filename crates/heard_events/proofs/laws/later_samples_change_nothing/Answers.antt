use Rattle.heard_events.proofs.Causality.{same_events, same_mark}
use Rattle.heard_events.proofs.laws.later_samples_change_nothing.Goals as goal

pub returns-clause-events : goal.returns-clause-events
returns-clause-events c t one other n is = same_events t is one other n

pub returns-clause-mark : goal.returns-clause-mark
returns-clause-mark c t one other n is = same_mark t is one other n
