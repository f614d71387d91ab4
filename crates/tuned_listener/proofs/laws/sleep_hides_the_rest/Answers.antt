use Rattle.tuned_listener.proofs.Sleep.{sleeps}
use Rattle.tuned_listener.proofs.laws.sleep_hides_the_rest.Goals as goal

pub returns : goal.returns
returns c = sleeps
