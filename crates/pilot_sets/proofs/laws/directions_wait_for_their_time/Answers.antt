use Rattle.pilot_sets.proofs.Lasting.{waits}
use Rattle.pilot_sets.proofs.laws.directions_wait_for_their_time.Goals as goal

pub returns-clause-waits : goal.returns-clause-waits
returns-clause-waits c = waits
