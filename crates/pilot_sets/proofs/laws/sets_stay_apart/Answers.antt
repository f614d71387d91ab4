use Rattle.pilot_sets.proofs.Lasting.{sets_stay_apart}
use Rattle.pilot_sets.proofs.laws.sets_stay_apart.Goals as goal

pub returns : goal.returns
returns c = sets_stay_apart
