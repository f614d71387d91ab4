use Rattle.pilot_search.proofs.LaneLemmas.{added_lanes}
use Rattle.pilot_search.proofs.lanes.added.Goals as goal

pub returns : goal.returns
returns c = added_lanes c.args.one c.args.other c.requires
