use Rattle.rake_finger.proofs.SignedLanes.{signed_all}
use Rattle.rake_finger.proofs.lanes.signed_lanes.Goals as goal

pub returns : goal.returns
returns c = signed_all c.args.products c.args.signs c.requires.products c.requires.signs
