use Rattle.viterbi.proofs.LaneLemmas.{lessened_lanes}
use Rattle.viterbi.proofs.lanes.lessened.Goals as goal

pub returns : goal.returns
returns c = lessened_lanes 8 c.args.lanes c.args.number c.requires.long c.requires.fit
