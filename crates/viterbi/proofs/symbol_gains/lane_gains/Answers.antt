use Rattle.viterbi.proofs.Common.{w64, to_z-of_z, lane_codes}
use Rattle.viterbi.proofs.BlockSteps.{lanes_made}
use Rattle.viterbi.proofs.symbol_gains.lane_gains.Goals as goal

pub returns : goal.returns
unfolding lane_codes
returns c j b =
    lanes_made c.args.first c.args.second c.gains.result c.requires
    (λ k d. rw (
      to_z-of_z w64 c.args.first c.ranges.first,
      to_z-of_z w64 c.args.second c.ranges.second,
    ) at (c.gains.ensures k d)) j b
