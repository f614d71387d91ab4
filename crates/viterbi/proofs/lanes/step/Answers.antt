use Rattle.viterbi.proofs.Common.{w64, to_z-of_z}
use Rattle.viterbi.proofs.lanes.step.Goals as goal

pub step_all-requires-clause-column : goal.step_all-requires-clause-column
step_all-requires-clause-column c =
    rw (
      to_z-of_z w64 c.args.top c.ranges.top,
      to_z-of_z w64 c.args.first c.ranges.first,
      to_z-of_z w64 c.args.second c.ranges.second,
    ) c.requires.column

pub step_all-requires-else-forced-clause-column : goal.step_all-requires-else-forced-clause-column
step_all-requires-else-forced-clause-column c =
    rw (
      to_z-of_z w64 c.args.top c.ranges.top,
      to_z-of_z w64 c.args.first c.ranges.first,
      to_z-of_z w64 c.args.second c.ranges.second,
    ) c.requires.column
