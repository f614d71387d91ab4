use Rattle.pilot_survey.proofs.Common.{◌+◌, ◌-◌, ◌*◌}
use Rattle.pilot_survey.proofs.surveying.+fn-run-join_mut+arg2+fn-run-join_mut+arg3+run.Given as goal

abbrev pub decreases-join_mut+arg2 : goal.decreases-join_mut+arg2
decreases-join_mut+arg2 g l = 2 * (l.middle - l.first) + 1

abbrev pub decreases-join_mut+arg3 : goal.decreases-join_mut+arg3
decreases-join_mut+arg3 g l = 2 * (l.end - l.middle) + 1

abbrev pub decreases-run : goal.decreases-run
decreases-run g l = 2 * (l.end - l.first)
