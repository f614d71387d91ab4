use Rattle.pilot_survey.proofs.Common.{◌≡◌, ◌+◌, ◌-◌, ◌/◌, ℕ, length, rules, surveyed, survey_start}
use Rattle.pilot_survey.proofs.Parts.{both}
use Rattle.pilot_survey.proofs.surveying.+fn-run-join_mut+arg2+fn-run-join_mut+arg3+run.Goals as goal

-- All ranks of these workers are written where both halves have written theirs: the list is cut at
-- the pilot with which the right half of the workers begins, so the two parts are one range of
-- pilots.
pub returns : goal.returns
returns g t c =
    let m = length c.split_at_mut-left.result.0.now in
    let n = length c.split_at_mut-left.result.1.now in
    let first : ℕ = survey_start c.args.first c.args.task.now.workers in
    let half : ℕ = c.args.first + (c.args.end - c.args.first) / 2 in
    let middle : ℕ = survey_start half c.args.task.now.workers in
    let whole : m + n ≡ length c.args.ranks.now = search rules in
    let cut : first + m ≡ middle = search rules in
    both (surveyed c.args.task.now.samples.now c.args.task.now.base c.args.task.now.width) first m n middle
    (length c.args.ranks.now) c.left-1.given.0 c.right-1.given.0 (search rules) (search rules) cut
    whole
