use Rattle.clean_link.proofs.traffic.DistinctPlan.{has_mark, has_set_one, has_set_two}
use Rattle.clean_link.proofs.traffic.SharedFrames.{distinct_by_sharing, distinct_by_sharing2}
use Rattle.clean_link.proofs.laws.frames_of_each_rate_are_distinct.Goals as goal

pub returns : goal.returns
returns c = record {
  shared = distinct_by_sharing;
  shared_two = distinct_by_sharing2;
  marked = has_mark;
  set_one = has_set_one;
  set_two = has_set_two;
}
