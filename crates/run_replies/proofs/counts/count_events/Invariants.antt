use Rattle.run_replies.proofs.Common.{◌≡◌, ◌≤◌, ◌+◌, ◌++◌, List, length, take, Sample, StandsFor, has_room, steps_left, Tuning, Event}
use Rattle.run_replies.proofs.Common.{LeavesRoom, counts_of}
use Rattle.run_replies.proofs.counts.count_events.Given as goal

abbrev pub invariant-loop-event : goal.invariant-loop-event
invariant-loop-event l = record {
  most : l.taken ≤ length l.samples;
  room : has_room l.mobile + l.taken ≡ has_room l.fn.mobile;
  few : LeavesRoom l.counts (steps_left l.mobile);
  told : (t : Tuning) (heard : List Sample) (given : List Event) →
      StandsFor t l.fn.mobile heard given → l.fn.counts ≡ counts_of given → (more : List Event)
      × StandsFor t l.mobile (heard ++ take l.taken l.samples) more × (l.counts ≡ counts_of more);
}

abbrev pub decreases-loop-event : goal.decreases-loop-event
decreases-loop-event l = steps_left l.mobile
