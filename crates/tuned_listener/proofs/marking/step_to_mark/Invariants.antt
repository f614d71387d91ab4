use Rattle.tuned_listener.proofs.Common.{◌≡◌, ◌≤◌, ◌+◌, ◌++◌, List, length, take, Sample, has_room, steps_left, Tuning, HasNoMark, IsUntold}
use Rattle.tuned_listener.proofs.marking.step_to_mark.Given as goal

abbrev pub invariant-loop-taken : goal.invariant-loop-taken
invariant-loop-taken l = record {
  most : l.taken ≤ length l.samples;
  room : has_room l.mobile + l.taken ≡ has_room l.fn.mobile;
  untold : IsUntold l.mobile;
  none : (t : Tuning) (heard : List Sample) → HasNoMark t l.fn.mobile heard →
      HasNoMark t l.mobile (heard ++ take l.taken l.samples);
}

abbrev pub decreases-loop-taken : goal.decreases-loop-taken
decreases-loop-taken l = steps_left l.mobile
