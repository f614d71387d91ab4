use Rattle.heard_events.proofs.Common.{◌≡◌, ◌+◌, ◌++◌, ◌≤◌, take, length, true, all_close, fingers_in, fingers_of}
use Rattle.heard_events.proofs.fingers.with_leg.Given as goal

abbrev pub invariant-loop-i : goal.invariant-loop-i
invariant-loop-i l = record {
  most : l.i ≤ l.near.count;
  list : fingers_in l.more ≡ fingers_in l.fn.fingers ++ fingers_of l.leg.finger.row l.phase (take l.i l.near.deltas);
  long : length (fingers_in l.more) ≡ length (fingers_in l.fn.fingers) + l.i;
  close : all_close (fingers_in l.fn.fingers) ≡ true → all_close (fingers_in l.more) ≡ true;
}
