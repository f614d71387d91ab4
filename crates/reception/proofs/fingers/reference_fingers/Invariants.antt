use Rattle.reception.proofs.Common.{◌≡◌, ◌≤◌, take, length, true, all_near, has_reference, have_rows, fingers_of}
use Rattle.reception.proofs.fingers.reference_fingers.Given as goal

abbrev pub invariant-loop-i : goal.invariant-loop-i
invariant-loop-i l = record {
  least : 1 ≤ l.i;
  most : l.i ≤ l.near.count;
  list : l.fingers ≡ fingers_of l.row l.phase (take l.i l.near.deltas);
  rows : have_rows l.fingers ≡ true;
  long : length l.fingers ≡ l.i;
  near : all_near l.fingers ≡ true;
  reference : has_reference l.fingers ≡ true;
}
