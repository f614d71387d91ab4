use Rattle.heard_events.proofs.Common.{◌≡◌, ◌+◌, ◌≤◌, take, drop, length, true, all_close, fingers_in, places_in, all_fingers}
use Rattle.heard_events.proofs.fingers.fingers_or_none.Given as goal

abbrev pub invariant-loop-leg : goal.invariant-loop-leg
invariant-loop-leg l = record {
  list : fingers_in l.fingers ≡ all_fingers l.phase (take l.near.count l.near.deltas) (take l.leg-index l.leg-items);
  room : length (fingers_in l.fingers) + places_in (drop l.leg-index l.leg-items) ≤ 8;
  close : all_close (fingers_in l.fingers) ≡ true;
}
