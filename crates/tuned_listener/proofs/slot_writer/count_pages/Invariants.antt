use Rattle.tuned_listener.proofs.Common.{◌≡◌, ◌≤◌, length, take, HalfFramesStandFor, half_frame_body, slot_pages}
use Rattle.tuned_listener.proofs.slot_writer.count_pages.Given as goal

abbrev pub invariant-loop-i : goal.invariant-loop-i
invariant-loop-i l = record {
  size : l.framer.size ≡ half_frame_body l.fn.rate;
  stands : HalfFramesStandFor l.framer (take l.i l.bits);
  count : l.count ≡ length (slot_pages l.check l.fn.rate (take l.i l.bits));
  few : l.count ≤ l.i;
}
