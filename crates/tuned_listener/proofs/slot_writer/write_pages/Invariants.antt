use Rattle.tuned_listener.proofs.Common.{◌≡◌, ◌≤◌, take, Appends, paging_line, HalfFramesStandFor, half_frame_body, slot_pages}
use Rattle.std.specs.List.{flat_map}
use Rattle.tuned_listener.proofs.slot_writer.write_pages.Given as goal

abbrev pub invariant-loop-i : goal.invariant-loop-i
invariant-loop-i g l = record {
  size : l.framer.size ≡ half_frame_body l.fn.rate;
  stands : HalfFramesStandFor l.framer (take l.i l.bits);
  written : Appends (g.K.Sink.written l.fn.sink) (g.K.Sink.written l.sink)
      (flat_map (paging_line l.at) (slot_pages l.check l.fn.rate (take l.i l.bits)));
  later : g.K.Sink.faults l.fn.sink ≤ g.K.Sink.faults l.sink;
}
