use Rattle.tuned_listener.proofs.Common.{◌≡◌, ◌≤◌, ◌+◌, ◌-◌, ◌++◌, [], List, length, take, Sample, soft_frames, IsTunedTo, samples_left}
use Rattle.tuned_listener.proofs.Common.{Tuning, CodeChannel, HoldsFrames, IsReady, WritesFrames, tuned_text_of, slot_after}
use Rattle.tuned_listener.proofs.frame_writer.hear_frames.Given as goal

abbrev pub invariant-loop-taken : goal.invariant-loop-taken
invariant-loop-taken g l = record {
  most : l.taken ≤ length l.samples;
  room : samples_left l.tuner + l.taken ≡ samples_left l.fn.tuner;
  ready : IsReady l.writer;
  text : tuned_text_of l.writer ≡ tuned_text_of l.fn.writer;
  writes : (t : Tuning) (channel : CodeChannel) (heard : List Sample) → IsTunedTo t channel l.mark l.fn.tuner heard →
      HoldsFrames l.fn.writer t.check30 (slot_after [] (soft_frames t channel l.mark heard)) →
      WritesFrames t channel l.mark (tuned_text_of l.fn.writer) l.tuner l.writer heard
      (heard ++ take l.taken l.samples) (g.K.Sink.written l.fn.sink) (g.K.Sink.written l.sink);
  later : g.K.Sink.faults l.fn.sink ≤ g.K.Sink.faults l.sink;
}

abbrev pub decreases-loop-taken : goal.decreases-loop-taken
decreases-loop-taken g l = length l.samples - l.taken
