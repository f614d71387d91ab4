use Rattle.frame_decoder.proofs.Common.{◌≡◌, ◌≤◌, ◌*◌, take, sum_by, unsigned_abs, shape_of, size, channel_of, gathered_span}
use Rattle.frame_decoder.proofs.span.gather_span.Given as goal

abbrev pub invariant-loop-frame : goal.invariant-loop-frame
invariant-loop-frame l = record {
  value : take (2 * l.span_format.bits * l.frame) l.out ≡ gathered_span (channel_of l.span_format) l.frame l.softs;
  sizes : sum_by unsigned_abs (take (2 * l.span_format.bits * l.frame) l.out)
      ≤ sum_by unsigned_abs (take (size (shape_of l.span_format.kind) * l.frame) l.softs);
}
