use Rattle.std.proofs.Common.{◌≡◌, ◌*◌, length}
use Rattle.std.specs.List.{flat_map}
use Rattle.chip_core.specs.Bits.{places}
use Rattle.frame_decoder.specs.Spans.{paging_channel}
use Rattle.slot_mode.specs.Frames.{slot_frame_bits}
use Rattle.slot_mode.proofs.frames.slot_bits.Given as goal

abbrev pub invariant-loop-frame : goal.invariant-loop-frame
invariant-loop-frame l = record {
  value : l.bits ≡ flat_map (slot_frame_bits l.rate l.softs) (places l.frame);
  long : length l.bits ≡ (paging_channel l.rate).bits * l.frame;
  kept : l.decoder ≡ l.fn.decoder;
}
