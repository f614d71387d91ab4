use Rattle.std.proofs.Common.{◌≡◌, ◌-◌, ◌≤◌, length}
use Rattle.std.specs.Io.KnownBytes.{Appends}
use Rattle.base_modulator.proofs.MadeFiles.{file_front}
use Rattle.base_modulator.proofs.making.writing.write_cell.Given as goal

abbrev pub invariant-loop-width : goal.invariant-loop-width
invariant-loop-width g l = record {
  plan : l.cell.plan ≡ l.initial.cell.plan;
  width : l.cell.width ≡ l.width;
  written : Appends (g.K.Sink.written l.fn.sink) (g.K.Sink.written l.sink)
      (file_front l.width l.initial.cell.plan l.cell.given);
  samples : length l.samples ≡ 4096;
  bytes : length l.bytes ≡ 16384;
  later : g.K.Sink.faults l.fn.sink ≤ g.K.Sink.faults l.sink;
}

abbrev pub decreases-loop-width : goal.decreases-loop-width
decreases-loop-width g l = l.cell.plan.link.samples - l.cell.given
