use Rattle.cdma_io.proofs.Common.{◌-◌, ◌≤◌, take, length, All, flat_map, Consumes, HasBits, sample_spelling}
use Rattle.cdma_io.proofs.samples.read_samples.Given as goal

abbrev pub invariant-loop-done : goal.invariant-loop-done
invariant-loop-done g l = record {
  done : l.done ≤ length l.out;
  taken : Consumes (g.S.Source.rest l.fn.source) (g.S.Source.rest l.source)
      (flat_map (sample_spelling l.width) (take l.done l.out));
  in_range : All (HasBits l.width) (take l.done l.out);
  later : g.S.Source.faults l.fn.source ≤ g.S.Source.faults l.source;
}

abbrev pub decreases-loop-done : goal.decreases-loop-done
decreases-loop-done g l = length l.initial.out - l.done
