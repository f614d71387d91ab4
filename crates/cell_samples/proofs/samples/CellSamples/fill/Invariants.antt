use Rattle.cell_samples.proofs.Common.{◌≡◌, ◌≤◌, ◌+◌, ◌-◌, length, map, take, drop, All, of_sample, HasBits, samples_of}
use Rattle.cell_samples.proofs.samples.CellSamples.fill.Given as goal

abbrev pub invariant-loop-done : goal.invariant-loop-done
invariant-loop-done l = record {
  done : l.done ≤ length l.out;
  state : l.self ≡ record l.fn.self { given = l.fn.self.given + l.done };
  samples : map of_sample (take l.done l.out) ≡ take l.done (drop l.fn.self.given (samples_of l.fn.self.plan));
  fit : All (HasBits l.fn.self.width) (take l.done l.out);
}

abbrev pub decreases-loop-done : goal.decreases-loop-done
decreases-loop-done l = length l.initial.out - l.done
