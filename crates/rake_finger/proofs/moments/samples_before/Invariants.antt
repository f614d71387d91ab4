use Rattle.rake_finger.proofs.Common.{◌≡◌, ◌+◌, ◌-◌, ◌%◌, ◌<◌, List, length, take, drop, Sample, HoldsLast, IsNarrow}
use Rattle.std.specs.List.{All}
use Rattle.rake_finger.proofs.moments.samples_before.Given as goal

abbrev pub invariant-loop-k : goal.invariant-loop-k
invariant-loop-k l = record {
  value : (samples : List Sample) → HoldsLast l.ring samples →
      take l.k l.samples ≡ take l.k (drop (l.end - 512) samples);
  long : length l.samples ≡ 512;
  narrow : All IsNarrow l.samples;
  cell : l.cell ≡ (l.end - 512 + l.k) % l.ring.room;
  below : l.cell < l.ring.room;
}
