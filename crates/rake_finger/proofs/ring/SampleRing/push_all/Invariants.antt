use Rattle.rake_finger.proofs.Common.{◌≡◌, ◌+◌, ◌%◌, ◌<◌, ◌++◌, List, take, Sample, HoldsLast}
use Rattle.rake_finger.proofs.ring.SampleRing.push_all.Given as goal

abbrev pub invariant-loop-sample : goal.invariant-loop-sample
invariant-loop-sample l = record {
  room : l.self.room ≡ l.fn.self.room;
  taken : l.self.taken ≡ l.fn.self.taken + l.sample-index;
  next : l.cell ≡ l.self.taken % l.self.room;
  below : l.cell < l.self.room;
  holds : (samples : List Sample) → HoldsLast l.fn.self samples →
      HoldsLast l.self (samples ++ take l.sample-index l.more);
}
