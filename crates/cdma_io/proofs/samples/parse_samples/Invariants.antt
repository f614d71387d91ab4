use Rattle.cdma_io.proofs.Common.{◌≡◌, ◌*◌, take, All, flat_map, HasBits, sample_len, sample_spelling}
use Rattle.cdma_io.proofs.samples.parse_samples.Given as goal

abbrev pub invariant-loop-k : goal.invariant-loop-k
invariant-loop-k l = record {
  spelled : take (sample_len l.width * l.k) l.bytes ≡ flat_map (sample_spelling l.width) (take l.k l.out);
  in_range : All (HasBits l.width) (take l.k l.out);
}
