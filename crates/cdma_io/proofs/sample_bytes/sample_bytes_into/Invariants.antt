use Rattle.cdma_io.proofs.Common.{◌≡◌, ◌*◌, take, flat_map, sample_len, sample_spelling}
use Rattle.cdma_io.proofs.sample_bytes.sample_bytes_into.Given as goal

abbrev pub invariant-loop-k : goal.invariant-loop-k
invariant-loop-k l =
    take (sample_len l.width * l.k) l.bytes ≡
    flat_map (sample_spelling l.width) (take l.k l.samples)
