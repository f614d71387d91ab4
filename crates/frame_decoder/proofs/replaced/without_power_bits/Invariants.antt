use Rattle.frame_decoder.proofs.Common.{◌≡◌, ◌≤◌, sum_by, unsigned_abs, take, unreplaced}
use Rattle.frame_decoder.proofs.replaced.without_power_bits.Given as goal

abbrev pub invariant-loop-place : goal.invariant-loop-place
invariant-loop-place l = record {
  value : l.kept ≡ unreplaced (take l.place-index l.places) l.softs;
  bound : sum_by unsigned_abs l.kept ≤ sum_by unsigned_abs l.softs;
}
