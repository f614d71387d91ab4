use Rattle.long_code.proofs.Common.{◌≡◌, number}
use Rattle.long_code.proofs.Fields.{first_bits}
use Rattle.long_code.proofs.masks.traffic_mask.Given as goal

abbrev pub invariant-loop-place : goal.invariant-loop-place
invariant-loop-place l = l.mask ≡ number (first_bits l.esn l.place-index)
