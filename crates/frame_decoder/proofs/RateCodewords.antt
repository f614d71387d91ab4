-- The codewords of rate set 1.
use Rattle.frame_decoder.proofs.Common.{◌≤◌, arith, Rate, frame_bits}

pub bits_least : (rate : Rate) → 8 ≤ frame_bits rate
bits_least rate = omega arith
