-- The signal of a paging channel (TIA/EIA-95-B, 7.1.3.4 and 7.7.2.1): the half-frames of its pages,
-- repeated.
use Rattle.std.specs.Prelude.{ℕ, ◌+◌, ◌*◌, ◌%◌, ◌^◌, ◌<◌, ◌≤◌, Bool, false, List, length, map}
use Rattle.std.specs.Prelude.{get_or}
use Rattle.chip_core.specs.Air.{data_frame_chips}
use Rattle.chip_core.specs.Bits.{places, xor, zip_with}
use Rattle.long_code.specs.LongCode.{after, IsState}
use Rattle.paging_message.specs.HalfFrames.{half_frame_body}
use Rattle.symbol_path.specs.Scrambling.{scrambling}
use Rattle.symbol_path.specs.SentOrder.{data_shape, sent}
use Rattle.quality_bits.specs.TrafficCodewords.{repeats_of}
use Rattle.quality_bits.specs.declared.rate.Rate.{Rate}
use Rattle.cell_plan.specs.declared.plan.CellIdentity.{CellIdentity}
use Rattle.cell_plan.specs.Sendings.{continued_symbols}

-- the bits of a frame, if frames have `size` bits each and a cycle of bits repeats without end
unfoldable pub cycled : List Bool → ℕ → ℕ → List Bool
cycled cycle size frame =
    map (λ i. get_or cycle ((size * frame + i) % length cycle) false) (places size)

-- the number of bits in a frame, which has two half-frames
abbrev pub paging_frame_size : Rate → ℕ
paging_frame_size rate = 2 * (half_frame_body rate + 1)

-- symbols, each added modulo 2 to its bit of the long code (7.1.3.1.6)
unfoldable pub scrambled : List Bool → List Bool → List Bool
scrambled chips symbols = zip_with xor symbols chips

-- the half-frames of a cycle, which a cell sends under a mask of the long code
pub record Cycle : Type 0 where
  pub cell : CellIdentity
  pub mask : ℕ
  pub rate : Rate
  pub bits : List Bool

abbrev pub cycle_frame_bits : Cycle → ℕ → List Bool
cycle_frame_bits c = cycled c.bits (paging_frame_size c.rate)

-- the bits that scramble a frame: those of the long code from the frame's first chip on
abbrev pub frame_scrambling : Cycle → ℕ → List Bool
frame_scrambling c frame = scrambling (after c.cell.lc (data_frame_chips * frame)) c.mask

-- the 384 symbols of a frame as they are sent
unfoldable pub cycle_symbols : Cycle → ℕ → List Bool
cycle_symbols c frame =
    scrambled (frame_scrambling c frame)
    (sent data_shape (repeats_of c.rate) (continued_symbols (cycle_frame_bits c) frame))

-- a cycle that can be sent
pub record IsCycle (c : Cycle) : Type 0 where
  pub lc : IsState c.cell.lc
  pub mask : c.mask < 2 ^ 42
  pub some : 1 ≤ length c.bits
