-- The frames of channels whose encoder goes on from one to the next.
use Rattle.cell_samples.proofs.Common.{◌≡◌, ℕ, ◌≤◌, Bool, List, ap, ◌∙◌, arith, data_shape, sent, shape_of, repeats_of, Rate, cycle_symbols}
use Rattle.cell_samples.proofs.Common.{frame_scrambling, paging_frame_size, scrambled, FrameSource, Sync, Paging, continued_symbols}
use Rattle.cell_samples.proofs.Common.{sync_symbols}
use Rattle.quality_bits.specs.declared.rate.Rate.TheVariants as rates
use Rattle.cell_samples.specs.Continued as continued

eight_of : (rate : Rate) → 8 ≤ paging_frame_size rate
eight_of rates.R9600 = omega arith
eight_of rate = omega arith

pub eight_bits : (source : FrameSource) → 8 ≤ continued.frame_size source
eight_bits (Sync sent) = omega arith
eight_bits (Paging cycle) = eight_of cycle.rate

-- the symbols of a frame as they are sent
pub symbols_are : (source : FrameSource) (k : ℕ) (code symbols : List Bool) →
    code ≡ continued_symbols (continued.frame_bits_of source) k → symbols
    ≡ continued.scrambled_by source k
    (sent (shape_of (continued.symbol_kind_of source)) (continued.repeats_in source) code) →
    symbols ≡ continued.continued_frames source k
unfolding sync_symbols cycle_symbols
symbols_are (Sync sendings) k code symbols is placed =
    placed ∙ ap (sent (shape_of (continued.symbol_kind_of (Sync sendings))) 2) is
symbols_are (Paging cycle) k code symbols is placed =
    placed
    ∙ ap (λ (c : List Bool).
    scrambled (frame_scrambling cycle k) (sent data_shape (repeats_of cycle.rate) c)) is
