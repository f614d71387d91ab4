-- How many bits the frames of traffic channels have.
use Rattle.quality_bits.proofs.Common.{◌≡◌, ℕ, ◌*◌, Bool, List, length, refl, ap, ◌∙◌, bits_in}
use Rattle.quality_bits.specs.TrafficCodewords.{format_of, repeats_of, information_of, traffic_codeword}
use Rattle.quality_bits.specs.declared.rate.Rate.{Rate}
use Rattle.quality_bits.specs.declared.rate.Rate.TheVariants.{R9600, R4800, R2400, R1200}
use Rattle.quality_bits.proofs.Formats.{length-format_codeword}

-- the information, the quality indicator and the tail fill a frame
parts_fill : (rate : Rate) → bits_in (format_of rate) * repeats_of rate ≡ 192
parts_fill R9600 = refl
parts_fill R4800 = refl
parts_fill R2400 = refl
parts_fill R1200 = refl

-- a frame's bits, as often as its rate repeats them, are as many as at the highest rate
pub codeword_fills : (rate : Rate) (information : List Bool) → length information ≡ information_of rate →
    length (traffic_codeword rate information) * repeats_of rate ≡ 192
codeword_fills rate information long =
    ap (λ (n : ℕ). n * repeats_of rate) (length-format_codeword (format_of rate) information long)
    ∙ parts_fill rate
