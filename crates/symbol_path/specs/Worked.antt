-- Worked values, which the checker computes.
use Rattle.std.specs.Prelude.{◌≡◌, ◌^◌, refl, true, [], ◌∷◌, ◌++◌, map, replicate}
use Rattle.chip_core.specs.Bits.{binary, number, places}
use Rattle.long_code.specs.LongCode.{after, before, long_chip}
use Rattle.quality_bits.specs.Quality.{check_bits}
use Rattle.symbol_path.specs.Scrambling.{power_place, scrambling_chips}
use Rattle.symbol_path.specs.SentOrder.{address, sync_shape, data_shape}
use Rattle.quality_bits.specs.TrafficCodewords.{traffic_codeword}
use Rattle.quality_bits.specs.declared.rate.Rate.TheVariants.{R9600, R4800, R2400, R1200}

places_data : map (address data_shape) (0 ∷ 1 ∷ 5 ∷ 6 ∷ 383 ∷ []) ≡ 0 ∷ 64 ∷ 320 ∷ 32 ∷ 383 ∷ []
unfolding binary
places_data = refl

places_sync : map (address sync_shape) (1 ∷ 2 ∷ 127 ∷ []) ≡ 64 ∷ 32 ∷ 127 ∷ []
unfolding binary
places_sync = refl

-- the bits of traffic frames
codeword_9600 : number (traffic_codeword R9600
    (binary 64 0x6eb96f6d68690b65 ++ binary 64 0xaa73026f6b41c7ad ++ binary 44 0x3f68aa22065))
    ≡ 0x6eb96f6d68690b65aa73026f6b41c7ad3f68aa220659a200
unfolding binary places check_bits
codeword_9600 = refl

codeword_4800 : number (traffic_codeword R4800 (binary 64 0xe17e1018de3b9058 ++ binary 16 0x4cd9))
    ≡ 0xe17e1018de3b90584cd96800
unfolding binary places check_bits
codeword_4800 = refl

codeword_2400 : number (traffic_codeword R2400 (binary 40 0x9c5a3317e2)) ≡ 0x9c5a3317e200
unfolding binary
codeword_2400 = refl

codeword_1200 : number (traffic_codeword R1200 (replicate 16 true)) ≡ 0xffff00
codeword_1200 = refl

-- the first symbols that the first two power control bits of a frame replace
replaced : map (power_place (2 ^ 41) 0x31891126c01) (0 ∷ 1 ∷ []) ≡ 10 ∷ 33 ∷ []
unfolding after before binary long_chip places scrambling_chips
replaced = refl
