-- Worked values of the lines of frames.
use Rattle.event_tap.specs.Common.{binary, bit_text, digits_of, packed_octets, padded}
use Rattle.std.specs.Prelude.{◌≡◌, refl, pos, true, false, [], codes}
use Rattle.std.specs.Fmt.{digits}
use Rattle.hex.specs.Hex.{encode_with}
use Rattle.symbol_path.specs.declared.rate_two.Rate2.TheVariants.{R14400, R1800}
use Rattle.quality_bits.specs.declared.rate.Rate.TheVariants.{R2400}
use Rattle.event_tap.specs.FrameLines.{frame_line, frame2_line}

quarter : frame_line 712704 R2400 true (binary 40 0) (binary 16 0) ≡
    codes "frame at=712704 rate=2400 good=1 bits=40:0000000000 commands=0000000000000000\n"
unfolding frame_line bit_text digits_of padded packed_octets encode_with binary digits
quarter = refl

eighth : frame2_line 712704
    (record { rate = R1800; good = true; bits = binary 22 0x169696; score = pos 1 })
    (binary 16 0x5555) ≡
    codes "frame2 at=712704 rate=1800 good=1 bits=22:5a5a58 commands=0101010101010101\n"
unfolding frame2_line bit_text digits_of padded packed_octets encode_with binary digits
eighth = refl

not_good : frame2_line 0
    (record { rate = R14400; good = false; bits = []; score = pos 0 }) (binary 16 0x8001) ≡
    codes "frame2 at=0 rate=14400 good=0 bits=0: commands=1000000000000001\n"
unfolding frame2_line bit_text digits_of padded packed_octets encode_with binary digits
not_good = refl
