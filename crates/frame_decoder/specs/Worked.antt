-- Worked values, which the checker computes.
use Rattle.frame_decoder.specs.Common.{binary, places, data_shape, sent_by, gathered_by, Rate}
use Rattle.std.specs.Prelude.{◌≡◌, refl, true, false, [], ◌∷◌, ◌++◌, map, replicate, pos, negsuc}
use Rattle.std.specs.Prelude.{None, Some}
use Rattle.quality_bits.specs.Quality.{check_bits}
use Rattle.quality_bits.specs.declared.rate.Rate.TheVariants.{R9600, R4800, R2400, R1200}
use Rattle.frame_decoder.specs.Spans.{Channel, paging_channel, sending, sent_frames, gathered_span}
use Rattle.frame_decoder.specs.Formats.{format_of, frame_in, good_or, is_right, preferred}
use Rattle.frame_decoder.specs.TrafficFrames.{unreplaced, group_sum, power_bit}
use Rattle.frame_decoder.specs.declared.formats.DecodedFrame.{DecodedFrame}

paging_9600 : paging_channel R9600 ≡ record { shape = data_shape; bits = 192; repeats = 1 }
paging_9600 = refl

paging_4800 : paging_channel R4800 ≡ record { shape = data_shape; bits = 96; repeats = 2 }
paging_4800 = refl

-- a small channel of two bits per frame, which sends the four code symbols in the order 0, 2, 1, 3
small : Channel
small = record { shape = record { width = 1; columns = 2 }; bits = 2; repeats = 1 }

-- the symbols of each frame are put into order by themselves
two_frames : sent_frames (sending small 2)
    (false ∷ true ∷ false ∷ false ∷ true ∷ true ∷ false ∷ false ∷ [])
    ≡ false ∷ false ∷ true ∷ false ∷ true ∷ false ∷ true ∷ false ∷ []
unfolding small sent_by places binary
two_frames = refl

-- one bit per frame, with each code symbol sent twice
small_twice : Channel
small_twice = record { shape = record { width = 1; columns = 2 }; bits = 1; repeats = 2 }

two_gathered : gathered_span small_twice 2
    (pos 1 ∷ pos 2 ∷ pos 3 ∷ pos 4 ∷ pos 5 ∷ pos 6 ∷ pos 7 ∷ pos 8 ∷ [])
    ≡ pos 4 ∷ pos 6 ∷ pos 12 ∷ pos 14 ∷ []
unfolding small_twice gathered_by places binary
two_gathered = refl

-- the values at two of four places are set to 0
left_out : unreplaced (1 ∷ 3 ∷ []) (pos 5 ∷ pos 6 ∷ pos 7 ∷ pos 8 ∷ [])
    ≡ pos 5 ∷ pos 0 ∷ pos 7 ∷ pos 0 ∷ []
unfolding unreplaced places
left_out = refl

-- quality indicators of frames, and one with its last bit changed
right_9600 : is_right (format_of R9600)
    (binary 64 0x6eb96f6d68690b65 ++ binary 64 0xaa73026f6b41c7ad ++ binary 64 0x3f68aa220659a200)
    ≡ true
unfolding binary places check_bits
right_9600 = refl

wrong_9600 : is_right (format_of R9600)
    (binary 64 0x6eb96f6d68690b65 ++ binary 64 0xaa73026f6b41c7ad ++ binary 64 0x3f68aa220659a300)
    ≡ false
unfolding binary places check_bits
wrong_9600 = refl

right_4800 : is_right (format_of R4800) (binary 64 0xe17e1018de3b9058 ++ binary 32 0x4cd96800)
    ≡ true
unfolding binary places check_bits
right_4800 = refl

-- the quality indicator of a frame of zeros is wrong; at the lower rates there is none
zeros_9600 : is_right (format_of R9600) (replicate 192 false) ≡ false
unfolding places check_bits
zeros_9600 = refl

zeros_4800 : is_right (format_of R4800) (replicate 96 false) ≡ false
unfolding places check_bits
zeros_4800 = refl

zeros_2400 : is_right (format_of R2400) (replicate 48 false) ≡ true
zeros_2400 = refl

-- frames of two rates with the same score
abbrev quarter : DecodedFrame Rate
quarter = frame_in (format_of R2400) (replicate 48 false) (pos 352)

abbrev eighth : DecodedFrame Rate
eighth = frame_in (format_of R1200) (replicate 24 false) (pos 352)

tie : preferred (Some quarter) (Some eighth) ≡ Some quarter
tie = refl

no_candidate : preferred None (Some eighth) ≡ Some eighth
no_candidate = refl

-- a candidate of score 0 isn't good, and only its score is kept
nothing_good : good_or (format_of R9600) (replicate 192 false) (pos 7)
    (Some (frame_in (format_of R2400) (replicate 48 true) (pos 0)))
    ≡ record { rate = R9600; good = false; bits = replicate 172 false; score = pos 0 }
nothing_good = refl

-- no candidate: the best codeword of the highest rate, which isn't good
no_frame : good_or (format_of R9600) (replicate 192 true) (pos 7) None
    ≡ record { rate = R9600; good = false; bits = replicate 172 true; score = pos 7 }
no_frame = refl

-- two power control bits on one subchannel: the sum of the second isn't above 0
two_groups : map (group_sum (0 ∷ 1 ∷ 4 ∷ 5 ∷ [])
    (pos 2 ∷ negsuc 0 ∷ pos 9 ∷ pos 9 ∷ pos 3 ∷ negsuc 2 ∷ [])) (0 ∷ 1 ∷ [])
    ≡ pos 1 ∷ pos 0 ∷ []
two_groups = refl

one_subchannel : map (power_bit ((pos 1 ∷ pos 0 ∷ []) ∷ [])) (0 ∷ 1 ∷ []) ≡ false ∷ true ∷ []
one_subchannel = refl

-- each of the two bits is 1 on one of the subchannels, and so is 1
two_subchannels : map (power_bit ((pos 1 ∷ pos 0 ∷ []) ∷ (negsuc 4 ∷ pos 7 ∷ []) ∷ [])) (0 ∷ 1 ∷ [])
    ≡ true ∷ true ∷ []
two_subchannels = refl
