-- Two samples on the first chips of the codes, and small values, which the checker computes.
use Rattle.rake_finger.specs.Common.{binary, sum_of, first_greatest, Sample, walsh}
use Rattle.std.specs.Prelude.{◌≡◌, refl, true, false, List, [], ◌∷◌, pos, negsuc, map, replicate}
use Rattle.pilot_search.specs.Search.{phase_correlation, energy}
use Rattle.short_code.specs.ShortCode.{chips_to}
use Rattle.rake_finger.specs.Paths.{modulo_code}
use Rattle.rake_finger.specs.Scrambled.{unscrambled}
use Rattle.rake_finger.specs.Soft.{finger_place, covered_from, despread_at, turned_part}
use Rattle.rake_finger.specs.Strengths.{strength, sample_power}

two : List Sample
two = record { i = pos 1; q = pos 0 } ∷ record { i = pos 1; q = pos 0 } ∷ []

-- both codes begin with a 1 and then a 0
pilot : sum_of (despread_at two 0 0 2) ≡ record { i = pos 0; q = pos 0 }
unfolding two chips_to
pilot = refl

row_1 : sum_of (covered_from 1 0 (despread_at two 0 0 2)) ≡ record { i = negsuc 1; q = pos 2 }
unfolding two chips_to walsh binary
row_1 = refl

-- the row's chip 0 falls on the first of the samples that are summed up
row_1_later : sum_of (covered_from 1 0 (despread_at two 0 1 1)) ≡ record { i = pos 1; q = negsuc 0 }
unfolding two chips_to walsh binary
row_1_later = refl

turned : turned_part (record { i = pos 3; q = pos 4 }) (record { i = pos 1; q = pos 2 }) ≡ pos 11
turned = refl

earlier : finger_place (record { phase = 0; delta = pos 3; row = 0 }) 10 ≡ 7
earlier = refl

later : finger_place (record { phase = 0; delta = negsuc 2; row = 0 }) 10 ≡ 13
later = refl

-- at phases 0 to 7 the two samples have the energies 0, 4, 0, 4, 4, 8, 0 and 0
windows : map (λ phase. strength two phase 4) (5 ∷ 7 ∷ 2 ∷ [])
    ≡ record { energy = 8; delta = pos 0 } ∷ record { energy = 8; delta = negsuc 1 }
    ∷ record { energy = 4; delta = negsuc 0 } ∷ []
unfolding two chips_to phase_correlation energy strength first_greatest
windows = refl

-- if all samples are 0, all energies are equal
nothing_there : strength (replicate 4 (record { i = pos 0; q = pos 0 })) 20 10 ≡
    record { energy = 0; delta = negsuc 4 }
unfolding chips_to phase_correlation energy strength first_greatest
nothing_there = refl

power_of_two : sample_power two ≡ 2
unfolding two
power_of_two = refl

below_the_code : modulo_code (negsuc 2) ≡ 32765
below_the_code = refl

-- a soft value is negated if its scrambling bit is 1; without bits none is
descrambled : map (λ bits. unscrambled bits (pos 3 ∷ pos 4 ∷ [])) ((true ∷ false ∷ []) ∷ [] ∷ [])
    ≡ (negsuc 2 ∷ pos 4 ∷ []) ∷ (pos 3 ∷ pos 4 ∷ []) ∷ []
descrambled = refl
