-- Two samples on the first chips of the codes, and ranks of pilots in them. Phases 1 to 5 have the
-- energies 4, 0, 4, 4 and 8.
use Rattle.std.specs.Prelude.{◌≡◌, refl, List, [], ◌∷◌, pos, negsuc, map}
use Rattle.chip_core.specs.Sums.{first_greatest}
use Rattle.chip_core.specs.declared.sample.Sample.{Sample}
use Rattle.short_code.specs.ShortCode.{chips_to}
use Rattle.pilot_search.specs.Search.{phase_correlation, energy}
use Rattle.pilot_survey.specs.Survey.{survey_phase, strongest, surveyed}

two : List Sample
two = record { i = pos 1; q = pos 0 } ∷ record { i = pos 1; q = pos 0 } ∷ []

nothing : List Sample
nothing = record { i = pos 0; q = pos 0 } ∷ record { i = pos 0; q = pos 0 } ∷ []

-- phases 1 to 5
at_the_edge : surveyed two 3 2 0 ≡ record { pilot = 0; delta = pos 2; energy = 8 }
unfolding two chips_to phase_correlation energy first_greatest strongest surveyed
at_the_edge = refl

-- phases 1 to 3, of which the first and the last have the greatest energy
least_on_a_tie : surveyed two 2 1 0 ≡ record { pilot = 0; delta = negsuc 0; energy = 4 }
unfolding two chips_to phase_correlation energy first_greatest strongest surveyed
least_on_a_tie = refl

-- phases 1 to 3 are those of pilot 1 if the base is 66
of_another_pilot : surveyed two 66 1 1 ≡ record { pilot = 1; delta = negsuc 0; energy = 4 }
unfolding two chips_to phase_correlation energy first_greatest strongest surveyed
of_another_pilot = refl

of_nothing : surveyed nothing 10 10 0 ≡ record { pilot = 0; delta = negsuc 9; energy = 0 }
unfolding nothing chips_to phase_correlation energy first_greatest strongest surveyed
of_nothing = refl

-- phases across the end of the codes, and the last pilot's own phase
phases : map (survey_phase 0 10 0) (0 ∷ 9 ∷ 10 ∷ 20 ∷ []) ≡ 32758 ∷ 32767 ∷ 0 ∷ 10 ∷ []
phases = refl

last_pilot : survey_phase 0 0 511 0 ≡ 64
last_pilot = refl
