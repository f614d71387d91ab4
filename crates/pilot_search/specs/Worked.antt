-- Two samples on the first chips of the codes.
use Rattle.pilot_search.specs.Common.{Sample}
use Rattle.std.specs.Prelude.{◌≡◌, refl, List, [], ◌∷◌, pos, map}
use Rattle.short_code.specs.ShortCode.{chips_to}
use Rattle.pilot_search.specs.Search.{phase_correlation, energy}

two : List Sample
two = record { i = pos 1; q = pos 0 } ∷ record { i = pos 1; q = pos 0 } ∷ []

two_energies : map (energy two) (0 ∷ 1 ∷ 2 ∷ 3 ∷ 4 ∷ 5 ∷ []) ≡ 0 ∷ 4 ∷ 0 ∷ 4 ∷ 4 ∷ 8 ∷ []
unfolding two chips_to phase_correlation energy
two_energies = refl
