-- The codes' first chips.
use Rattle.std.specs.Prelude.{◌≡◌, refl, true, false, [], ◌∷◌, reverse}
use Rattle.short_code.specs.ShortCode.{chips_to, i_lags, q_lags}

first_i : reverse (chips_to i_lags 15)
    ≡ true ∷ false ∷ true ∷ false ∷ true ∷ false ∷ false ∷ true ∷ false ∷ false ∷ true ∷ true ∷ true
    ∷ false ∷ true ∷ false ∷ []
unfolding chips_to
first_i = refl

first_q : reverse (chips_to q_lags 15)
    ≡ true ∷ false ∷ false ∷ true ∷ true ∷ true ∷ true ∷ false ∷ true ∷ false ∷ true ∷ true ∷ true
    ∷ false ∷ true ∷ false ∷ []
unfolding chips_to
first_q = refl
