-- Worked values.
use Rattle.std.specs.Prelude.{◌≡◌, refl, true, false, [], ◌∷◌, replicate}
use Rattle.chip_core.specs.Bits.{places}
use Rattle.conv_code.specs.ConvCode.{code_symbols}

-- the code's response to a single 1: 11 10 11 11 01 10 00 10 11
single_one : code_symbols (replicate 8 false) (true ∷ replicate 8 false)
    ≡ true ∷ true ∷ true ∷ false ∷ true ∷ true ∷ true ∷ true ∷ false ∷ true ∷ true ∷ false ∷ false
    ∷ false ∷ true ∷ false ∷ true ∷ true ∷ []
unfolding places
single_one = refl
