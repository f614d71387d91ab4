-- Worked values, which the checker computes.
use Rattle.std.specs.Prelude.{◌≡◌, refl, true, false, [], ◌∷◌, pos, negsuc}
use Rattle.chip_core.specs.Bits.{number, binary, common_parity, places, bit_of}
use Rattle.chip_core.specs.Complex.{times, conjugate, norm}
use Rattle.chip_core.specs.declared.sample.Pair.{Pair}

digits : binary 4 11 ≡ true ∷ false ∷ true ∷ true ∷ []
unfolding binary
digits = refl

spelled : number (true ∷ false ∷ true ∷ true ∷ []) ≡ 11
spelled = refl

common : common_parity (true ∷ true ∷ false ∷ []) (true ∷ false ∷ true ∷ []) ≡ true
common = refl

first_three : places 3 ≡ 0 ∷ 1 ∷ 2 ∷ []
unfolding places
first_three = refl

highest : bit_of 32768 15 ≡ true
highest = refl

-- (3 + 4j) times its conjugate is 25
squared : let x : Pair = record { i = pos 3; q = pos 4 } in
    times x (conjugate x) ≡ record { i = pos 25; q = pos 0 }
squared = refl

square : norm (record { i = negsuc 2; q = pos 4 }) ≡ 25
square = refl
