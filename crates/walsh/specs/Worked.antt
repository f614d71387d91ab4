-- Worked values, which the checker computes.
use Rattle.std.specs.Prelude.{◌≡◌, refl, true, false, ◌++◌, map, replicate}
use Rattle.chip_core.specs.Bits.{number, binary, places}
use Rattle.walsh.specs.Walsh.{walsh}

row_32 : map (walsh 32) (places 64) ≡ replicate 32 false ++ replicate 32 true
unfolding walsh binary places
row_32 = refl

row_63 : number (map (walsh 63) (places 8)) ≡ 0x69
unfolding walsh binary places
row_63 = refl
