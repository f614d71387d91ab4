-- Worked values, which the checker computes.
use Rattle.std.specs.Prelude.{◌≡◌, refl, ◌^◌, [], ◌∷◌, map}
use Rattle.chip_core.specs.Bits.{binary, places}
use Rattle.long_code.specs.LongCode.{after, before, paging_mask, traffic_mask}

one_step : after (2 ^ 41) 1 ≡ 0x00a8e6f04ef
unfolding after binary places
one_step = refl

to_the_top : after 1 41 ≡ 0x20000000000
unfolding after binary places
to_the_top = refl

one_step_back : before 0x00a8e6f04ef 1 ≡ 2 ^ 41
unfolding before binary places
one_step_back = refl

paging : paging_mask 1 511 ≡ 0x319a02001ff
unfolding paging_mask binary
paging = refl

traffic : map traffic_mask (0 ∷ 1 ∷ 0x80000000 ∷ []) ≡
    0x31800000000 ∷ 0x31880000000 ∷ 0x31840000000 ∷ []
unfolding traffic_mask binary
traffic = refl
