-- Bits packed into 19 words of 64: bit i is in word i / 64, at place i % 64 from the low end.
use Rattle.std.specs.Prelude.{ℕ, ◌+◌, ◌*◌, ◌/◌, ◌%◌, ◌^◌, ◌<◌, ◌≤◌, ◌≡◌, Bool, false, List, [], ◌∷◌}
use Rattle.std.specs.Prelude.{map, take, drop, length, get_or}
use Rattle.std.specs.List.{range_with_len}
use Rattle.chip_core.specs.Bits.{digit, bit_of}

abbrev pub word_bit : List ℕ → ℕ → Bool
word_bit words i = bit_of (get_or words (i / 64) 0) (i % 64)

-- the first `count` bits
unfoldable pub unpacked : List ℕ → ℕ → List Bool
unpacked words count = map (word_bit words) (range_with_len 0 count)

-- the number that the bits spell, the lowest first
abbrev pub low_first : List Bool → ℕ
low_first [] = 0
low_first (b ∷ bs) = digit b + 2 * low_first bs

unfoldable pub packed : List Bool → List ℕ
packed bits = map (λ w. low_first (take 64 (drop (64 * w) bits))) (range_with_len 0 19)

-- the words hold `count` bits, and zeros after them
pub record IsPacked (words : List ℕ) (count : ℕ) : Type 0 where
  pub room : count ≤ 1184
  pub long : length words ≡ 19
  pub small : (w : ℕ) → get_or words w 0 < 2 ^ 64
  pub clear : (i : ℕ) → count ≤ i → word_bit words i ≡ false
