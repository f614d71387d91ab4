-- The convolutional code of rate 1/2 and constraint length 9 (TIA/EIA-95-B, 7.1.3.1.3.1).
use Rattle.std.specs.Prelude.{◌≡◌, ◌≢◌, ℕ, ◌+◌, ◌-◌, Bool, false, List, [], ◌∷◌, ◌++◌, length, map}
use Rattle.std.specs.Prelude.{get_or, drop}
use Rattle.std.specs.List.{flat_map}
use Rattle.chip_core.specs.Bits.{parity, places, binary}

-- the generators, by their powers of D: 753 and 561 octal
abbrev pub g0 : List ℕ
g0 = 0 ∷ 1 ∷ 2 ∷ 3 ∷ 5 ∷ 7 ∷ 8 ∷ []

abbrev pub g1 : List ℕ
g1 = 0 ∷ 2 ∷ 3 ∷ 4 ∷ 8 ∷ []

-- Symbol j of a generator: for each of its powers p the bit p places before bit j, summed modulo 2.
-- Eight start bits come first.
abbrev pub symbol : List ℕ → List Bool → ℕ → Bool
symbol generator joined j = parity (map (λ back. get_or joined (8 + j - back) false) generator)

-- two symbols per bit, after eight start bits, the oldest first
abbrev pub code_symbols : List Bool → List Bool → List Bool
code_symbols start bits =
    flat_map (λ j. symbol g0 (start ++ bits) j ∷ symbol g1 (start ++ bits) j ∷ [])
    (places (length bits))

-- the last eight bits of the start bits and the bits after them
abbrev pub state_after : List Bool → List Bool → List Bool
state_after start bits = drop (length bits) (start ++ bits)

-- no bits have these symbols after this start
abbrev pub IsNoCodewordFrom : List Bool → List Bool → Type 0
IsNoCodewordFrom start symbols = (bits : List Bool) → code_symbols start bits ≢ symbols

-- no start and bits have these symbols
abbrev pub IsNoCodeword : List Bool → Type 0
IsNoCodeword symbols = (start : ℕ) → IsNoCodewordFrom (binary 8 start) symbols

-- every codeword that has the symbols has this start
abbrev pub IsOnlyStart : List Bool → List Bool → Type 0
IsOnlyStart symbols only =
    (start bits : List Bool) → length start ≡ 8 → code_symbols start bits ≡ symbols → start ≡ only

-- the only bit that has this first symbol after eight bits
abbrev pub IsBitFor : List Bool → Bool → Bool → Type 0
IsBitFor state first only = (bit : Bool) → symbol g0 (state ++ bit ∷ []) 0 ≡ first → bit ≡ only
