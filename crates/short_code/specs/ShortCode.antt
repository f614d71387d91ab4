-- The pilot's two codes: maximal sequences of period 32,767 with one chip inserted (TIA/EIA-95-B,
-- 7.1.3.1.9).
use Rattle.std.specs.Prelude.{ℕ, zero, suc, ◌-◌, Bool, true, false, cond, List, [], ◌∷◌, get_or, ℤ}
use Rattle.std.specs.Prelude.{◌==◌, map}
use Rattle.chip_core.specs.Bits.{parity, places, sign}

-- the delays of the recursions, in chips: I(n) is the sum modulo 2 of the earlier chips at these
-- distances, and Q(n) likewise
abbrev pub i_lags : List ℕ
i_lags = 15 ∷ 10 ∷ 8 ∷ 7 ∷ 6 ∷ 2 ∷ []

abbrev pub q_lags : List ℕ
q_lags = 15 ∷ 12 ∷ 11 ∷ 10 ∷ 9 ∷ 5 ∷ 4 ∷ 3 ∷ []

-- the chip at this distance before the next one, in a list with the newest first; chips before chip
-- 0 are zeros
abbrev pub chip_back : List Bool → ℕ → Bool
chip_back before lag = get_or before (lag - 1) false

-- chips 0 to n, the newest first
unfoldable pub chips_to : List ℕ → ℕ → List Bool
chips_to lags zero = true ∷ []
chips_to lags (suc n) = let before = chips_to lags n in
    parity (map (chip_back before) lags) ∷ before

-- chip n of a code: chip 32,767 is the inserted 0
abbrev pub code_chip : List ℕ → ℕ → Bool
code_chip lags n = cond (n == 32767) false (get_or (chips_to lags n) 0 false)

-- chip n of the pilot's codes, n below 32,768: I, and then Q
abbrev pub pilot_chip : ℕ → Bool × Bool
pilot_chip n = (code_chip i_lags n, code_chip q_lags n)

-- the signs of a chip of both codes
abbrev pub chip_signs : Bool × Bool → ℤ × ℤ
chip_signs chip = (sign chip.0, sign chip.1)

-- the signs of the pilot's chips, in order
unfoldable pub pilot_signs : List (ℤ × ℤ)
pilot_signs = map (λ n. chip_signs (pilot_chip n)) (places 32768)
