-- The long code of period 2^42 - 1 (TIA/EIA-95-B, 7.1.3.1.10), as powers of x modulo its
-- polynomial, and its masks.
use Rattle.std.specs.Prelude.{ℕ, ◌-◌, ◌^◌, ◌<◌, Bool, false, List, [], ◌∷◌, ◌++◌, replicate, map}
use Rattle.std.specs.Prelude.{reverse}
use Rattle.chip_core.specs.Bits.{number, binary, common_parity, bit_of}
use Rattle.chip_core.specs.Polynomial.{coefficients, remainder}

-- the polynomial is the sum of x^42 and these powers of x
abbrev pub powers : List ℕ
powers = 35 ∷ 33 ∷ 31 ∷ 27 ∷ 26 ∷ 25 ∷ 22 ∷ 21 ∷ 19 ∷ 18 ∷ 17 ∷ 16 ∷ 10 ∷ 7 ∷ 6 ∷ 5 ∷ 3 ∷ 2 ∷ 1 ∷ 0
    ∷ []

abbrev pub below : List Bool
below = coefficients 42 powers

-- bit k of a state is the coefficient of x^k
abbrev pub IsState : ℕ → Type 0
IsState state = (0 < state) × (state < 2 ^ 42)

-- the state n chips later: the product with x^n
unfoldable pub after : ℕ → ℕ → ℕ
after state chips = number (remainder below (binary 42 state ++ replicate chips false))

-- The state n chips earlier: the quotient by x^n. Read from the lowest coefficient up, the
-- polynomial is 1 followed by these coefficients, and a division by x is a step of long division.
abbrev pub above : List Bool
above = coefficients 42 (map (λ k. 42 - k) (42 ∷ powers))

unfoldable pub before : ℕ → ℕ → ℕ
before state chips =
    number (reverse (remainder above (reverse (binary 42 state) ++ replicate chips false)))

-- the number of chips after which every state returns
abbrev pub period : ℕ
period = 2 ^ 42 - 1

-- the chip under a mask, n chips after the state: the sum modulo 2 of the state's bits that the
-- mask selects
unfoldable pub long_chip : ℕ → ℕ → ℕ → Bool
long_chip state mask chips = common_parity (binary 42 mask) (binary 42 (after state chips))

-- MASKS, each 42 bits, field after field

-- the mask of a paging channel of a base station with this pilot
unfoldable pub paging_mask : ℕ → ℕ → ℕ
paging_mask channel pilot =
    number (binary 13 0x18cd ++ replicate 5 false ++ binary 3 channel ++ replicate 12 false ++
    binary 9 pilot)

-- the bits of an electronic serial number in the order of the mask; bit 0 is the lowest
abbrev pub permuted : List ℕ
permuted =
    0 ∷ 31 ∷ 22 ∷ 13 ∷ 4 ∷ 26 ∷ 17 ∷ 8 ∷ 30 ∷ 21 ∷ 12 ∷ 3 ∷ 25 ∷ 16 ∷ 7 ∷ 29
    ∷ 20 ∷ 11 ∷ 2 ∷ 24 ∷ 15 ∷ 6 ∷ 28 ∷ 19 ∷ 10 ∷ 1 ∷ 23 ∷ 14 ∷ 5 ∷ 27 ∷ 18 ∷ 9 ∷ []

-- the public mask of the mobile station with this electronic serial number
unfoldable pub traffic_mask : ℕ → ℕ
traffic_mask esn = number (binary 10 0x318 ++ map (bit_of esn) permuted)
