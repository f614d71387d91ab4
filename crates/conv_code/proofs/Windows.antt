-- The register's window of nine bits against the bits after eight others.
use Rattle.conv_code.proofs.Common.{◌≡◌, ℕ, zero, suc, ◌+◌, ◌-◌, ◌*◌, ◌%◌, ◌^◌, ◌<◌, ◌≤◌, Bool, true, false, List, [], ◌∷◌, ◌++◌, length}
use Rattle.conv_code.proofs.Common.{get_or, map, drop, refl, sym, ap, ◌∙◌, arith, length-append, length-drop, bit_and, nat_le, list_all}
use Rattle.conv_code.proofs.Common.{get_or_append_left, get_or_push, get_or-drop, ext_get_or, and_parts, leb-true, bit_of, binary, digit}
use Rattle.conv_code.proofs.Common.{parity, and_mask, bool_byte, bool_byte-digit, low_bit, bit_of-first, bit_of-next, length-binary, symbol}
use Rattle.conv_code.proofs.Common.{get_or-binary, state_after}

-- the register's number with one more bit at its low end
abbrev pub window : ℕ → Bool → ℕ
window state bit = 2 * state + digit bit

-- Bit k of the window lies k back from the end of the joined list: bit 0 is the new bit, which
-- stands last, and bit k + 1 is bit k of the state (`bit_of-next`), whose digits stand before it.
window_bits : (state : ℕ) (bit : Bool) (k : ℕ) → k ≤ 8 →
    bit_of (window state bit) k ≡ get_or (binary 8 state ++ bit ∷ []) (8 + 0 - k) false
window_bits state bit zero lt =
    let place : 8 + 0 - 0 ≡ 8 = omega arith in
    bit_of-first state bit ∙
    rw place (sym (get_or_push (binary 8 state) bit false 8 (length-binary 8 state)))
window_bits state bit (suc k) lt =
    let place : 8 + 0 - suc k ≡ 8 - 1 - k = omega arith in
    let within : 8 - 1 - k < length (binary 8 state) = omega (arith, lt, length-binary 8 state) in
    bit_of-next state bit k
    ∙ rw place
    (sym (get_or_append_left (binary 8 state) (bit ∷ []) false (8 - 1 - k) within ∙
    get_or-binary 8 state k (omega (arith, lt))))

window_taps : (state : ℕ) (bit : Bool) (generator : List ℕ) → list_all (λ back. nat_le back 8) generator ≡ true →
    map (bit_of (window state bit)) generator ≡
    map (λ back. get_or (binary 8 state ++ bit ∷ []) (8 + 0 - back) false) generator
window_taps state bit [] all = refl
window_taps state bit (back ∷ backs) all =
    let parts = and_parts (nat_le back 8) (list_all (λ back. nat_le back 8) backs) all in
    let here = window_bits state bit back (leb-true back 8 parts.0) in
    let rest = window_taps state bit backs parts.1 in
    cc

-- the window's parity at a generator's taps is the generator's symbol
pub window_symbol : (state : ℕ) (bit : Bool) (generator : List ℕ) → list_all (λ back. nat_le back 8) generator ≡ true →
    parity (map (bit_of (window state bit)) generator) ≡ symbol generator (binary 8 state ++ bit ∷ []) 0
window_symbol state bit generator all = ap parity (window_taps state bit generator all)

-- The window's low eight bits are the last eight of the joined list, place by place: digit j is bit
-- 7 - j of the window (`low_bit`), which is entry j + 1 of that list (`window_bits`).
pub window_state : (state : ℕ) (bit : Bool) →
    binary 8 (window state bit % 2 ^ 8) ≡ state_after (binary 8 state) (bit ∷ [])
window_state state bit =
    let next = window state bit % 2 ^ 8 in
    let joined = binary 8 state ++ bit ∷ [] in
    ext_get_or false (binary 8 next) (drop 1 joined)
    (omega (
      arith,
      length-binary 8 next,
      length-drop 1 joined,
      length-append (binary 8 state) (bit ∷ []),
      length-binary 8 state,
    ))
    (λ j lt.
    let within : j < 8 = omega (arith, lt, length-binary 8 next) in
    let place : 8 - 1 - (7 - j) ≡ j = omega arith in
    let back : 8 + 0 - (7 - j) ≡ 1 + j = omega arith in
    let left : get_or (binary 8 next) j false ≡ bit_of next (7 - j) =
    rw place at (get_or-binary 8 next (7 - j) (omega arith)) in
    let low : bit_of next (7 - j) ≡ bit_of (window state bit) (7 - j) =
    low_bit (window state bit) 8 (7 - j) (omega arith) in
    let right : bit_of (window state bit) (7 - j) ≡ get_or joined (1 + j) false =
    rw back at (window_bits state bit (7 - j) (omega arith)) in
    left ∙ low ∙ right ∙ sym (get_or-drop 1 joined j false))

-- the code's window is the register's number and the bit
pub window_is : (state from byte : ℕ) (bit : Bool) → from ≡ state → byte ≡ bool_byte bit →
    2 * from + byte ≡ window state bit
window_is state from byte bit same digit_is = omega (arith, same, digit_is ∙ bool_byte-digit bit)

pub low_eight : (n : ℕ) → bit_and n 255 ≡ n % 2 ^ 8
low_eight n = and_mask n 8
