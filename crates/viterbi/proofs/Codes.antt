-- The table of codes against the symbols, which the checker computes.
use Rattle.viterbi.proofs.Common.{◌≡◌, ℕ, zero, suc, ◌+◌, ◌*◌, ◌<◌, Bool, true, false, List, [], ◌∷◌, length, get_or, refl, sym, ap, ◌∙◌, ℤ}
use Rattle.viterbi.proofs.Common.{arith, pos, ◌+ℤ◌, ◌-ℤ◌, ◌*ℤ◌, not, nat_lt, ◌&&◌, list_all, range_with_len, ints, get_or-range_with_len}
use Rattle.viterbi.proofs.Common.{length-range_with_len, and_parts, bit_of, sign, places, g0, g1, symbol, low_bits, gain_of, lane_codes}
use Rattle.viterbi.proofs.Common.{patterns, gain_by, lane_code_of}

abbrev eq : Bool → Bool → Bool
eq true b = b
eq false b = not b

abbrev fits : ℕ → Bool
fits t = let c = lane_code_of t in nat_lt c 4
    && (eq (bit_of c 0) (symbol g0 (low_bits 9 (2 * t + 0)) 0) &&
    (eq (bit_of c 1) (symbol g1 (low_bits 9 (2 * t + 0)) 0)
    && (eq (not (bit_of c 0)) (symbol g0 (low_bits 9 (2 * t + 1)) 0) && eq (not (bit_of c 1))
    (symbol g1 (low_bits 9 (2 * t + 1)) 0))))

all_fit : list_all fits (places 256) ≡ true
unfolding lane_codes patterns low_bits places
all_fit = refl

fits_at : (t : ℕ) → t < 256 → fits t ≡ true
unfolding places
fits_at t b =
    let place : 0 + t ≡ t = omega arith in
    sym (ap fits (get_or-range_with_len 0 256 t 0 b ∙ place))
    ∙ of_all fits (range_with_len 0 256) t 0 (omega (arith, b, length-range_with_len 0 256)) all_fit
  where
    of_all : (p : ℕ → Bool) (xs : List ℕ) (i d : ℕ) → i < length xs → list_all p xs ≡ true → p (get_or xs i d) ≡ true
    of_all p [] i d h all = absurd (omega (arith, h))
    of_all p (x ∷ xs) zero d h all = (and_parts (p x) (list_all p xs) all).0
    of_all p (x ∷ xs) (suc i) d h all = of_all p xs i d (omega (arith, h)) (and_parts (p x) (list_all p xs) all).1

same : (a b : Bool) → eq a b ≡ true → a ≡ b
same true true h = refl
same true false h = sym h
same false true h = h
same false false h = refl

turned_sign : (v : ℤ) (b : Bool) → v *ℤ sign (not b) ≡ pos 0 -ℤ (v *ℤ sign b)
turned_sign v true = omega (arith, ints)
turned_sign v false = omega (arith, ints)

both_turned : (a b : ℤ) → (pos 0 -ℤ a) +ℤ (pos 0 -ℤ b) ≡ pos 0 -ℤ (a +ℤ b)
both_turned a b = omega (arith, ints)

-- the gain by a state's code, and where the oldest bit is 1 the same with the sign turned
pub code_gains : (f s : ℤ) (t : ℕ) → t < 256 → (gain_of f s (low_bits 9 (2 * t + 0)) ≡ gain_by f s (lane_code_of t))
    × (gain_of f s (low_bits 9 (2 * t + 1)) ≡ pos 0 -ℤ gain_by f s (lane_code_of t))
unfolding gain_of gain_by
code_gains f s t b =
    let c = lane_code_of t in
    let p1 = (and_parts _ _ (fits_at t b)).1 in
    let e0 : bit_of c 0 ≡ symbol g0 (low_bits 9 (2 * t + 0)) 0 = same _ _ (and_parts _ _ p1).0 in
    let p2 = (and_parts _ _ p1).1 in
    let e1 : bit_of c 1 ≡ symbol g1 (low_bits 9 (2 * t + 0)) 0 = same _ _ (and_parts _ _ p2).0 in
    let p3 = (and_parts _ _ p2).1 in
    let o0 : not (bit_of c 0) ≡ symbol g0 (low_bits 9 (2 * t + 1)) 0 = same _ _ (and_parts _ _ p3).0 in
    let o1 : not (bit_of c 1) ≡ symbol g1 (low_bits 9 (2 * t + 1)) 0 =
    same _ _ (and_parts _ _ p3).1 in (
      sym (ap (λ (x : Bool). (f *ℤ sign x) +ℤ (s *ℤ sign (bit_of c 1))) e0
          ∙ ap (λ (y : Bool).
          (f *ℤ sign (symbol g0 (low_bits 9 (2 * t + 0)) 0)) +ℤ (s *ℤ sign y)) e1),
      sym (ap (λ (x : Bool). (f *ℤ sign x) +ℤ (s *ℤ sign (not (bit_of c 1)))) o0
          ∙ ap (λ (y : Bool). (f *ℤ sign (symbol g0 (low_bits 9 (2 * t + 1)) 0)) +ℤ (s *ℤ sign y)) o1)
          ∙ ap (λ (z : ℤ). z +ℤ (s *ℤ sign (not (bit_of c 1)))) (turned_sign f (bit_of c 0))
          ∙ ap (λ (z : ℤ). (pos 0 -ℤ (f *ℤ sign (bit_of c 0))) +ℤ z) (turned_sign s (bit_of c 1))
          ∙ both_turned (f *ℤ sign (bit_of c 0)) (s *ℤ sign (bit_of c 1)),
    )
