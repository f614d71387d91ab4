-- Sums of despread and covered samples, sample by sample.
use Rattle.rake_finger.proofs.Common.{◌≡◌, ℕ, suc, ◌+◌, ◌%◌, ◌<◌, Bool, true, false, List, [], ◌∷◌, ◌++◌, length, get_or, take, drop, refl}
use Rattle.rake_finger.proofs.Common.{sym, ap, ◌∙◌, arith, ℤ, pos, ◌+ℤ◌, ints, take_more, length-take-le, length-drop, get_or-drop, sign}
use Rattle.rake_finger.proofs.Common.{plus, times, conjugate, point, sum_of, of_sample, sum_of-append, plus-origin, Pair, Sample, despread}
use Rattle.rake_finger.proofs.Common.{code_point, walsh, covered_from}
use mathlib.Core.Bool.{not, beq}
use Rattle.short_code.proofs.Despreading.{despread-append}

length-despread : (phase : ℕ) (xs : List Sample) → length (despread phase xs) ≡ length xs
length-despread phase [] = refl
length-despread phase (x ∷ xs) = ap suc (length-despread (phase + 1) xs)

abbrev pub row_sign : ℕ → ℕ → Pair
row_sign row k = record { i = sign (walsh row (k % 64)); q = pos 0 }

covered-append : (row : ℕ) (ps qs : List Pair) (k : ℕ) →
    covered_from row k (ps ++ qs) ≡ covered_from row k ps ++ covered_from row (k + length ps) qs
covered-append row [] qs k = let place : k + 0 ≡ k = omega arith in rw place
covered-append row (p ∷ ps) qs k =
    let place : suc k + length ps ≡ k + suc (length ps) = omega arith in
    ap (λ (rest : List Pair). times (row_sign row k) p ∷ rest) (rw (← place) (covered-append row ps qs (suc k)))

-- the sum with one sample more
pub covered_sum-more : (row phase : ℕ) (xs : List Sample) (k : ℕ) (d : Sample) → k < length xs →
    sum_of (covered_from row 0 (despread phase (take (k + 1) xs)))
    ≡ plus (sum_of (covered_from row 0 (despread phase (take k xs))))
    (times (row_sign row k)
    (times (of_sample (get_or xs k d)) (conjugate (code_point (phase + k)))))
covered_sum-more row phase xs k d lt =
    let x = get_or xs k d in
    let before = take k xs in
    let long : length before ≡ k = length-take-le k xs (omega arith) in
    let far : 0 + length (despread phase before) ≡ k = omega (arith, length-despread phase before, long) in
    let parts : despread phase (take (k + 1) xs) ≡
    despread phase before ++ despread (phase + k) (x ∷ []) =
    ap (despread phase) (take_more xs k d lt) ∙ despread-append before (x ∷ []) phase ∙
    ap (λ (n : ℕ). despread phase before ++ despread (phase + n) (x ∷ [])) long in
    ap (λ (ps : List Pair). sum_of (covered_from row 0 ps)) parts
    ∙ ap sum_of (covered-append row (despread phase before) (despread (phase + k) (x ∷ [])) 0)
    ∙ sum_of-append (covered_from row 0 (despread phase before))
    (covered_from row (0 + length (despread phase before)) (despread (phase + k) (x ∷ [])))
    ∙ ap (λ (n : ℕ). plus (sum_of (covered_from row 0 (despread phase before)))
    (sum_of (covered_from row n (despread (phase + k) (x ∷ []))))) far
    ∙ ap (plus (sum_of (covered_from row 0 (despread phase before))))
    (plus-origin (times (row_sign row k) (times (of_sample x) (conjugate (code_point (phase + k))))))

pub same_parts : (a b c d : ℤ) → a ≡ c → b ≡ d → ◌≡◌ {A = Pair} record {
  i = a;
  q = b;
} (record { i = c; q = d })
same_parts a b c d p q = cc

-- the row's chip turns both chips of the code
pub covered_is : (s : Sample) (a b w : Bool) → times (of_sample s) (conjugate (point (not (beq a w), not (beq b w)))) ≡
    times (record { i = sign w; q = pos 0 }) (times (of_sample s) (conjugate (point (a, b))))
covered_is s true true true = same_parts _ _ _ _ (omega (arith, ints)) (omega (arith, ints))
covered_is s true true false = same_parts _ _ _ _ (omega (arith, ints)) (omega (arith, ints))
covered_is s true false true = same_parts _ _ _ _ (omega (arith, ints)) (omega (arith, ints))
covered_is s true false false = same_parts _ _ _ _ (omega (arith, ints)) (omega (arith, ints))
covered_is s false true true = same_parts _ _ _ _ (omega (arith, ints)) (omega (arith, ints))
covered_is s false true false = same_parts _ _ _ _ (omega (arith, ints)) (omega (arith, ints))
covered_is s false false true = same_parts _ _ _ _ (omega (arith, ints)) (omega (arith, ints))
covered_is s false false false = same_parts _ _ _ _ (omega (arith, ints)) (omega (arith, ints))

-- one turn of the loop
pub covered_step : (row phase place k : ℕ) (samples : List Sample) (sample : Sample) (sum product : Pair) (i q : ℤ) →
    place + k < length samples → get_or samples (place + k) sample ≡ sample → product ≡ times (row_sign row k)
    (times (of_sample sample) (conjugate (code_point (phase + place + k)))) →
    sum ≡ sum_of (covered_from row 0 (despread (phase + place) (take k (drop place samples)))) →
    i ≡ sum.i +ℤ product.i → q ≡ sum.q +ℤ product.q →
    ◌≡◌ {A = Pair} record {
      i = i;
      q = q;
    } (sum_of
    (covered_from row 0 (despread (phase + place) (take (k + 1) (drop place samples)))))
covered_step row phase place k samples sample sum product i q within got is before ei eq =
    let inside : k < length (drop place samples) = omega (arith, length-drop place samples) in
    let read : get_or (drop place samples) k sample ≡ sample = get_or-drop place samples k sample ∙
    got in
    let more = covered_sum-more row (phase + place) (drop place samples) k sample inside in
    same_parts _ _ _ _ ei eq
    ∙ ap (λ (p : Pair). plus sum p) is
    ∙ ap (λ (p : Pair). plus p
    (times (row_sign row k) (times (of_sample sample) (conjugate (code_point (phase + place + k)))))) before
    ∙ sym (rw read at more)
