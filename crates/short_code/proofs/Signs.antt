-- The table of the pilot's signs, entry by entry.
use Rattle.std.proofs.Common.{◌≡◌, ℕ, ◌+◌, ◌<◌, List, [], ◌∷◌, ◌++◌, length, get_or, ℤ, pos, ◌∙◌, arith, below_more}
use Rattle.std.proofs.lemmas.List.{get_or_append_left, get_or_push, length_push}
use Rattle.chip_core.proofs.Places.{length-map-places, get_or-map-places, map-places-all}
use Rattle.short_code.specs.ShortCode.{pilot_chip, chip_signs, pilot_signs}

pub length-pilot_signs : length pilot_signs ≡ 32768
unfolding pilot_signs
length-pilot_signs = length-map-places (λ n. chip_signs (pilot_chip n)) 32768

pub get_or-pilot_signs : (n : ℕ) (d : ℤ × ℤ) → n < 32768 → get_or pilot_signs n d ≡ chip_signs (pilot_chip n)
unfolding pilot_signs
get_or-pilot_signs n d h = get_or-map-places (λ n. chip_signs (pilot_chip n)) 32768 n d h

-- one more entry of a table
pub table_more : {T : Type 0} (f : ℕ → T) (xs : List T) (n : ℕ) (x d : T) → length xs ≡ n →
    ((k : ℕ) → k < n → get_or xs k d ≡ f k) → x ≡ f n → (k : ℕ) → k < n + 1 → get_or (xs ++ x ∷ []) k d ≡ f k
table_more {T} f xs n x d long before here =
    below_more (λ k. get_or (xs ++ x ∷ []) k d ≡ f k) n
    (λ k lt. let within : k < length xs = omega arith in
    get_or_append_left xs (x ∷ []) d k within ∙ before k lt)
    (get_or_push xs x d n long ∙ here)

-- the table with the inserted chip at its end
pub table_whole : (xs : List (ℤ × ℤ)) (n : ℕ) (last : ℤ × ℤ) → n + 1 ≡ 32767 → length xs ≡ n + 1 →
    ((k : ℕ) → k < n + 1 → get_or xs k (pos 1, pos 1) ≡ chip_signs (pilot_chip k)) → last ≡ (pos 1, pos 1) →
    xs ++ last ∷ [] ≡ pilot_signs
unfolding pilot_signs
table_whole xs n last ended long before is =
    let f = λ (n : ℕ). chip_signs (pilot_chip n) in
    let all : (k : ℕ) → k < n + 1 + 1 → get_or (xs ++ last ∷ []) k (pos 1, pos 1) ≡ f k =
    table_more f xs (n + 1) last (pos 1, pos 1) long before (rw ended is) in
    map-places-all f (xs ++ last ∷ []) 32768 (pos 1, pos 1) (length_push xs last ∙
    omega (arith, long, ended)) (λ k lt. all k (omega (arith, lt, ended)))
