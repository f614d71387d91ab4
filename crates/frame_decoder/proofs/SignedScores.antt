-- Scores of a frame whose soft values have the signs of symbols where no power control bit replaces
-- them.
use Rattle.frame_decoder.proofs.Common.{◌≡◌, ◌≢◌, ℕ, zero, suc, ◌+◌, ◌*◌, ◌<◌, ◌≤◌, Bool, true, false, not, List, [], ◌∷◌, length, get_or}
use Rattle.frame_decoder.proofs.Common.{map, filter, refl, sym, ap, subst, ◌∙◌, arith, ⊎_elim, ℤ, pos, negsuc, cond, ◌*ℤ◌, ◌≤ℤ◌, ◌<ℤ◌, ints}
use Rattle.frame_decoder.proofs.Common.{if◌then◌else◌, range_with_len, sum_by, sum_by-cons, unsigned_abs, ne_eqb, eq-eqb, cases_eq, sign}
use Rattle.frame_decoder.proofs.Common.{places_is, correlation, is_replaced, unreplaced, AgreeElsewhere, ShowSymbols, kept_count, HasSign}
use Rattle.frame_decoder.proofs.Common.{KeepSigns, AllZip, neg_ℤ}
use Rattle.frame_decoder.proofs.Unreplaced.{kept, length-unreplaced, get_or-unreplaced}
use Rattle.viterbi.proofs.Agreement.{IsNotAgainst, agree_where_some, one_signed, own_score, sign_is_not_against, sign_some}
use Rattle.viterbi.proofs.Zipped.{zipped_by_place}

-- ---- how many places are left

-- those of n places, from a place on
abbrev unreplaced_in : List ℕ → ℕ → ℕ → List ℕ
unreplaced_in replaced at n = filter (λ i. not (is_replaced replaced i)) (range_with_len at n)

-- a replaced place before all of them leaves them as they are
left_past : (q : ℕ) (qs : List ℕ) (at n : ℕ) → q < at → unreplaced_in (q ∷ qs) at n ≡ unreplaced_in qs at n
left_past q qs at zero past = refl
left_past q qs at (suc n) past =
    let test = ne_eqb at q (omega (arith, past)) in
    let rest = left_past q qs (at + 1) n (omega (arith, past)) in
    rw (test, rest) refl

-- any other takes one of them at most
left_one : (q : ℕ) (qs : List ℕ) (at n : ℕ) → length (unreplaced_in qs at n) ≤ length (unreplaced_in (q ∷ qs) at n) + 1
left_one q qs at zero = omega arith
left_one q qs at (suc n) = ⊎_elim
    (λ (same : at ≡ q).
    let test = eq-eqb at q same in
    let rest = left_past q qs (at + 1) n (omega (arith, same)) in
    rw (test, rest) (one_more (is_replaced qs at) at (unreplaced_in qs (at + 1) n)))
    (λ (other : at ≢ q).
    let test = ne_eqb at q other in
    rw test
    (both (is_replaced qs at) at (unreplaced_in qs (at + 1) n) (unreplaced_in (q ∷ qs) (at + 1) n)
    (left_one q qs (at + 1) n)))
    (cases_eq at q)
  where
    one_more : (b : Bool) (i : ℕ) (is : List ℕ) → length (cond (not b) (i ∷ is) is) ≤ length is + 1
    one_more true i is = omega arith
    one_more false i is = omega arith

    both : (b : Bool) (i : ℕ) (is js : List ℕ) → length is ≤ length js + 1 →
        length (cond (not b) (i ∷ is) is) ≤ length (cond (not b) (i ∷ js) js) + 1
    both true i is js most = most
    both false i is js most = omega (arith, most)

left_none : (at n : ℕ) → length (unreplaced_in [] at n) ≡ n
left_none at zero = refl
left_none at (suc n) = ap suc (left_none (at + 1) n)

-- so one is left at least where there are more of them than replaced ones
left_least : (qs : List ℕ) (n : ℕ) → n ≤ length (unreplaced_in qs 0 n) + length qs
left_least [] n = omega (arith, left_none 0 n)
left_least (q ∷ qs) n = omega (arith, left_one q qs 0 n, left_least qs n)

-- ---- the sizes of what is kept

weighed : (b : Bool) (n i : ℕ) (is : List ℕ) →
    n * length (cond (not b) (i ∷ is) is) ≡ (if b then 0 else n) + n * length is
weighed true n i is = omega arith
weighed false n i is = omega arith

-- A relation of numbers that holds of sums where it holds of their parts, and at each place of 0 or
-- else n and the value's size, holds of n times the places that are left and the sum of the sizes.
sizes_related : (R : ℕ → ℕ → Type 0) → R 0 0 → ((a b c d : ℕ) → R a b → R c d → R (a + c) (b + d)) →
    (replaced : List ℕ) (value : ℕ → ℤ) (n at m : ℕ) →
    ((i : ℕ) → i < m →
    R (if is_replaced replaced (at + i) then 0 else n) (unsigned_abs (value (at + i)))) →
    R (n * length (unreplaced_in replaced at m)) (sum_by unsigned_abs (map value (range_with_len at m)))
sizes_related R none add replaced value n at zero each =
    let nothing : n * 0 ≡ 0 = omega arith in rw nothing none
sizes_related R none add replaced value n at (suc m) each =
    let here : at + 0 ≡ at = omega arith in
    let first = rw here at (each 0 (omega arith)) in
    let rest = sizes_related R none add replaced value n (at + 1) m
    (λ i lt. let next : at + suc i ≡ at + 1 + i = omega arith in
    rw next at (each (suc i) (omega (arith, lt)))) in
    rw (
      weighed (is_replaced replaced at) n at (unreplaced_in replaced (at + 1) m),
      sum_by-cons unsigned_abs (value at) (map value (range_with_len (at + 1) m)),
    )
    (add _ _ _ _ first rest)

-- of what is kept of the soft values of a frame
kept_sizes : (R : ℕ → ℕ → Type 0) → R 0 0 → ((a b c d : ℕ) → R a b → R c d → R (a + c) (b + d)) →
    (replaced : List ℕ) (softs : List ℤ) (n : ℕ) → length softs ≡ 384 →
    ((i : ℕ) → i < 384 →
    R (if is_replaced replaced i then 0 else n) (unsigned_abs (kept replaced softs i))) →
    R (n * length (unreplaced_in replaced 0 384)) (sum_by unsigned_abs (unreplaced replaced softs))
unfolding unreplaced
kept_sizes R none add replaced softs n long each =
    rw (long, places_is 384) (sizes_related R none add replaced (kept replaced softs) n 0 384
    (λ i lt. let place : 0 + i ≡ i = omega arith in rw place (each i lt)))

-- ---- scores

kept_not_against : (out b : Bool) (z : ℤ) → (out ≡ false → HasSign b z) → IsNotAgainst b (if out then pos 0 else z)
kept_not_against true true z has = omega (arith, ints)
kept_not_against true false z has = omega (arith, ints)
kept_not_against false b z has = sign_is_not_against b z (has refl)

-- No soft value that counts is against its symbol: if a power control bit replaces the symbol, the
-- value is 0; otherwise it has the symbol's sign.
none_against : (replaced : List ℕ) (xs : List Bool) (softs : List ℤ) → length softs ≡ 384 →
    length xs ≡ 384 → KeepSigns replaced xs softs → AllZip IsNotAgainst xs (unreplaced replaced softs)
none_against replaced xs softs long size keep =
    let all : length (unreplaced replaced softs) ≡ 384 = length-unreplaced replaced softs ∙ long in
    zipped_by_place IsNotAgainst xs (unreplaced replaced softs) false (pos 0) (size ∙ sym all)
    (λ i lt.
    let low : i < 384 = omega (arith, lt, size) in
    subst (IsNotAgainst (get_or xs i false)) (sym (get_or-unreplaced replaced softs i (omega (arith, low, long))))
    (kept_not_against (is_replaced replaced i) (get_or xs i false) (get_or softs i (pos 0)) (keep i low)))

-- What is kept agrees with its own symbols.
pub own_some : (replaced : List ℕ) (xs : List Bool) (softs : List ℤ) → length replaced < 384 →
    length softs ≡ 384 → length xs ≡ 384 → KeepSigns replaced xs softs →
    pos 0 <ℤ correlation (unreplaced replaced softs) xs
own_some replaced xs softs few long size keep =
    let own = own_score (unreplaced replaced softs) xs (none_against replaced xs softs long size keep) in
    let sizes = kept_sizes ◌≤◌ (omega arith) (λ a b c d p q. omega (arith, p, q)) replaced softs 1 long
    (λ i lt. one_least (is_replaced replaced i) (get_or xs i false) (get_or softs i (pos 0)) (keep i lt)) in
    let least = left_least replaced 384 in
    omega (arith, ints, own, sizes, least, few)
  where
    one_least : (out b : Bool) (z : ℤ) → (out ≡ false → HasSign b z) →
        (if out then 0 else 1) ≤ unsigned_abs (if out then pos 0 else z)
    one_least true b z has = omega arith
    one_least false b z has = let some = sign_some b z (has refl) in omega (arith, ints, some)

-- It agrees with others as well only where these are the same.
pub agree_left : (replaced : List ℕ) (xs ys : List Bool) (softs : List ℤ) → length softs ≡ 384 →
    length xs ≡ 384 → length ys ≡ 384 → KeepSigns replaced xs softs →
    correlation (unreplaced replaced softs) xs ≤ℤ correlation (unreplaced replaced softs) ys →
    AgreeElsewhere replaced xs ys
agree_left replaced xs ys softs long size size' keep reaches i lt none =
    agree_where_some (unreplaced replaced softs) xs ys i (none_against replaced xs softs long size keep)
    (size ∙ sym size') reaches (omega (arith, lt, size))
    (subst (λ (z : ℤ). z ≢ pos 0)
    (sym (get_or-unreplaced replaced softs i (omega (arith, lt, long))
    ∙ ap (λ (out : Bool). if out then pos 0 else get_or softs i (pos 0)) none))
    (sign_some (get_or xs i false) (get_or softs i (pos 0)) (keep i lt none)))

-- ---- soft values that are one number times the signs

pub shown_keep : (n : ℕ) (replaced : List ℕ) (xs : List Bool) (softs : List ℤ) → 0 < n →
    ShowSymbols replaced n xs softs → KeepSigns replaced xs softs
shown_keep n replaced xs softs some shows i lt none =
    subst (HasSign (get_or xs i false)) (sym (shows i lt none)) (one_signed n (get_or xs i false) some)

-- agree with their own symbols by that number for each place that is left
pub shown_score : (n : ℕ) (replaced : List ℕ) (xs : List Bool) (softs : List ℤ) → 0 < n →
    length softs ≡ 384 → length xs ≡ 384 → ShowSymbols replaced n xs softs →
    correlation (unreplaced replaced softs) xs ≡ pos (n * kept_count replaced)
shown_score n replaced xs softs some long size shows =
    own_score (unreplaced replaced softs) xs
    (none_against replaced xs softs long size (shown_keep n replaced xs softs some shows))
    ∙ ap pos
    (sym (kept_sizes ◌≡◌ refl (λ a b c d p q. omega (arith, p, q)) replaced softs n long
    (λ i lt. one_size (is_replaced replaced i) (get_or xs i false) (get_or softs i (pos 0)) (shows i lt)))
    ∙ ap (λ (is : List ℕ). n * length (filter (λ i. not (is_replaced replaced i)) is)) (sym (places_is 384)))
  where
    one_size : (out b : Bool) (z : ℤ) → (out ≡ false → z ≡ pos n *ℤ sign b) →
        (if out then 0 else n) ≡ unsigned_abs (if out then pos 0 else z)
    one_size true b z is = refl
    one_size false true z is = let e : pos n *ℤ negsuc 0 ≡ neg_ℤ (pos n) = omega (arith, ints) in
        let f = is refl in omega (arith, ints, e, f)
    one_size false false z is = let f = is refl in omega (arith, ints, f)
