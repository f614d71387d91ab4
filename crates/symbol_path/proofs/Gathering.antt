-- Sums of the soft values of a code symbol.
use Rattle.symbol_path.proofs.Common.{◌≡◌, ◌≢◌, ℕ, suc, ◌+◌, ◌^◌, ◌<◌, ◌≤◌, Bool, cond, List, [], ◌∷◌, ◌++◌, length, get_or, set, map, take}
use Rattle.symbol_path.proofs.Common.{refl, sym, ap, ◌∙◌, arith, ⊎_elim, ℤ, pos, ◌+ℤ◌, filter, ◌==◌, sum_by, unsigned_abs, ints, to_z-of_z}
use Rattle.symbol_path.proofs.Common.{fits_signed_from_abs, cases_eq, eq-eqb, ne_eqb, map-append, get_or-set_same, abs_sum, filter-append}
use Rattle.symbol_path.proofs.Common.{get_or-set_other, sum_by-cons, sum_by-set, sum_by_more, sum_by_more_le, get_or-le-sum_by, w64, SFits}
use Rattle.symbol_path.proofs.Common.{to_z, of_z, places, total, gathered_by, places-none, places-more, map-places-all}

-- the sum of f over the numbers below n whose key is c
abbrev pub part : (ℕ → ℤ) → (ℕ → ℕ) → ℕ → ℕ → ℤ
part f key n c = total (map f (filter (λ i. key i == c) (places n)))

total-append : (xs ys : List ℤ) → total (xs ++ ys) ≡ total xs +ℤ total ys
total-append [] ys = omega (arith, ints)
total-append (x ∷ xs) ys = let e = total-append xs ys in rw e (omega (arith, ints))

pub part-none : (f : ℕ → ℤ) (key : ℕ → ℕ) (c : ℕ) → part f key 0 c ≡ pos 0
part-none f key c = rw places-none refl

part_split : (f : ℕ → ℤ) (key : ℕ → ℕ) (n c : ℕ) →
    part f key (n + 1) c ≡ part f key n c +ℤ total (map f (cond (key n == c) (n ∷ []) []))
part_split f key n c =
    let test : ℕ → Bool = λ i. key i == c in
    ap (λ (is : List ℕ). total (map f (filter test is))) (places-more n)
    ∙ ap (λ (is : List ℕ). total (map f is)) (filter-append test (places n) (n ∷ []))
    ∙ ap total (map-append f (filter test (places n)) (cond (key n == c) (n ∷ []) []))
    ∙ total-append (map f (filter test (places n))) (map f (cond (key n == c) (n ∷ []) []))

-- one number more
pub part_here : (f : ℕ → ℤ) (key : ℕ → ℕ) (n c : ℕ) → key n ≡ c → part f key (n + 1) c ≡ part f key n c +ℤ f n
part_here f key n c e =
    let yes = eq-eqb (key n) c e in
    part_split f key n c ∙ rw yes (omega (arith, ints))

pub part_other : (f : ℕ → ℤ) (key : ℕ → ℕ) (n c : ℕ) → c ≢ key n → part f key (n + 1) c ≡ part f key n c
part_other f key n c ne =
    let other = ne_eqb (key n) c (λ e. ne (sym e)) in
    part_split f key n c ∙ rw other (omega (arith, ints))

-- one turn of the loop, for each sum
pub part_more : (f : ℕ → ℤ) (key : ℕ → ℕ) (n : ℕ) (sums : List ℤ) → key n < length sums →
    ((c : ℕ) → get_or sums c (pos 0) ≡ part f key n c) →
    (c : ℕ) → get_or (set sums (key n) (get_or sums (key n) (pos 0) +ℤ f n)) c (pos 0) ≡ part f key (n + 1) c
part_more f key n sums h each c =
    ⊎_elim
    (λ (e : c ≡ key n).
    ap (λ (k : ℕ). get_or (set sums (key n) (get_or sums (key n) (pos 0) +ℤ f n)) k (pos 0)) e
    ∙ get_or-set_same sums (key n) (get_or sums (key n) (pos 0) +ℤ f n) (pos 0) h
    ∙ ap (λ (z : ℤ). z +ℤ f n) (each (key n))
    ∙ sym (part_here f key n (key n) refl)
    ∙ ap (part f key (n + 1)) (sym e))
    (λ (ne : c ≢ key n). get_or-set_other sums (key n) c (get_or sums (key n) (pos 0) +ℤ f n)
    (pos 0) ne ∙ each c ∙ sym (part_other f key n c ne))
    (cases_eq c (key n))

-- and for their absolute values
pub sizes_more : (sums softs : List ℤ) (at n : ℕ) → at < length sums → n < length softs →
    sum_by unsigned_abs sums ≤ sum_by unsigned_abs (take n softs) →
    sum_by unsigned_abs (set sums at (get_or sums at (pos 0) +ℤ get_or softs n (pos 0))) ≤
    sum_by unsigned_abs (take (n + 1) softs)
sizes_more sums softs at n h l most =
    let x = get_or sums at (pos 0) in
    let v = get_or softs n (pos 0) in
    omega (
      arith,
      sum_by-set unsigned_abs sums at (x +ℤ v) (pos 0) h,
      sum_by_more unsigned_abs softs n (pos 0) l,
      abs_sum x v,
      most,
    )

pub sizes_none : (xs : List ℤ) → ((i : ℕ) → get_or xs i (pos 0) ≡ pos 0) → sum_by unsigned_abs xs ≡ 0
sizes_none [] each = refl
sizes_none (x ∷ xs) each =
    let first : x ≡ pos 0 = each 0 in
    let rest = sizes_none xs (λ i. each (suc i)) in
    sum_by-cons unsigned_abs x xs ∙ rw (first, rest) refl

-- there is room for one more
pub sum_has_room : (sums softs : List ℤ) (at n : ℕ) → at < length sums → n < length softs →
    sum_by unsigned_abs sums ≤ sum_by unsigned_abs (take n softs) → sum_by unsigned_abs softs ≤ 2 ^ 62 →
    unsigned_abs (get_or sums at (pos 0)) + unsigned_abs (get_or softs n (pos 0)) ≤ 2 ^ 62
sum_has_room sums softs at n h l most bound =
    omega (
      arith,
      get_or-le-sum_by unsigned_abs sums at (pos 0) h,
      sum_by_more_le unsigned_abs softs n (pos 0) l,
      most,
      bound,
    )

fits : (x : ℤ) → unsigned_abs x ≤ 2 ^ 62 → SFits w64 x
fits x h = fits_signed_from_abs w64 x (omega (arith, h))

-- the code's sum, in 64 bits
abbrev pub added : ℤ → ℤ → ℤ
added x y = to_z w64 (of_z w64 x) +ℤ to_z w64 (of_z w64 y)

pub added_is : (x y : ℤ) → unsigned_abs x + unsigned_abs y ≤ 2 ^ 62 → added x y ≡ x +ℤ y
added_is x y h =
    let p = to_z-of_z w64 x (fits x (omega (arith, h))) in
    let q = to_z-of_z w64 y (fits y (omega (arith, h))) in
    cc

pub added_fits : (x y : ℤ) → unsigned_abs x + unsigned_abs y ≤ 2 ^ 62 → SFits w64 (added x y)
added_fits x y h = rw (added_is x y h) (fits (x +ℤ y) (omega (arith, abs_sum x y, h)))

pub stored_is : (x y : ℤ) → unsigned_abs x + unsigned_abs y ≤ 2 ^ 62 → to_z w64 (of_z w64 (added x y)) ≡ x +ℤ y
stored_is x y h = to_z-of_z w64 (added x y) (added_fits x y h) ∙ added_is x y h

-- one turn of the loop, where the code adds soft value n at its code symbol
pub turn : (key : ℕ → ℕ) (n at : ℕ) (sums softs : List ℤ) → at ≡ key n → at < length sums → n < length softs →
    sum_by unsigned_abs softs ≤ 2 ^ 62 → sum_by unsigned_abs sums ≤ sum_by unsigned_abs (take n softs) →
    ((c : ℕ) → get_or sums c (pos 0) ≡ part (λ i. get_or softs i (pos 0)) key n c) → (c : ℕ) →
    get_or (set sums at
    (to_z w64 (of_z w64 (added (get_or sums at (pos 0)) (get_or softs n (pos 0)))))) c (pos 0) ≡
    part (λ i. get_or softs i (pos 0)) key (n + 1) c
turn key n at sums softs here h l bound most each c =
    let v = get_or softs n (pos 0) in
    let room = sum_has_room sums softs at n h l most bound in
    let low : key n < length sums = rw here at h in
    ap (λ (z : ℤ). get_or (set sums at z) c (pos 0)) (stored_is (get_or sums at (pos 0)) v room)
    ∙ ap (λ (k : ℕ). get_or (set sums k (get_or sums k (pos 0) +ℤ v)) c (pos 0)) here
    ∙ part_more (λ i. get_or softs i (pos 0)) key n sums low each c

pub turn_sizes : (n at : ℕ) (sums softs : List ℤ) → at < length sums → n < length softs →
    sum_by unsigned_abs softs ≤ 2 ^ 62 → sum_by unsigned_abs sums ≤ sum_by unsigned_abs (take n softs) →
    sum_by unsigned_abs
    (set sums at
    (to_z w64 (of_z w64 (added (get_or sums at (pos 0)) (get_or softs n (pos 0)))))) ≤
    sum_by unsigned_abs (take (n + 1) softs)
turn_sizes n at sums softs h l bound most =
    let room = sum_has_room sums softs at n h l most bound in
    rw (stored_is (get_or sums at (pos 0)) (get_or softs n (pos 0)) room) (sizes_more sums softs at n h l most)

-- the sums of all soft values
pub gathered_all : (key : ℕ → ℕ) (n count : ℕ) (sums softs : List ℤ) → length sums ≡ count →
    ((c : ℕ) → get_or sums c (pos 0) ≡ part (λ i. get_or softs i (pos 0)) key n c) →
    sums ≡ gathered_by key n count softs
unfolding gathered_by
gathered_all key n count sums softs long each =
    map-places-all (part (λ i. get_or softs i (pos 0)) key n) sums count (pos 0) long (λ c lt. each c)
