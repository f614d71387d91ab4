-- Soft values with 0 at the places of power control bits.
use Rattle.frame_decoder.proofs.Common.{◌≡◌, ◌≢◌, ℕ, ◌<◌, ◌≤◌, Bool, true, false, List, [], ◌∷◌, ◌++◌, length, get_or, set, refl, sym, ap}
use Rattle.frame_decoder.proofs.Common.{◌∙◌, arith, ℤ, pos, nat_eq, map, ⊎_elim, ◌||◌, replicate, take, if◌then◌else◌, sum_by, unsigned_abs}
use Rattle.frame_decoder.proofs.Common.{ne_eqb, eq-eqb, cases_eq, cases_lt, get_or-set_same, get_or-set_other, length-set, set_past, places}
use Rattle.frame_decoder.proofs.Common.{ext_get_or, length-replicate, get_or-replicate, get_or-take, get_or_past, list_any-append, or-false}
use Rattle.frame_decoder.proofs.Common.{sum_by-set, length-map-places, get_or-map-places, map-places-all, is_replaced, unreplaced}
use Rattle.frame_decoder.proofs.Common.{length-take-le}

-- each soft value
abbrev pub kept : List ℕ → List ℤ → ℕ → ℤ
kept replaced softs i = if is_replaced replaced i then pos 0 else get_or softs i (pos 0)

pub length-unreplaced : (replaced : List ℕ) (softs : List ℤ) → length (unreplaced replaced softs) ≡ length softs
unfolding unreplaced
length-unreplaced replaced softs = length-map-places (kept replaced softs) (length softs)

pub get_or-unreplaced : (replaced : List ℕ) (softs : List ℤ) (i : ℕ) → i < length softs →
    get_or (unreplaced replaced softs) i (pos 0) ≡ kept replaced softs i
unfolding unreplaced
get_or-unreplaced replaced softs i h = get_or-map-places (kept replaced softs) (length softs) i (pos 0) h

pub none_replaced : (softs : List ℤ) → softs ≡ unreplaced [] softs
unfolding unreplaced
none_replaced softs = map-places-all (kept [] softs) softs (length softs) (pos 0) refl (λ k h. refl)

or_true : (b : Bool) → (b || (true || false)) ≡ true
or_true true = refl
or_true false = refl

-- a place more
replaced_here : (replaced : List ℕ) (p : ℕ) → is_replaced (replaced ++ p ∷ []) p ≡ true
replaced_here replaced p =
    list_any-append (nat_eq p) replaced (p ∷ [])
    ∙ ap (λ (b : Bool). is_replaced replaced p || (b || false)) (eq-eqb p p refl)
    ∙ or_true (is_replaced replaced p)

replaced_other : (replaced : List ℕ) (p i : ℕ) → i ≢ p → is_replaced (replaced ++ p ∷ []) i ≡ is_replaced replaced i
replaced_other replaced p i other =
    list_any-append (nat_eq i) replaced (p ∷ [])
    ∙ ap (λ (b : Bool). is_replaced replaced i || (b || false)) (ne_eqb i p other)
    ∙ or-false (is_replaced replaced i)

here_is : (b : Bool) (x : ℤ) → b ≡ true → pos 0 ≡ (if b then pos 0 else x)
here_is true x e = refl
here_is false x e = cc

pub one_replaced : (replaced : List ℕ) (softs : List ℤ) (p : ℕ) →
    set (unreplaced replaced softs) p (pos 0) ≡ unreplaced (replaced ++ p ∷ []) softs
unfolding unreplaced
one_replaced replaced softs p =
    let xs = map (kept replaced softs) (places (length softs)) in
    let long : length xs ≡ length softs = length-map-places (kept replaced softs) (length softs) in
    map-places-all (kept (replaced ++ p ∷ []) softs) (set xs p (pos 0)) (length softs) (pos 0)
    (length-set xs p (pos 0) ∙ long)
    (λ k lt. ⊎_elim
    (λ (e : k ≡ p). let within : p < length xs = omega (arith, lt, long, e) in
    ap (λ (j : ℕ). get_or (set xs p (pos 0)) j (pos 0)) e
    ∙ get_or-set_same xs p (pos 0) (pos 0) within
    ∙ here_is (is_replaced (replaced ++ p ∷ []) k) (get_or softs k (pos 0))
    (ap (is_replaced (replaced ++ p ∷ [])) e ∙ replaced_here replaced p))
    (λ (ne : k ≢ p). get_or-set_other xs p k (pos 0) (pos 0) ne
    ∙ get_or-map-places (kept replaced softs) (length softs) k (pos 0) lt
    ∙ ap (λ (b : Bool). if b then pos 0 else get_or softs k (pos 0)) (sym (replaced_other replaced p k ne)))
    (cases_eq k p))

-- no absolute value grows
pub one_small : (xs : List ℤ) (p : ℕ) → sum_by unsigned_abs (set xs p (pos 0)) ≤ sum_by unsigned_abs xs
one_small xs p = ⊎_elim
    (λ (within : p < length xs).
    let e = sum_by-set unsigned_abs xs p (pos 0) (pos 0) within in omega (arith, e))
    (λ (past : length xs ≤ p). rw (set_past xs p (pos 0) past) (omega arith)) (cases_lt p (length xs))

-- soft values of 0 stay so
either_zero : (b : Bool) (x : ℤ) → x ≡ pos 0 → (if b then pos 0 else x) ≡ pos 0
either_zero true x e = refl
either_zero false x e = e

-- Soft values that are all 0 stay so where 0 is put at the places of power control bits: at each
-- place there is a 0, either the one that was heard or the one that is put there.
pub zeros_kept : (replaced : List ℕ) (n : ℕ) → unreplaced replaced (replicate n (pos 0)) ≡ replicate n (pos 0)
zeros_kept replaced n =
    let zeros : List ℤ = replicate n (pos 0) in
    let long = length-unreplaced replaced zeros in
    ext_get_or (pos 0) (unreplaced replaced zeros) zeros long
    (λ i lt.
    let low : i < length zeros = omega (arith, lt, long) in
    let none : get_or zeros i (pos 0) ≡ pos 0 =
    get_or-replicate n i (pos 0) (pos 0) (omega (arith, low, length-replicate n (pos 0))) in
    get_or-unreplaced replaced zeros i low
    ∙ either_zero (is_replaced replaced i) (get_or zeros i (pos 0)) none
    ∙ sym none)

-- zeros, wherever they are read
pub zeros_read : (n k : ℕ) → get_or (replicate n (pos 0)) k (pos 0) ≡ pos 0
zeros_read n k = ⊎_elim (λ (within : k < n). get_or-replicate n k (pos 0) (pos 0) within)
    (λ (past : n ≤ k).
    get_or_past (replicate n (pos 0)) k (pos 0) (omega (arith, past, length-replicate n (pos 0))))
    (cases_lt k n)

-- and the first k of them
pub first_zeros_read : (count n k : ℕ) → count ≤ n → get_or (take count (replicate n (pos 0))) k (pos 0) ≡ pos 0
first_zeros_read count n k few = ⊎_elim
    (λ (within : k < count).
    get_or-take count (replicate n (pos 0)) k (pos 0) within ∙ zeros_read n k)
    (λ (past : count ≤ k).
    let size = length-take-le count (replicate n (pos 0)) (omega (arith, few, length-replicate n (pos 0))) in
    get_or_past (take count (replicate n (pos 0))) k (pos 0) (omega (arith, past, size)))
    (cases_lt k count)
