-- The first of equal pilots, and the first that is repeated, as a loop finds them.
use Rattle.pilot_sets.proofs.Common.{◌≡◌, ◌<◌, ◌+◌, ℕ, Bool, true, false, ◌||◌, List, [], ◌∷◌, ◌++◌, drop, length, Some, slice_get, nat_eq}
use Rattle.pilot_sets.proofs.Common.{All-get_or, All, subst, refl, ap, sym, ◌∙◌, append_assoc, list_any-append, has, firsts, first_repeated}
use Rattle.pilot_sets.proofs.Common.{left_at}
use Rattle.std.proofs.lemmas.Option.{get_or_from_slice_get, slice_get_within}

-- an element of numbers that are all below another
pub element_below : (xs : List ℕ) (most k x : ℕ) → All (λ n. n < most) xs → slice_get xs k ≡ Some x → x < most
element_below xs most k x all at =
    subst (λ n. n < most) (get_or_from_slice_get xs k x x at)
    (All-get_or (λ n. n < most) xs k x (slice_get_within xs k x at) all)

-- THE ORDER OF WHAT WAS SEEN
-- doesn't matter
last_or_first : (a b : Bool) → (a || b) ≡ (b || (a || false))
last_or_first true true = refl
last_or_first true false = refl
last_or_first false true = refl
last_or_first false false = refl

pub has_push : (seen : List ℕ) (x y : ℕ) → has (x ∷ seen) y ≡ has (seen ++ x ∷ []) y
has_push seen x y = last_or_first (nat_eq y x) (has seen y) ∙ sym (list_any-append (nat_eq y) seen (x ∷ []))

-- THE FIRST THAT IS REPEATED
first_repeated_same : (s t xs : List ℕ) → ((y : ℕ) → has s y ≡ has t y) → first_repeated s xs ≡ first_repeated t xs
first_repeated_same s t [] h = refl
first_repeated_same s t (x ∷ xs) h =
    let rest : first_repeated (x ∷ s) xs ≡ first_repeated (x ∷ t) xs =
    first_repeated_same (x ∷ s) (x ∷ t) xs (λ y. ap (λ b. nat_eq y x || b) (h y)) in
    rw (h x, rest) refl

repeated_yes : (seen : List ℕ) (x : ℕ) (xs : List ℕ) → has seen x ≡ true → first_repeated seen (x ∷ xs) ≡ Some x
repeated_yes seen x xs hit = rw hit refl

repeated_no : (seen : List ℕ) (x : ℕ) (xs : List ℕ) → has seen x ≡ false →
    first_repeated seen (x ∷ xs) ≡ first_repeated (x ∷ seen) xs
repeated_no seen x xs miss = rw miss refl

pub repeated_here : (xs seen : List ℕ) (i x : ℕ) → i < length xs → slice_get xs i ≡ Some x →
    first_repeated [] xs ≡ first_repeated seen (drop i xs) → has seen x ≡ true → Some x ≡ first_repeated [] xs
repeated_here xs seen i x h e before hit =
    sym (
    before
    ∙ ap (λ ys. first_repeated seen ys) (left_at xs i x h e)
    ∙ repeated_yes seen x (drop (i + 1) xs) hit
    )

pub repeated_more : (xs seen : List ℕ) (i x : ℕ) → i < length xs → slice_get xs i ≡ Some x →
    first_repeated [] xs ≡ first_repeated seen (drop i xs) → has seen x ≡ false →
    first_repeated [] xs ≡ first_repeated (seen ++ x ∷ []) (drop (i + 1) xs)
repeated_more xs seen i x h e before miss =
    before
    ∙ ap (λ ys. first_repeated seen ys) (left_at xs i x h e)
    ∙ repeated_no seen x (drop (i + 1) xs) miss
    ∙ first_repeated_same (x ∷ seen) (seen ++ x ∷ []) (drop (i + 1) xs) (λ y. has_push seen x y)

-- THE FIRST OF EQUAL PILOTS
firsts_same : (s t xs : List ℕ) → ((y : ℕ) → has s y ≡ has t y) → firsts s xs ≡ firsts t xs
firsts_same s t [] h = refl
firsts_same s t (x ∷ xs) h =
    let here : firsts s xs ≡ firsts t xs = firsts_same s t xs h in
    let rest : firsts (x ∷ s) xs ≡ firsts (x ∷ t) xs =
    firsts_same (x ∷ s) (x ∷ t) xs (λ y. ap (λ b. nat_eq y x || b) (h y)) in
    rw (h x, here, rest) refl

firsts_hit : (seen : List ℕ) (x : ℕ) (xs : List ℕ) → has seen x ≡ true → firsts seen (x ∷ xs) ≡ firsts seen xs
firsts_hit seen x xs hit = rw hit refl

firsts_miss : (seen : List ℕ) (x : ℕ) (xs : List ℕ) → has seen x ≡ false →
    firsts seen (x ∷ xs) ≡ x ∷ firsts (x ∷ seen) xs
firsts_miss seen x xs miss = rw miss refl

pub firsts_old : (xs seen : List ℕ) (i x : ℕ) → i < length xs → slice_get xs i ≡ Some x →
    firsts [] xs ≡ seen ++ firsts seen (drop i xs) → has seen x ≡ true →
    firsts [] xs ≡ seen ++ firsts seen (drop (i + 1) xs)
firsts_old xs seen i x h e before hit =
    before
    ∙ ap (λ ys. seen ++ firsts seen ys) (left_at xs i x h e)
    ∙ ap (λ ys. seen ++ ys) (firsts_hit seen x (drop (i + 1) xs) hit)

pub firsts_new : (xs seen : List ℕ) (i x : ℕ) → i < length xs → slice_get xs i ≡ Some x →
    firsts [] xs ≡ seen ++ firsts seen (drop i xs) → has seen x ≡ false →
    firsts [] xs ≡ (seen ++ x ∷ []) ++ firsts (seen ++ x ∷ []) (drop (i + 1) xs)
firsts_new xs seen i x h e before miss =
    before
    ∙ ap (λ ys. seen ++ firsts seen ys) (left_at xs i x h e)
    ∙ ap (λ ys. seen ++ ys) (firsts_miss seen x (drop (i + 1) xs) miss)
    ∙ ap (λ ys. seen ++ x ∷ ys) (firsts_same (x ∷ seen) (seen ++ x ∷ []) (drop (i + 1) xs) (λ y. has_push seen x y))
    ∙ sym (append_assoc seen (x ∷ []) (firsts (seen ++ x ∷ []) (drop (i + 1) xs)))
