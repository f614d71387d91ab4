-- How often a number stands in a list.
use Rattle.pilot_sets.proofs.Common.{◌≡◌, ◌<◌, ◌≤◌, ◌+◌, ℕ, Bool, true, false, cond, ◌||◌, List, [], ◌∷◌, ◌++◌, if◌then◌else◌, Some, None}
use Rattle.pilot_sets.proofs.Common.{filter, take, nat_eq, nat_lt, refl, ap, arith, zero, suc, ◌∙◌, eqb-true, eq-eqb, ltb-true, ltb-false}
use Rattle.pilot_sets.proofs.Common.{All-nil, All-cons, All-head, All-tail, All, has, firsts, first_repeated, times_listed, places_for}
use Rattle.pilot_sets.proofs.Common.{IsOnceEach}
use Rattle.pilot_sets.proofs.Refusals.{some_none}

pub times-append : (p : ℕ) (xs ys : List ℕ) → times_listed p (xs ++ ys) ≡ times_listed p xs + times_listed p ys
times-append p [] ys = omega arith
times-append p (x ∷ xs) ys = omega (arith, times-append p xs ys)

pub times-take : (p n : ℕ) (xs : List ℕ) → times_listed p (take n xs) ≤ times_listed p xs
times-take p zero xs = omega arith
times-take p (suc n) [] = omega arith
times-take p (suc n) (x ∷ xs) = omega (arith, times-take p n xs)

pub times-filter : (p : ℕ) (test : ℕ → Bool) (xs : List ℕ) → times_listed p (filter test xs) ≤ times_listed p xs
times-filter p test [] = omega arith
times-filter p test (x ∷ xs) = by_cases (test x) (times-filter p test xs)
  where
    by_cases : (b : Bool) → times_listed p (filter test xs) ≤ times_listed p xs →
        times_listed p (cond b (x ∷ filter test xs) (filter test xs)) ≤ cond (nat_eq p x) 1 0 + times_listed p xs
    by_cases true ih = omega (arith, ih)
    by_cases false ih = omega (arith, ih)

-- a number that isn't in a list stands there 0 times
pub times-missing : (p : ℕ) (xs : List ℕ) → has xs p ≡ false → times_listed p xs ≡ 0
times-missing p [] h = refl
times-missing p (x ∷ xs) h = by_cases (nat_eq p x) h (times-missing p xs)
  where
    by_cases : (b : Bool) → (b || has xs p) ≡ false → (has xs p ≡ false → times_listed p xs ≡ 0) →
        cond b 1 0 + times_listed p xs ≡ 0
    by_cases true e ih = cc
    by_cases false e ih = omega (arith, ih e)

-- what a test leaves out stands 0 times in what it leaves
pub times-left_out : (p : ℕ) (test : ℕ → Bool) (xs : List ℕ) → test p ≡ false → times_listed p (filter test xs) ≡ 0
times-left_out p test [] h = refl
times-left_out p test (x ∷ xs) h = by_cases (test x) refl (times-left_out p test xs h)
  where
    other : (b : Bool) → nat_eq p x ≡ b → test x ≡ true → ◌≡◌ {A = ℕ} (cond b 1 0) 0
    other true e t = cc (ap test (eqb-true p x e), h, t)
    other false e t = refl

    by_cases : (b : Bool) → test x ≡ b → times_listed p (filter test xs) ≡ 0 →
        times_listed p (cond b (x ∷ filter test xs) (filter test xs)) ≡ 0
    by_cases true t ih = omega (arith, other (nat_eq p x) refl t, ih)
    by_cases false t ih = ih

-- the first of equal numbers stand there once
pub firsts_once : (p : ℕ) (seen xs : List ℕ) → times_listed p (firsts seen xs) ≤ cond (has seen p) 0 1
firsts_once p seen [] = by_cases (has seen p)
  where
    by_cases : (b : Bool) → 0 ≤ cond b 0 1
    by_cases true = omega arith
    by_cases false = omega arith
firsts_once p seen (x ∷ xs) =
    by_cases (has seen x) refl (firsts_once p seen xs) (firsts_once p (x ∷ seen) xs)
  where
    same : (b : Bool) → nat_eq p x ≡ b → has seen x ≡ false →
        times_listed p (firsts (x ∷ seen) xs) ≤ cond (b || has seen p) 0 1 →
        cond b 1 0 + times_listed p (firsts (x ∷ seen) xs) ≤ cond (has seen p) 0 1
    same true e h k =
        let absent : has seen p ≡ false = ap (has seen) (eqb-true p x e) ∙ h in
        rw absent (omega (arith, k))
    same false e h k = omega (arith, k)

    by_cases : (b : Bool) → has seen x ≡ b → times_listed p (firsts seen xs) ≤ cond (has seen p) 0 1 →
        times_listed p (firsts (x ∷ seen) xs) ≤ cond (nat_eq p x || has seen p) 0 1 →
        times_listed p (if b then firsts seen xs else x ∷ firsts (x ∷ seen) xs) ≤ cond (has seen p) 0 1
    by_cases true h k m = k
    by_cases false h k m = same (nat_eq p x) refl h m

-- and no oftener than in the list
pub firsts_within : (p : ℕ) (seen xs : List ℕ) → times_listed p (firsts seen xs) ≤ times_listed p xs
firsts_within p seen [] = omega arith
firsts_within p seen (x ∷ xs) =
    by_cases (has seen x) (firsts_within p seen xs) (firsts_within p (x ∷ seen) xs)
  where
    by_cases : (b : Bool) → times_listed p (firsts seen xs) ≤ times_listed p xs →
        times_listed p (firsts (x ∷ seen) xs) ≤ times_listed p xs →
        times_listed p (if b then firsts seen xs else x ∷ firsts (x ∷ seen) xs)
        ≤ cond (nat_eq p x) 1 0 + times_listed p xs
    by_cases true h k = omega (arith, h)
    by_cases false h k = omega (arith, k)

-- where nothing is repeated, the first ones are all
pub firsts_all : (seen xs : List ℕ) → first_repeated seen xs ≡ None → firsts seen xs ≡ xs
firsts_all seen [] h = refl
firsts_all seen (x ∷ xs) h = by_cases (has seen x) h (firsts_all (x ∷ seen) xs)
  where
    by_cases : (b : Bool) → (if b then Some x else first_repeated (x ∷ seen) xs) ≡ None →
        (first_repeated (x ∷ seen) xs ≡ None → firsts (x ∷ seen) xs ≡ xs) →
        (if b then firsts seen xs else x ∷ firsts (x ∷ seen) xs) ≡ x ∷ xs
    by_cases true e ih = absurd (some_none e)
    by_cases false e ih = ap (λ l. x ∷ l) (ih e)

-- OFFSETS
-- a number from 512 on doesn't stand among offsets
pub times-offsets : (p : ℕ) (xs : List ℕ) → All (λ x. x < 512) xs → 512 ≤ p → times_listed p xs ≡ 0
times-offsets p [] h above = refl
times-offsets p (x ∷ xs) h above =
    by_cases (nat_eq p x) refl (times-offsets p xs (All-tail (λ y. y < 512) x xs h) above)
  where
    by_cases : (b : Bool) → nat_eq p x ≡ b → times_listed p xs ≡ 0 → cond b 1 0 + times_listed p xs ≡ 0
    by_cases true e ih = absurd (omega (arith, eqb-true p x e, All-head (λ y. y < 512) x xs h, above))
    by_cases false e ih = omega (arith, ih)

pub once_at_most : (p : ℕ) → places_for p ≤ 1
once_at_most p = by_cases (nat_lt p 512)
  where
    by_cases : (b : Bool) → cond b 1 0 ≤ 1
    by_cases true = omega arith
    by_cases false = omega arith

-- offsets, none of them twice
pub once_each : (xs : List ℕ) → ((p : ℕ) → times_listed p xs ≤ 1) → All (λ x. x < 512) xs → IsOnceEach xs
once_each xs once offsets p = by_cases (nat_lt p 512) refl
  where
    by_cases : (b : Bool) → nat_lt p 512 ≡ b → times_listed p xs ≤ cond b 1 0
    by_cases true e = once p
    by_cases false e = omega (arith, times-offsets p xs offsets (ltb-false p 512 e))

-- a list in which each number stands only where it may holds offsets
pub offsets_of : (xs : List ℕ) → ((p : ℕ) → times_listed p xs ≤ places_for p) → All (λ x. x < 512) xs
offsets_of [] h = All-nil (λ y. y < 512)
offsets_of (x ∷ xs) h =
    All-cons (λ y. y < 512) x xs (below (nat_lt x 512) refl) (offsets_of xs (λ p. omega (arith, h p)))
  where
    here : 1 ≤ times_listed x (x ∷ xs)
    here = rw (eq-eqb x x refl) (omega arith)

    below : (b : Bool) → nat_lt x 512 ≡ b → x < 512
    below true e = ltb-true x 512 e
    below false e = absurd (omega (arith, h x, here, ap {B = ℕ} (λ b. cond b 1 0) e))
