-- Sums of signed numbers by index.
use Rattle.chip_core.proofs.Common.{◌≡◌, ◌≢◌, ℕ, zero, suc, ◌+◌, ◌<◌, refl, sym, arith, ⊎_elim, ℤ, pos, ◌+ℤ◌, neg_ℤ, ints, cases_eq}
use Rattle.chip_core.specs.Sums.{sum_below}

pub sum_same : (n : ℕ) (f g : ℕ → ℤ) → ((k : ℕ) → k < n → f k ≡ g k) → sum_below n f ≡ sum_below n g
unfolding sum_below
sum_same zero f g h = refl
sum_same (suc n) f g h =
    let rest = sum_same n f g (λ k lt. h k (omega (arith, lt))) in
    let here : f n ≡ g n = h n (omega arith) in
    rw (rest, here)

pub sum_front : (n : ℕ) (f : ℕ → ℤ) → sum_below (suc n) f ≡ f 0 +ℤ sum_below n (λ k. f (suc k))
unfolding sum_below
sum_front zero f = omega (arith, ints)
sum_front (suc n) f =
    let e = sum_front n f in
    rw e (omega (arith, ints))

pub sum_append : (a b : ℕ) (f : ℕ → ℤ) → sum_below (a + b) f ≡ sum_below a f +ℤ sum_below b (λ k. f (a + k))
unfolding sum_below
sum_append a zero f = let e : a + 0 ≡ a = omega arith in rw e (omega (arith, ints))
sum_append a (suc b) f =
    let place : a + suc b ≡ suc (a + b) = omega arith in
    let e = sum_append a b f in
    rw (place, e) (omega (arith, ints))

pub sum_turned : (n : ℕ) (f : ℕ → ℤ) → sum_below n (λ k. neg_ℤ (f k)) ≡ neg_ℤ (sum_below n f)
unfolding sum_below
sum_turned zero f = refl
sum_turned (suc n) f =
    let e = sum_turned n f in
    rw e (omega (arith, ints))

pub sum_one : (f : ℕ → ℤ) → sum_below 1 f ≡ f 0
unfolding sum_below
sum_one f = omega (arith, ints)

pub sum_none : (n : ℕ) (f : ℕ → ℤ) → ((k : ℕ) → k < n → f k ≡ pos 0) → sum_below n f ≡ pos 0
unfolding sum_below
sum_none zero f h = refl
sum_none (suc n) f h =
    let rest = sum_none n f (λ k lt. h k (omega (arith, lt))) in
    let here : f n ≡ pos 0 = h n (omega arith) in
    rw (rest, here) refl

-- where one term changes by d, the sum does
pub sum_changed : (n j : ℕ) (f g : ℕ → ℤ) (d : ℤ) → j < n → ((k : ℕ) → k < n → k ≢ j → g k ≡ f k) →
    g j ≡ f j +ℤ d → sum_below n g ≡ sum_below n f +ℤ d
unfolding sum_below
sum_changed zero j f g d h others here = absurd (omega (arith, h))
sum_changed (suc n) j f g d h others here =
    ⊎_elim
    (λ (last : j ≡ n).
    let rest = sum_same n g f (λ k lt. others k (omega (arith, lt)) (omega (arith, lt, last))) in
    let end : g n ≡ f n +ℤ d = rw last at here in
    rw (rest, end) (omega (arith, ints)))
    (λ (other : j ≢ n).
    let rest =
    sum_changed n j f g d (omega (arith, h, other)) (λ k lt ne. others k (omega (arith, lt)) ne)
    here in
    let end : g n ≡ f n = others n (omega arith) (λ e. other (sym e)) in
    rw (rest, end) (omega (arith, ints)))
    (cases_eq j n)
