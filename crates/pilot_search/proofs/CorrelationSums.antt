-- Lemmas on the sums of a correlation.
use Rattle.pilot_search.proofs.Common.{◌≡◌, ℕ, suc, ◌+◌, ◌-◌, ◌*◌, ◌%◌, ◌<◌, ◌≤◌, List, [], ◌∷◌, ◌++◌, length, get_or, take, drop, All, min}
use Rattle.pilot_search.proofs.Common.{refl, ◌⊎◌, ⊎_elim, inl, inr, sym, ap, ◌∙◌, arith, add-one, ℤ, pos, ◌+ℤ◌, drop_all, take-append-drop}
use Rattle.pilot_search.proofs.Common.{length-take-le, length-drop, All-from_get_or, cases_order, drop-cons, zip_with, origin, plus, sum_of}
use Rattle.pilot_search.proofs.Common.{plus_assoc, plus-origin, sum_of-append, Pair, Sample, pilot_chip, chip_signs, pilot_signs, despread}
use Rattle.pilot_search.proofs.Common.{IsUnit, turned, despread-append, sign_unit, length-pilot_signs, get_or-pilot_signs, correlation_with}
use Rattle.pilot_search.proofs.Common.{phase_correlation}

abbrev pub no_sample : Sample
no_sample = record { i = pos 0; q = pos 0 }

-- one sample further
pub correlation_with-more : (samples : List Sample) (signs : List (ℤ × ℤ)) (t : ℕ) (sum product : Pair) (i q : ℤ) →
    t < length samples → t < length signs →
    product ≡ turned (get_or samples t no_sample) (get_or signs t (pos 0, pos 0)) →
    i ≡ sum.i +ℤ product.i → q ≡ sum.q +ℤ product.q →
    plus (record { i = i; q = q }) (correlation_with (drop (t + 1) samples) (drop (t + 1) signs)) ≡
    plus sum (correlation_with (drop t samples) (drop t signs))
unfolding correlation_with
correlation_with-more samples signs t sum product i q h g is ei eq =
    let x = get_or samples t no_sample in
    let s = get_or signs t (pos 0, pos 0) in
    let more : drop t samples ≡ x ∷ drop (t + 1) samples = rw add-one (drop-cons samples t no_sample h) in
    let more_signs : drop t signs ≡ s ∷ drop (t + 1) signs = rw add-one (drop-cons signs t (pos 0, pos 0) g) in
    rw (more, more_signs, ei, eq, is)
    (plus_assoc sum (turned x s) (sum_of (zip_with turned (drop (t + 1) samples) (drop (t + 1) signs))))

-- nothing is left
pub correlation_with-all : (samples : List Sample) (signs : List (ℤ × ℤ)) (t : ℕ) (sum : Pair) → length samples ≤ t →
    plus sum (correlation_with (drop t samples) (drop t signs)) ≡ sum
unfolding correlation_with
correlation_with-all samples signs t sum h = rw (drop_all t samples h) (plus-origin sum)

-- each of the pilot's signs is +1 or -1
pub units : All IsUnit pilot_signs
units =
    All-from_get_or IsUnit pilot_signs (pos 1, pos 1)
    (λ k lt. let here = get_or-pilot_signs k (pos 1, pos 1) (omega (arith, lt, length-pilot_signs))
    in rw here (record { i = sign_unit _; q = sign_unit _ }))

-- samples at a phase, on the table from that phase on, where it doesn't end before them
pub despread_from : (samples : List Sample) (phase n turns : ℕ) → phase ≡ n + 32768 * turns →
    n + length samples ≤ 32768 → despread phase samples ≡ zip_with turned samples (drop n pilot_signs)
despread_from [] phase n turns at room = refl
despread_from (s ∷ samples) phase n turns at room =
    let within : n < 32768 = omega (arith, room) in
    let place : phase % 32768 ≡ n = omega (arith, at, within) in
    let entry : drop n pilot_signs ≡ chip_signs (pilot_chip n) ∷ drop (suc n) pilot_signs =
    drop-cons pilot_signs n (pos 1, pos 1) (omega (arith, within, length-pilot_signs))
    ∙ ap (λ (x : ℤ × ℤ). x ∷ drop (suc n) pilot_signs) (get_or-pilot_signs n (pos 1, pos 1) within)
    in
    let rest : despread (phase + 1) samples ≡ zip_with turned samples (drop (suc n) pilot_signs) =
    despread_from samples (phase + 1) (suc n) turns (omega (arith, at)) (omega (arith, room)) in
    rw (entry, place, rest)

-- the samples after the part that ends with the code, or none
rest_from_start : (after : List Sample) (phase : ℕ) → length after ≤ 32768 → (phase ≡ 32768) ⊎ (length after ≡ 0) →
    despread phase after ≡ zip_with turned after pilot_signs
rest_from_start [] phase few ends = refl
rest_from_start (s ∷ after) phase few ends =
    let wraps : phase ≡ 32768 = ⊎_elim (λ e. e) (λ e. absurd (omega (arith, e))) ends in
    despread_from (s ∷ after) phase 0 1 (omega (arith, wraps)) (omega (arith, few))

-- which of two numbers the lesser is
lesser : (a b n : ℕ) → n ≡ min a b → (n ≡ b) ⊎ (a ≡ n)
lesser a b n is =
    ⊎_elim (λ e. inr (omega (arith, e, is)))
    (⊎_elim (λ lt. inr (omega (arith, lt, is))) (λ gt. inl (omega (arith, gt, is)))) (cases_order a b)

-- the samples parted where the code begins again
pub parted : (samples : List Sample) (phase n : ℕ) → phase < 32768 → length samples ≤ 32768 →
    n ≡ min (length samples) (32768 - phase) → plus (correlation_with (take n samples) (drop phase pilot_signs))
    (correlation_with (drop n samples) pilot_signs) ≡ phase_correlation samples phase
unfolding correlation_with phase_correlation
parted samples phase n low few is =
    let within : n ≤ length samples = omega (arith, is) in
    let room : phase + n ≤ 32768 = omega (arith, is, low) in
    let before = take n samples in
    let after = drop n samples in
    let long : length before ≡ n = length-take-le n samples within in
    let first : despread phase before ≡ zip_with turned before (drop phase pilot_signs) =
    despread_from before phase phase 0 (omega arith) (omega (arith, long, room)) in
    let ends : (phase + length before ≡ 32768) ⊎ (length after ≡ 0) =
    ⊎_elim (λ e. inl (omega (arith, e, long, low))) (λ e. inr (length-drop n samples ∙ omega (arith, e)))
    (lesser (length samples) (32768 - phase) n is) in
    let rest : despread (phase + length before) after ≡ zip_with turned after pilot_signs =
    rest_from_start after (phase + length before) (omega (arith, length-drop n samples, few)) ends
    in
    let whole : despread phase samples ≡
    zip_with turned before (drop phase pilot_signs) ++ zip_with turned after pilot_signs =
    ap (despread phase) (sym (take-append-drop n samples)) ∙ despread-append before after phase
    ∙ ap (λ (ps : List Pair). ps ++ despread (phase + length before) after) first
    ∙ ap (λ (ps : List Pair). zip_with turned before (drop phase pilot_signs) ++ ps) rest in
    sym (ap sum_of whole ∙
    sum_of-append (zip_with turned before (drop phase pilot_signs)) (zip_with turned after pilot_signs))

-- where nothing stands after the code's end, the part before it is all
pub all_before : (samples : List Sample) (phase n : ℕ) → phase < 32768 → length samples ≤ 32768 →
    n ≡ min (length samples) (32768 - phase) → length samples ≤ n →
    correlation_with (take n samples) (drop phase pilot_signs) ≡ phase_correlation samples phase
unfolding correlation_with
all_before samples phase n low few is past =
    let none : correlation_with (drop n samples) pilot_signs ≡ origin =
    ap (λ (xs : List Sample). correlation_with xs pilot_signs) (drop_all n samples past) in
    sym (plus-origin (correlation_with (take n samples) (drop phase pilot_signs)))
    ∙ ap (plus (correlation_with (take n samples) (drop phase pilot_signs))) (sym none)
    ∙ parted samples phase n low few is

pub plus_is : (x y : Pair) (i q : ℤ) → i ≡ x.i +ℤ y.i → q ≡ x.q +ℤ y.q →
    ◌≡◌ {A = Pair} record { i = i; q = q } (plus x y)
plus_is x y i q e f = rw (e, f)
