-- Sums of a part of the samples, and how great an energy can become.
use Rattle.pilot_search.proofs.Common.{◌≡◌, ℕ, zero, suc, ◌+◌, ◌-◌, ◌*◌, ◌%◌, ◌≤◌, Bool, true, false, List, [], ◌∷◌, ◌++◌, length, take, ap}
use Rattle.pilot_search.proofs.Common.{drop, refl, sym, ◌∙◌, subst, arith, ℤ, ◌+ℤ◌, unsigned_abs, mul-le-mul, take-add, ints, drop-drop}
use Rattle.pilot_search.proofs.Common.{length-take-le, origin, plus, times, conjugate, point, of_sample, sum_of, norm, Pair, Sample, energy}
use Rattle.pilot_search.proofs.Common.{plus_assoc, origin-plus, sum_of-append, code_point, despread, pilot_chip, despread-append, square_of}
use Rattle.pilot_search.proofs.Common.{phase_correlation, magnitudes, bound, HasNoBoundBelow, IsSumOf}
use Rattle.pilot_search.proofs.CorrelationSums.{plus_is}

-- PARTS OF THE SAMPLES
-- the code begins again after 32,768 chips
pub despread_mod : (samples : List Sample) (a b : ℕ) → a % 32768 ≡ b % 32768 → despread a samples ≡ despread b samples
despread_mod [] a b e = refl
despread_mod (s ∷ samples) a b e =
    ap (λ (n : ℕ). times (of_sample s) (conjugate (point (pilot_chip n)))
    ∷ despread (a + 1) samples) e
    ∙ ap (λ (ps : List Pair). times (of_sample s) (conjugate (code_point b)) ∷ ps)
    (despread_mod samples (a + 1) (b + 1) (omega (arith, e)))

correlation_mod : (samples : List Sample) (phase : ℕ) →
    phase_correlation samples (phase % 32768) ≡ phase_correlation samples phase
unfolding phase_correlation
correlation_mod samples phase = ap sum_of (despread_mod samples (phase % 32768) phase (omega arith))

correlation-append : (xs ys : List Sample) (phase : ℕ) →
    phase_correlation (xs ++ ys) phase ≡ plus (phase_correlation xs phase) (phase_correlation ys (phase + length xs))
unfolding phase_correlation
correlation-append xs ys phase =
    ap sum_of (despread-append xs ys phase) ∙
    sum_of-append (despread phase xs) (despread (phase + length xs) ys)

-- one chunk further
pub chunk_more : (samples : List Sample) (phase k n : ℕ) → k ≤ length samples →
    phase_correlation (take (k + n) samples) phase ≡ plus (phase_correlation (take k samples) phase)
    (phase_correlation (take n (drop k samples)) ((phase + k) % 32768))
chunk_more samples phase k n le =
    let before = take k samples in
    let chunk = take n (drop k samples) in
    let long : length before ≡ k = length-take-le k samples le in
    ap (λ (xs : List Sample). phase_correlation xs phase) (take-add k n samples)
    ∙ correlation-append before chunk phase
    ∙ ap (λ (m : ℕ). plus (phase_correlation before phase) (phase_correlation chunk (phase + m))) long
    ∙ ap (plus (phase_correlation before phase)) (sym (correlation_mod chunk (phase + k)))

pub nothing_yet : (samples : List Sample) (phase : ℕ) → phase_correlation (take 0 samples) phase ≡ origin
unfolding phase_correlation
nothing_yet samples phase = refl

-- the sum so far and the sum of the rest
parted : (samples : List Sample) (phase k : ℕ) → sum_of (despread phase samples) ≡
    plus (sum_of (despread phase (take k samples))) (sum_of (despread (phase + k) (drop k samples)))
parted [] phase zero = refl
parted [] phase (suc k) = refl
parted (s ∷ samples) phase zero = let e : phase + 0 ≡ phase = omega arith in
    rw e (sym (origin-plus (sum_of (despread phase (s ∷ samples)))))
parted (s ∷ samples) phase (suc k) =
    let t = times (of_sample s) (conjugate (code_point phase)) in
    let e : phase + suc k ≡ phase + 1 + k = omega arith in
    rw e (ap (plus t) (parted samples (phase + 1) k) ∙
    sym (plus_assoc t (sum_of (despread (phase + 1) (take k samples)))
    (sum_of (despread (phase + 1 + k) (drop k samples)))))

-- BOUNDS
product_i : (s : Sample) (chip : Bool × Bool) → unsigned_abs (times (of_sample s) (conjugate (point chip))).i ≤
    unsigned_abs s.i + unsigned_abs s.q
product_i s (true, true) = omega (arith, ints)
product_i s (true, false) = omega (arith, ints)
product_i s (false, true) = omega (arith, ints)
product_i s (false, false) = omega (arith, ints)

product_q : (s : Sample) (chip : Bool × Bool) → unsigned_abs (times (of_sample s) (conjugate (point chip))).q ≤
    unsigned_abs s.i + unsigned_abs s.q
product_q s (true, true) = omega (arith, ints)
product_q s (true, false) = omega (arith, ints)
product_q s (false, true) = omega (arith, ints)
product_q s (false, false) = omega (arith, ints)

near : (t u : ℤ) (m n : ℕ) → unsigned_abs t ≤ m → unsigned_abs u ≤ n → unsigned_abs (t +ℤ u) ≤ m + n
near t u m n a b = omega (arith, ints)

rest_i : (phase : ℕ) (samples : List Sample) → unsigned_abs (sum_of (despread phase samples)).i ≤ magnitudes samples
rest_i phase [] = omega arith
rest_i phase (s ∷ samples) =
    near (times (of_sample s) (conjugate (code_point phase))).i
    (sum_of (despread (phase + 1) samples)).i (unsigned_abs s.i + unsigned_abs s.q) (magnitudes samples)
    (product_i s (pilot_chip (phase % 32768))) (rest_i (phase + 1) samples)

rest_q : (phase : ℕ) (samples : List Sample) → unsigned_abs (sum_of (despread phase samples)).q ≤ magnitudes samples
rest_q phase [] = omega arith
rest_q phase (s ∷ samples) =
    near (times (of_sample s) (conjugate (code_point phase))).q
    (sum_of (despread (phase + 1) samples)).q (unsigned_abs s.i + unsigned_abs s.q) (magnitudes samples)
    (product_q s (pilot_chip (phase % 32768))) (rest_q (phase + 1) samples)

reach : (a b : ℤ) (left : ℕ) → unsigned_abs b ≤ left →
    unsigned_abs (a +ℤ b) * unsigned_abs (a +ℤ b) ≤ square_of (unsigned_abs a + left)
reach a b left h = let w : unsigned_abs (a +ℤ b) ≤ unsigned_abs a + left = omega (arith, ints) in
    mul-le-mul w w

-- the bound holds
pub bounds : (samples : List Sample) (phase done : ℕ) → energy samples phase ≤ bound samples phase done
unfolding energy phase_correlation
bounds samples phase done =
    let x = sum_of (despread phase (take done samples)) in
    let y = sum_of (despread (phase + done) (drop done samples)) in
    let i = reach x.i y.i (magnitudes (drop done samples)) (rest_i (phase + done) (drop done samples)) in
    let q = reach x.q y.q (magnitudes (drop done samples)) (rest_q (phase + done) (drop done samples)) in
    let both : norm (plus x y) ≤ bound samples phase done = omega arith in
    rw (parted samples phase done) both

-- A BOUND NEVER RISES
magnitudes_parted : (samples : List Sample) (n : ℕ) →
    magnitudes samples ≡ magnitudes (take n samples) + magnitudes (drop n samples)
magnitudes_parted [] zero = refl
magnitudes_parted [] (suc n) = refl
magnitudes_parted (s ∷ samples) zero = omega arith
magnitudes_parted (s ∷ samples) (suc n) =
    let rest = magnitudes_parted samples n in
    omega (arith, rest)

chunk_i : (samples : List Sample) (phase : ℕ) → unsigned_abs (phase_correlation samples phase).i ≤ magnitudes samples
unfolding phase_correlation
chunk_i samples phase = rest_i phase samples

chunk_q : (samples : List Sample) (phase : ℕ) → unsigned_abs (phase_correlation samples phase).q ≤ magnitudes samples
unfolding phase_correlation
chunk_q samples phase = rest_q phase samples

nearer : (a b : ℤ) (all some left : ℕ) → unsigned_abs b ≤ some → all ≡ some + left →
    square_of (unsigned_abs (a +ℤ b) + left) ≤ square_of (unsigned_abs a + all)
nearer a b all some left h e =
    let w : unsigned_abs (a +ℤ b) + left ≤ unsigned_abs a + all = omega (arith, ints, h, e) in
    mul-le-mul w w

-- The bound on an energy never rises as more samples are taken into the sum: what they add to
-- either part of it is at most their magnitudes, by which the bound's other term falls.
bound_falls : (samples : List Sample) (phase k n : ℕ) → k ≤ length samples →
    bound samples phase (k + n) ≤ bound samples phase k
bound_falls samples phase k n le =
    let x = phase_correlation (take k samples) phase in
    let chunk = take n (drop k samples) in
    let y = phase_correlation chunk ((phase + k) % 32768) in
    let left = magnitudes (drop (k + n) samples) in
    let all : magnitudes (drop k samples) ≡ magnitudes chunk + left =
    magnitudes_parted (drop k samples) n
    ∙ ap (λ (zs : List Sample). magnitudes chunk + magnitudes zs) (drop-drop n k samples) in
    let i = nearer x.i y.i (magnitudes (drop k samples)) (magnitudes chunk) left
    (chunk_i chunk ((phase + k) % 32768)) all in
    let q = nearer x.q y.q (magnitudes (drop k samples)) (magnitudes chunk) left
    (chunk_q chunk ((phase + k) % 32768)) all in
    let both : square_of (unsigned_abs (plus x y).i + left) +
    square_of (unsigned_abs (plus x y).q + left) ≤ bound samples phase k = omega arith in
    rw (chunk_more samples phase k n le) both

-- where the bound before the last chunk isn't below the limit, none is
pub none_below : (samples : List Sample) (phase limit last : ℕ) → length samples ≤ 64 * last + 64 →
    limit ≤ bound samples phase (64 * last) → HasNoBoundBelow samples phase limit
none_below samples phase limit last all here j lt =
    let place : 64 * j + 64 * (last - j) ≡ 64 * last = omega (arith, all, lt) in
    let falls : bound samples phase (64 * last) ≤ bound samples phase (64 * j) =
    subst (λ (n : ℕ). bound samples phase n ≤ bound samples phase (64 * j)) place
    (bound_falls samples phase (64 * j) (64 * (last - j)) (omega (arith, lt))) in
    omega (arith, here, falls)

-- the bound that the program looks at
pub bound_is : (samples : List Sample) (phase k tail found : ℕ) (sum : Pair) →
    sum ≡ phase_correlation (take k samples) phase → tail ≡ magnitudes (drop k samples)
    → found ≡ square_of (unsigned_abs sum.i + tail) + square_of (unsigned_abs sum.q + tail) →
    found ≡ bound samples phase k
bound_is samples phase k tail found sum e f is =
    is ∙ ap (λ (x : Pair × ℕ). square_of (unsigned_abs x.0.i + x.1) +
    square_of (unsigned_abs x.0.q + x.1)) (λ i. (e i, f i))

-- no samples
pub none_left : (samples : List Sample) (phase limit : ℕ) → length samples ≡ 0 →
    (0 ≡ energy samples phase) × HasNoBoundBelow samples phase limit
unfolding energy phase_correlation
none_left [] phase limit e = (refl, λ j lt. absurd (omega (arith, lt)))
none_left (s ∷ samples) phase limit e = absurd (omega (arith, e))

-- THE SUM SO FAR
pub none_added : (samples : List Sample) (phase : ℕ) → IsSumOf samples phase 0 origin
none_added samples phase =
    record { value = sym (nothing_yet samples phase); i_bound = omega arith; q_bound = omega arith }

-- the step of the loop over blocks of chunks
pub sum_more : (samples rest : List Sample) (phase j chunks : ℕ) (sum part : Pair) (i q : ℤ) →
    64 * j ≤ length samples → rest ≡ drop (64 * j) samples → IsSumOf samples phase (64 * j) sum →
    part ≡ phase_correlation (take (64 * chunks) rest) ((phase + 64 * j) % 32768) →
    unsigned_abs part.i ≤ 65536 * (64 * chunks) → unsigned_abs part.q ≤ 65536 * (64 * chunks) →
    i ≡ sum.i +ℤ part.i → q ≡ sum.q +ℤ part.q →
    IsSumOf samples phase (64 * (j + chunks)) (record { i = i; q = q })
sum_more samples rest phase j chunks sum part i q le is so_far added near_i near_q ei eq =
    let place : 64 * j + 64 * chunks ≡ 64 * (j + chunks) = omega arith in
    let block = λ (xs : List Sample).
    phase_correlation (take (64 * chunks) xs) ((phase + 64 * j) % 32768) in
    record {
      value = plus_is sum part i q ei eq
          ∙ ap (λ (x : Pair). plus x part) so_far.value
          ∙ ap (plus (phase_correlation (take (64 * j) samples) phase)) (added ∙ ap block is)
          ∙ sym (chunk_more samples phase (64 * j) (64 * chunks) le)
          ∙ ap (λ (m : ℕ). phase_correlation (take m samples) phase) place;
      i_bound = far sum.i part.i i _ _ _ ei so_far.i_bound near_i (omega arith);
      q_bound = far sum.q part.q q _ _ _ eq so_far.q_bound near_q (omega arith);
    }
  where
    far : (a b c : ℤ) (m n k : ℕ) → c ≡ a +ℤ b → unsigned_abs a ≤ m → unsigned_abs b ≤ n →
        k ≡ m + n → unsigned_abs c ≤ k
    far a b c m n k e h g is = omega (arith, ints, e, h, g, is)

whole_parted : (samples : List Sample) (phase done : ℕ) →
    plus (phase_correlation (take done samples) phase) (phase_correlation (drop done samples) (phase + done)) ≡
    phase_correlation samples phase
unfolding phase_correlation
whole_parted samples phase done = sym (parted samples phase done)

-- the last chunk is added
pub sum_whole : (samples : List Sample) (phase done : ℕ) (sum part all : Pair) → IsSumOf samples phase done sum →
    part ≡ phase_correlation (drop done samples) ((phase + done) % 32768) → all ≡ plus sum part →
    norm all ≡ energy samples phase
unfolding energy
sum_whole samples phase done sum part all so_far added is =
    ap norm
    (is
    ∙ ap (λ (x : Pair). plus x part) so_far.value
    ∙ ap (plus (phase_correlation (take done samples) phase))
    (added ∙ correlation_mod (drop done samples) (phase + done))
    ∙ whole_parted samples phase done)
