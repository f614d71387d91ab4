-- What is gathered number by number comes in order.
use Rattle.clean_link.proofs.Common.{filter_ext_places, ◌≡◌, ℕ, zero, suc, ◌+◌, ◌-◌, ◌*◌, ◌<◌, ◌≤◌, ◌&&◌, ◌==◌, ◌≢◌, ⊎_elim, ◌⊎◌, Bool, ◌∷◌}
use Rattle.clean_link.proofs.Common.{true, false, cond, List, ◌++◌, map, filter, refl, sym, ap, ◌∙◌, arith, nat_lt, append_assoc, flat_map}
use Rattle.clean_link.proofs.Common.{lt-ltb, le-ltb, ne_eqb, eq-eqb, cases_order, cases_Bool, append-nil, filter-append, flat_map-append}
use Rattle.clean_link.proofs.Common.{places, places-none, places-more, filter_none_places, flat_map-next, flat_map-zero, length, Some, mark}
use Rattle.clean_link.proofs.Common.{is_some, and_parts, eqb-true, false_from_ne_true, Sample, first_of, marks_at, mark_before, is_in_file}
use Rattle.clean_link.proofs.Common.{known_at, heard_at, events_of, sync_events_at, IsTimed, Tuning, sync_stream, sync_bound, Event, Stream}
use Rattle.clean_link.proofs.Common.{known_between, known_le, mark_is, filter_enough, flat_map_ext_places, flat_map_ext_filter, frame_chips}
use Rattle.clean_link.proofs.Common.{known_now, [], filter_all_places}
use Rattle.heard_events.proofs.Arrivals.{and_none}

-- ---- by key
abbrev pub at_key : (ℕ → Bool) → (ℕ → ℕ) → ℕ → ℕ → Bool
at_key P key n k = P k && key k == n

abbrev pub below_key : (ℕ → Bool) → (ℕ → ℕ) → ℕ → ℕ → Bool
below_key P key n k = P k && nat_lt (key k) n

-- later numbers have no lesser keys
pub record IsRising (P : ℕ → Bool) (key : ℕ → ℕ) : Type 0 where
  pub rises : (i j : ℕ) → i < j → P i ≡ true → P j ≡ true → key i ≤ key j

places-next : (n : ℕ) → places (suc n) ≡ places n ++ n ∷ []
places-next n = let e : n + 1 ≡ suc n = omega arith in rw e at (places-more n)

filter_push : (f : ℕ → Bool) (n : ℕ) → filter f (places (suc n)) ≡ filter f (places n) ++ cond (f n) (n ∷ []) []
filter_push f n = ap (filter f) (places-next n) ∙ filter-append f (places n) (n ∷ [])

filter_zero : (f : ℕ → Bool) → filter f (places 0) ≡ []
filter_zero f = ap (filter f) places-none

-- none of the earlier numbers has the key, where number b has a lesser one
none_at : (P : ℕ → Bool) (key : ℕ → ℕ) (n b : ℕ) → IsRising P key → P b ≡ true → key b < n →
    filter (at_key P key n) (places b) ≡ []
none_at P key n b rising there less =
    filter_none_places (at_key P key n) b
    (λ k lt. and_none (P k) (key k == n)
    (λ p. ne_eqb (key k) n (λ e. let most = rising.rises k b lt p there in
    omega (arith, most, e, less))))

ends_none : (a c : List ℕ) → (a ++ []) ++ (c ++ []) ≡ (a ++ c) ++ []
ends_none a c = simp append-nil refl

ends_less : (a y : List ℕ) → (a ++ y) ++ [] ≡ (a ++ []) ++ y
ends_less a y = simp append-nil refl

-- Numbers with a key of at most n are those with a lesser one, followed by those whose key is n. By
-- induction over the bound: keys never fall, so where the last number's key is below n no earlier
-- one has the key n, and it is put after the lesser ones alone.
split_key : (P : ℕ → Bool) (key : ℕ → ℕ) (n b : ℕ) → IsRising P key → filter (below_key P key (suc n)) (places b) ≡
    filter (below_key P key n) (places b) ++ filter (at_key P key n) (places b)
split_key P key n zero rising =
    rw (filter_zero (below_key P key (suc n)), filter_zero (below_key P key n), filter_zero (at_key P key n)) refl
split_key P key n (suc b) rising =
    let a = filter (below_key P key n) (places b) in
    let c = filter (at_key P key n) (places b) in
    let before = split_key P key n b rising in
    filter_push (below_key P key (suc n)) b
    ∙ ap (λ (l : List ℕ). l ++ cond (below_key P key (suc n) b) (b ∷ []) []) before
    ∙ ⊎_elim
    (λ (there : P b ≡ true). ⊎_elim
    (λ (e : key b ≡ n).
    let u = lt-ltb (key b) (suc n) (omega (arith, e)) in
    let v = le-ltb (key b) n (omega (arith, e)) in
    let w = eq-eqb (key b) n e in
    rw (there, u)
    (sym (rw (filter_push (below_key P key n) b, filter_push (at_key P key n) b, there, v, w)
    (ap (λ (l : List ℕ). l ++ (c ++ b ∷ [])) (append-nil a) ∙
    sym (append_assoc a c (b ∷ []))))))
    (λ (o : (key b < n) ⊎ (n < key b)). ⊎_elim
    (λ (less : key b < n).
    let u = lt-ltb (key b) (suc n) (omega (arith, less)) in
    let v = lt-ltb (key b) n less in
    let w = ne_eqb (key b) n (λ e. omega (arith, less, e)) in
    let none : c ≡ [] = none_at P key n b rising there less in
    rw (there, u, none)
    (sym (rw (
      filter_push (below_key P key n) b,
      filter_push (at_key P key n) b,
      there,
      v,
      w,
      none,
    ) (ends_less a (b ∷ [])))))
    (λ (over : n < key b).
    let u = le-ltb (key b) (suc n) (omega (arith, over)) in
    let v = le-ltb (key b) n (omega (arith, over)) in
    let w = ne_eqb (key b) n (λ e. omega (arith, over, e)) in
    rw (there, u)
    (sym (rw (filter_push (below_key P key n) b, filter_push (at_key P key n) b, there, v, w) (ends_none a c))))
    o)
    (cases_order (key b) n))
    (λ (gone : P b ≡ false). rw gone
    (sym (rw (filter_push (below_key P key n) b, filter_push (at_key P key n) b, gone) (ends_none a c))))
    (cases_Bool (P b))

-- all events, number by number
pub in_order : {X : Type 0} (P : ℕ → Bool) (key : ℕ → ℕ) (g : ℕ → List X) (b n : ℕ) → IsRising P key →
    flat_map (λ m. flat_map g (filter (at_key P key m) (places b))) (places n) ≡
    flat_map g (filter (below_key P key n) (places b))
in_order P key g b zero rising =
    flat_map-zero (λ m. flat_map g (filter (at_key P key m) (places b)))
    ∙ sym (ap (flat_map g)
    (filter_none_places (below_key P key 0) b
    (λ k lt. and_none (P k) (nat_lt (key k) 0) (λ p. le-ltb (key k) 0 (omega arith)))))
in_order {X} P key g b (suc n) rising =
    let each = λ (m : ℕ). flat_map g (filter (at_key P key m) (places b)) in
    flat_map-next each n
    ∙ ap (λ (l : List X). l ++ each n) (in_order P key g b n rising)
    ∙ sym (flat_map-append g (filter (below_key P key n) (places b)) (filter (at_key P key n) (places b)))
    ∙ ap (flat_map g) (sym (split_key P key n b rising))

-- ---- by blocks
-- a filter as a choice at each number
abbrev pub given_where : {X : Type 0} → (ℕ → Bool) → (ℕ → List X) → ℕ → List X
given_where P g k = cond (P k) (g k) []

pub flat_map-filter : {X : Type 0} (P : ℕ → Bool) (g : ℕ → List X) (ks : List ℕ) →
    flat_map g (filter P ks) ≡ flat_map (given_where P g) ks
flat_map-filter P g [] = refl
flat_map-filter {X} P g (k ∷ ks) =
    let rest = flat_map-filter P g ks in
    ⊎_elim (λ (e : P k ≡ true). rw e (ap (λ (l : List X). g k ++ l) rest)) (λ (e : P k ≡ false). rw e rest)
    (cases_Bool (P k))

-- a list of one thing for each
pub one_each : {A B : Type 0} (f : A → B) (xs : List A) → map f xs ≡ flat_map (λ x. f x ∷ []) xs
one_each f [] = refl
one_each {A} {B} f (x ∷ xs) = ap (λ (ys : List B). f x ∷ ys) (one_each f xs)

pub map-filter : {X : Type 0} (P : ℕ → Bool) (f : ℕ → X) (ks : List ℕ) →
    map f (filter P ks) ≡ flat_map (given_where P (λ k. f k ∷ [])) ks
map-filter P f ks = one_each f (filter P ks) ∙ flat_map-filter P (λ k. f k ∷ []) ks

-- numbers that give nothing
pub quiet : {X : Type 0} (g : ℕ → List X) (a d : ℕ) → ((i : ℕ) → i < d → g (a + i) ≡ []) →
    flat_map g (places (a + d)) ≡ flat_map g (places a)
quiet g a zero none = let e : a + 0 ≡ a = omega arith in rw e refl
quiet {X} g a (suc d) none =
    let e : a + suc d ≡ suc (a + d) = omega arith in
    rw e (flat_map-next g (a + d) ∙
    ap (λ (l : List X). flat_map g (places (a + d)) ++ l) (none d (omega arith)) ∙
    append-nil _ ∙ quiet g a d (λ i lt. none i (omega (arith, lt))))

-- numbers moved up, in front of which nothing is given
pub moved_up : {X : Type 0} (g h : ℕ → List X) (a b : ℕ) → ((i : ℕ) → i < a → h i ≡ []) →
    ((k : ℕ) → h (a + k) ≡ g k) → flat_map h (places (a + b)) ≡ flat_map g (places b)
moved_up g h a zero none same =
    let e : 0 + a ≡ a + 0 = omega arith in
    ap (λ n. flat_map h (places n)) (sym e) ∙
    quiet h 0 a (λ i lt. let z : 0 + i ≡ i = omega arith in rw z (none i lt)) ∙
    flat_map-zero h ∙ sym (flat_map-zero g)
moved_up {X} g h a (suc b) none same =
    let e : a + suc b ≡ suc (a + b) = omega arith in
    rw e (flat_map-next h (a + b) ∙
    ap (λ (l : List X). l ++ h (a + b)) (moved_up g h a b none same) ∙
    ap (λ (l : List X). flat_map g (places b) ++ l) (same b) ∙ sym (flat_map-next g b))

-- blocks of f numbers, of which only number e gives anything
pub blocks : {X : Type 0} (g h : ℕ → List X) (f e n : ℕ) → e < f → ((q : ℕ) → g (q * f + e) ≡ h q) →
    ((q w : ℕ) → w < f → w ≢ e → g (q * f + w) ≡ []) → flat_map g (places (n * f)) ≡ flat_map h (places n)
blocks g h f e zero low here none =
    let z : zero * f ≡ 0 = omega arith in
    rw z (flat_map-zero g ∙ sym (flat_map-zero h))
blocks {X} g h f e (suc n) low here none =
    let whole : suc n * f ≡ suc (n * f + e) + (f - suc e) = omega (arith, low) in
    rw whole
    (quiet g (suc (n * f + e)) (f - suc e)
    (λ i lt. let p : suc (n * f + e) + i ≡ n * f + suc (e + i) = omega arith in
    rw p (none n (suc (e + i)) (omega (arith, lt)) (λ s. omega (arith, s))))
    ∙ flat_map-next g (n * f + e)
    ∙ ap (λ (l : List X). l ++ g (n * f + e))
    (quiet g (n * f) e (λ i lt. none n i (omega (arith, lt, low)) (λ s. omega (arith, s, lt))) ∙
    blocks g h f e n low here none)
    ∙ ap (λ (l : List X). flat_map h (places n) ++ l) (here n)
    ∙ sym (flat_map-next h n))

-- ---- the frames of any stream, in the order in which they are known

-- frames that end within n samples have numbers below a bound
abbrev pub IsBound : Stream → (ℕ → ℕ) → Type 0
IsBound s bound = (n k : ℕ) → frame_chips s.form * (k + 1) ≤ n → k < bound n

-- exactly the first `frames` frames lie in a file
pub record HasFrames (count : ℕ) (s : Stream) (frames : ℕ) : Type 0 where
  pub inside : (k : ℕ) → k < frames → is_in_file count s k ≡ true
  pub outside : (k : ℕ) → frames ≤ k → is_in_file count s k ≡ false

module _ {count low : ℕ} (s : Stream) (timed : IsTimed count s low) (bound : ℕ → ℕ)
    (enough : IsBound s bound) where
  -- a frame that is known within n samples has an early number
  known_early : (n k : ℕ) → is_in_file count s k ≡ true → known_at count s k ≤ n → k < bound n
  known_early n k there before =
      let early = timed.early k in
      let between = known_between s timed k there in
      enough n k (omega (arith, early, between.low, before))

  -- a frame that is known at n
  now_is : (n k : ℕ) → at_key (is_in_file count s) (known_at count s) n k ≡ true →
      (is_in_file count s k ≡ true) × (known_at count s k ≡ n)
  now_is n k h =
      let parts = and_parts (is_in_file count s k) (known_at count s k == n) h in
      (parts.0, eqb-true (known_at count s k) n parts.1)

  -- what the frames give that are known at n, over the frames of the whole file
  given_now : {X : Type 0} (f : ℕ → ℕ → List X) (n : ℕ) → flat_map (f n) (known_now count s n (bound n))
      ≡ flat_map (λ k. f (known_at count s k) k)
      (filter (at_key (is_in_file count s) (known_at count s) n) (places (bound count)))
  given_now {X} f n =
      let now = at_key (is_in_file count s) (known_at count s) n in
      let g : ℕ → List X = λ k. f (known_at count s k) k in
      flat_map_ext_filter now (f n) g (places (bound n)) (λ k h. ap (λ (i : ℕ). f i k) (sym (now_is n k h).1))
      ∙ ap (flat_map g)
      (filter_enough now (bound n) (bound count)
      (λ k past. false_from_ne_true (now k)
      (λ h.
      let is = now_is n k h in
      let early = known_early n k is.0 (omega (arith, is.1)) in
      omega (arith, early, past)))
      (λ k past. false_from_ne_true (now k)
      (λ h.
      let is = now_is n k h in
      let early = known_early count k is.0 (known_between s timed k is.0).most in
      omega (arith, early, past))))

  -- later frames are known no sooner, and all of them by the file's end
  rising : IsRising (is_in_file count s) (known_at count s)
  rising = record { rises = λ i j less there there'. known_le s timed i j there there' (omega arith) }

  all_known : (k : ℕ) → below_key (is_in_file count s) (known_at count s) (count + 1) k ≡ is_in_file count s k
  all_known k = ⊎_elim
      (λ (there : is_in_file count s k ≡ true).
      let between = known_between s timed k there in
      let below = lt-ltb (known_at count s k) (count + 1) (omega (arith, between.most)) in
      rw (there, below) refl)
      (λ (gone : is_in_file count s k ≡ false). rw gone refl) (cases_Bool (is_in_file count s k))

  -- what the frames in the file give, number of samples by number of samples
  pub given_in_order : {X : Type 0} (f : ℕ → ℕ → List X) →
      flat_map (λ n. flat_map (f n) (known_now count s n (bound n))) (places (count + 1))
      ≡ flat_map (λ k. f (known_at count s k) k) (filter (is_in_file count s) (places (bound count)))
  given_in_order {X} f =
      let g : ℕ → List X = λ k. f (known_at count s k) k in
      let inside = is_in_file count s in
      let known = known_at count s in
      flat_map_ext_places (λ n. flat_map (f n) (known_now count s n (bound n)))
      (λ n. flat_map g (filter (at_key inside known n) (places (bound count)))) (count + 1) (λ n below. given_now f n)
      ∙ in_order inside known g (bound count) (count + 1) rising
      ∙ ap (flat_map g)
      (filter_ext_places (below_key inside known (count + 1)) inside (bound count) (λ k below. all_known k))

  -- and those frames are the first `frames` ones
  pub frames_first : (frames : ℕ) → HasFrames count s frames →
      filter (is_in_file count s) (places (bound count)) ≡ places frames
  frames_first frames has =
      filter_enough (is_in_file count s) (bound count) frames
      (λ k past. false_from_ne_true (is_in_file count s k)
      (λ there.
      let early = known_early count k there (known_between s timed k there).most in
      omega (arith, early, past)))
      has.outside
      ∙ filter_all_places (is_in_file count s) frames has.inside

-- ---- what each sync frame gives
abbrev pub frame_events : Tuning → List Sample → ℕ → List Event
frame_events t samples k = events_of (known_at t.count (sync_stream t) k) (heard_at t samples k)

abbrev pub in_file : Tuning → ℕ → Bool
in_file t k = is_in_file t.count (sync_stream t) k

abbrev pub known : Tuning → ℕ → ℕ
known t k = known_at t.count (sync_stream t) k

-- more frames than the file has
abbrev pub frames_of : Tuning → List ℕ
frames_of t = places (sync_bound t.count)

sync_enough : (t : Tuning) → IsBound (sync_stream t) sync_bound
sync_enough t n k ends = omega (arith, ends)

pub events_by_frames : {low : ℕ} (t : Tuning) → IsTimed t.count (sync_stream t) low → (samples : List Sample) →
    flat_map (sync_events_at t samples) (places (t.count + 1)) ≡
    flat_map (frame_events t samples) (filter (in_file t) (frames_of t))
unfolding sync_events_at
events_by_frames t timed samples =
    given_in_order (sync_stream t) timed sync_bound (sync_enough t) (λ n k. events_of n (heard_at t samples k))

-- ---- the mark
-- the mark of all samples is the first of the frames' marks
pub mark_of_all : {low : ℕ} (t : Tuning) → IsTimed t.count (sync_stream t) low → (samples : List Sample) →
    mark t samples t.count ≡ first_of (flat_map (marks_at t samples) (filter (in_file t) (frames_of t)))
unfolding mark_before
mark_of_all t timed samples =
    mark_is t timed samples t.count (sync_bound t.count)
    (λ k below there. (known_between (sync_stream t) timed k there).most)
    (λ k past there.
    let early = known_early (sync_stream t) timed sync_bound (sync_enough t) t.count k there
    (known_between (sync_stream t) timed k there).most in
    absurd (omega (arith, early, past)))

-- the first of joined pieces is the first of one of them
first_of_two : {A : Type 0} (R : Type 0) (xs ys : List A) (x : A) → first_of (xs ++ ys) ≡ Some x →
    (first_of xs ≡ Some x → R) → (first_of ys ≡ Some x → R) → R
first_of_two R [] ys x h one other = other h
first_of_two R (y ∷ xs) ys x h one other = one h

pub first_among : {A : Type 0} (P : ℕ → Bool) (f : ℕ → List A) (ks : List ℕ) (x : A) →
    first_of (flat_map f (filter P ks)) ≡ Some x → (k : ℕ) × ((P k ≡ true) × (first_of (f k) ≡ Some x))
first_among P f [] x h = absurd (cc)
first_among P f (k ∷ ks) x h =
    ⊎_elim
    (λ (there : P k ≡ true). first_of_two _ (f k) (flat_map f (filter P ks)) x (rw there at h)
    (λ e. (k, (there, e))) (λ e. first_among P f ks x e))
    (λ (gone : P k ≡ false). first_among P f ks x (rw gone at h)) (cases_Bool (P k))

-- there is a first just where there is one at all
pub first_there : {A : Type 0} (xs : List A) → is_some (first_of xs) ≡ nat_lt 0 (length xs)
first_there [] = refl
first_there (x ∷ xs) = sym (lt-ltb 0 (length (x ∷ xs)) (omega arith))
