-- Numbered things, some of which lie in a file, and each of which is known at a number of samples: frames, and what they
-- complete.
use Rattle.heard_events.proofs.Common.{◌≡◌, ℕ, ◌+◌, ◌<◌, ◌≤◌, ◌==◌, Bool, true, false, ◌&&◌, List, [], ◌∷◌, ◌++◌, refl, ap, ◌∙◌, arith, inl}
use Rattle.heard_events.proofs.Common.{nat_le, inr, flat_map, and_parts, and_from, and_left, le-leb, lt-leb, leb-true, cases_lt, eqb-true}
use Rattle.heard_events.proofs.Common.{eq-eqb, flat_map-append, places, Stream, is_in_file, known_at, filter-places-more, filter_ext_places}
use Rattle.heard_events.proofs.Common.{filter_none_places, filter_first_places, flat_map_ext_filter, zero, suc, sym, cases_Bool, IsTimed}
use Rattle.heard_events.proofs.Common.{places-more, filter-append, stream_end, ne_eqb, leb-false, length, Sample, frame_own_bits, own_bits}
use Rattle.heard_events.proofs.Common.{span_first, span_frames, ◌-◌, known_between, known_le, outside_low, append-nil}
use Rattle.std.specs.List.{filter}
use Rattle.rake_finger.proofs.Spans.{span_softs_sooner}
use Rattle.chip_core.proofs.Ranges as ranges

-- which lie in the file, at how many samples each is known, and a bound above the numbers that are
-- known within n samples
pub record Arrivals : Type 0 where
  pub inside : ℕ → Bool
  pub known : ℕ → ℕ
  pub bound : ℕ → ℕ

-- the frames of a stream
abbrev pub frames_in : ℕ → Stream → (ℕ → ℕ) → Arrivals
frames_in count s bound = record { inside = is_in_file count s; known = known_at count s; bound = bound }

-- whether thing k is known at n
abbrev pub is_now : Arrivals → ℕ → ℕ → Bool
is_now a n k = a.inside k && a.known k == n

-- those that are, and those of them from a number on
abbrev pub now : Arrivals → ℕ → List ℕ
now a n = filter (is_now a n) (places (a.bound n))

abbrev pub is_left : Arrivals → ℕ → ℕ → ℕ → Bool
is_left a next n k = nat_le next k && is_now a n k

abbrev pub left_from : Arrivals → ℕ → ℕ → List ℕ
left_from a next n = filter (is_left a next n) (places (a.bound n))

-- none is known just now
abbrev pub NoneNow : Arrivals → ℕ → Type 0
NoneNow a n = (k : ℕ) → a.inside k ≡ true → ¬ (a.known k ≡ n)

-- TWO TESTS
-- where the second is another one, or fails, with the first; where it fails without the first; and
-- where it passes with the first
and_under : (b c d : Bool) → (b ≡ true → c ≡ d) → (b && c) ≡ (b && d)
and_under true c d h = h refl
and_under false c d h = refl

pub and_none : (b c : Bool) → (b ≡ true → c ≡ false) → (b && c) ≡ false
and_none true c h = h refl
and_none false c h = refl

and_second : (b c : Bool) → (b ≡ false → c ≡ false) → (b && c) ≡ c
and_second true c h = refl
and_second false c h = sym (h refl)

and_first : (b c : Bool) → (b ≡ true → c ≡ true) → (b && c) ≡ b
and_first true c h = h refl
and_first false c h = refl

-- WHAT IS KNOWN NOW, AND WHAT IS LEFT OF IT
module _ (a : Arrivals) where
  pub now_parts : (n k : ℕ) → is_now a n k ≡ true → (a.inside k ≡ true) × (a.known k ≡ n)
  now_parts n k both =
      let parts = and_parts (a.inside k) (a.known k == n) both in
      (parts.0, eqb-true (a.known k) n parts.1)

  not_now : (n k : ℕ) → (a.inside k ≡ true → ¬ (a.known k ≡ n)) → is_now a n k ≡ false
  not_now n k h = and_none (a.inside k) (a.known k == n) (λ inside. ne_eqb (a.known k) n (h inside))

  pub none_now : (n : ℕ) → NoneNow a n → now a n ≡ []
  none_now n none = filter_none_places (is_now a n) (a.bound n) (λ k below. not_now n k (none k))

  -- where none before `next` is known just now, all are left
  pub all_left : (next n : ℕ) → ((k : ℕ) → k < next → a.inside k ≡ true → ¬ (a.known k ≡ n)) → left_from a next n ≡ now a n
  all_left next n none =
      filter_ext_places (is_left a next n) (is_now a n) (a.bound n)
      (λ k below.
      and_second (nat_le next k) (is_now a n k) (λ early. not_now n k (none k (leb-false next k early))))

  -- where none from `next` on is, none is left
  pub none_left : (next n : ℕ) → ((k : ℕ) → next ≤ k → a.inside k ≡ true → ¬ (a.known k ≡ n)) → left_from a next n ≡ []
  none_left next n none =
      filter_none_places (is_left a next n) (a.bound n)
      (λ k below.
      and_none (nat_le next k) (is_now a n k) (λ late. not_now n k (none k (leb-true next k late))))

-- WHAT IS KNOWN BY A NUMBER OF SAMPLES
-- each before a number that lies in the file is known by n, each from it on at n or later
abbrev pub AreKnown : Arrivals → ℕ → ℕ → Type 0
AreKnown a next n = (k : ℕ) → k < next → a.inside k ≡ true → a.known k ≤ n

abbrev pub AreLater : Arrivals → ℕ → ℕ → Type 0
AreLater a next n = (k : ℕ) → next ≤ k → a.inside k ≡ true → n ≤ a.known k

-- so none is known between the two
pub none_between : (a : Arrivals) (next low high n : ℕ) → AreKnown a next low →
    AreLater a next high → low < n → n < high → NoneNow a n
none_between a next low high n before following past less k inside e =
    elim (cases_lt k next) [
      | inl below ↦ let known = before k below inside in omega (arith, known, e, past)
      | inr above ↦ let known = following k above inside in omega (arith, known, e, less)
    ]

-- whether thing k is known by n
abbrev pub is_by : Arrivals → ℕ → ℕ → Bool
is_by a n k = a.inside k && nat_le (a.known k) n

pub by_parts : (a : Arrivals) (n k : ℕ) → is_by a n k ≡ true → (a.inside k ≡ true) × (a.known k ≤ n)
by_parts a n k both =
    let parts = and_parts (a.inside k) (nat_le (a.known k) n) both in
    (parts.0, leb-true (a.known k) n parts.1)

-- each is known no later than those after it, and there are enough numbers
pub record AreOrdered (a : Arrivals) : Type 0 where
  pub ordered : (j k : ℕ) → a.inside j ≡ true → a.inside k ≡ true → j < k → a.known j ≤ a.known k
  pub enough : (n : ℕ) → AreLater a (a.bound n) (n + 1)

-- so are the frames of a stream
pub frames_ordered : {count low : ℕ} (s : Stream) → IsTimed count s low → (bound : ℕ → ℕ) →
    ((k n : ℕ) → stream_end s k ≤ n → k < bound n) → AreOrdered (frames_in count s bound)
frames_ordered {count} s timed bound enough = record {
  ordered = λ j k ij ik less. known_le s timed j k ij ik (omega (arith, less));
  enough = λ n k above inside.
      let low = (known_between s timed k inside).low in
      elim (cases_lt n (known_at count s k)) [
        | inl late ↦ omega (arith, late)
        | inr most ↦
            let below = enough k n (omega (arith, low, most)) in absurd (omega (arith, below, above))
      ];
}

module _ (a : Arrivals) (o : AreOrdered a) where
  -- The next thing, where it is known just now, is the first of those that are left: those before
  -- it are not left, and it is below the bound, since all from the bound on are known later.
  pub next_left : (next n : ℕ) → a.inside next ≡ true → a.known next ≡ n → left_from a next n ≡ next ∷ left_from a (next + 1) n
  next_left next n inside known =
      let here : is_now a n next ≡ true =
      and_from (a.inside next) (a.known next == n) inside (eq-eqb (a.known next) n known) in
      let below : next < a.bound n =
      elim (cases_lt next (a.bound n)) [
        | inl less ↦ less
        | inr above ↦ let late = o.enough n next above inside in absurd (omega (arith, late, known))
      ] in
      let first = filter_first_places (is_left a next n) (a.bound n) next below
      (and_from (nat_le next next) (is_now a n next) (le-leb next next (omega arith)) here)
      (λ k less. and_left (nat_le next k) (is_now a n k) (lt-leb next k less)) in
      let rest = filter_ext_places (λ k. nat_le (next + 1) k && is_left a next n k) (is_left a (next + 1) n) (a.bound n)
      (λ k less.
      and_under (nat_le (next + 1) k) (is_left a next n k) (is_now a n k)
      (λ past.
      let above = leb-true (next + 1) k past in
      rw (le-leb next k (omega (arith, above))) refl)) in
      first ∙ ap (λ (ks : List ℕ). next ∷ ks) rest

  module _ (n : ℕ) where
    -- those known by n are those before a number, where the others are known later
    pub known_is : (next : ℕ) → AreKnown a next n → AreLater a next (n + 1) →
        filter (is_by a n) (places (a.bound n)) ≡ filter a.inside (places next)
    known_is next before following =
        let past : (from : ℕ) → AreLater a from (n + 1) → (k : ℕ) → from ≤ k → is_by a n k ≡ false =
        λ from later k above. and_none (a.inside k) (nat_le (a.known k) n)
        (λ here. let late = later k above here in lt-leb (a.known k) n (omega (arith, late))) in
        ranges.filter_enough (is_by a n) (a.bound n) next (past (a.bound n) (o.enough n)) (past next following)
        ∙ filter_ext_places (is_by a n) a.inside next
        (λ k below.
        and_first (a.inside k) (nat_le (a.known k) n) (λ here. le-leb (a.known k) n (before k below here)))

    -- all up to one that is known are known
    pub known_with : (k : ℕ) → a.inside k ≡ true → a.known k ≤ n → AreKnown a (k + 1) n
    known_with k here most j below inside =
        elim (cases_lt j k) [
          | inl less ↦ let le = o.ordered j k inside here less in omega (arith, le, most)
          | inr more ↦
              let same : j ≡ k = omega (arith, below, more) in
              let e = ap a.known same in
              omega (arith, e, most)
        ]

    part : (b : ℕ) → AreLater a b (n + 1) → (next : ℕ) × (AreKnown a next n × AreLater a next (n + 1))
    part zero following = (0, (λ k below inside. absurd (omega (arith, below)), following))
    part (suc b) following =
        elim (cases_Bool (is_by a n b)) [
          | inl both ↦
              let w = by_parts a n b both in
              (suc b, (λ j below. known_with b w.0 w.1 j (omega (arith, below)), following))
          | inr late ↦ part b
              (λ k above inside.
              elim (cases_lt b k) [
                | inl past ↦ following k (omega (arith, past)) inside
                | inr most ↦
                    let same : b ≡ k = omega (arith, above, most) in
                    let none : (a.inside k && nat_le (a.known k) n) ≡ false = ap (is_by a n) (sym same) ∙ late in
                    let past = leb-false (a.known k) n (rw inside at none) in
                    omega (arith, past)
              ])
        ]

    -- there is such a number
    pub parted : (next : ℕ) × (AreKnown a next n × AreLater a next (n + 1))
    parted = part (a.bound n) (o.enough n)

-- WHAT STAYS WHERE MORE SAMPLES FOLLOW
-- what each gives, from when it is known; what depends on those before a number, from when these are
-- known; and what is told of no more samples than there are
abbrev pub Stays : {A : Type 0} → Arrivals → (List Sample → ℕ → A) → Type 0
Stays a gives = (xs ys : List Sample) (k : ℕ) → a.inside k ≡ true → a.known k ≤ length xs →
    gives (xs ++ ys) k ≡ gives xs k

abbrev pub StaysBefore : {A : Type 0} → Arrivals → (List Sample → ℕ → A) → Type 0
StaysBefore a gives = (xs ys : List Sample) (next : ℕ) → AreKnown a next (length xs) →
    gives (xs ++ ys) next ≡ gives xs next

abbrev pub StaysWithin : {A : Type 0} → (List Sample → ℕ → A) → Type 0
StaysWithin told = (xs ys : List Sample) (n : ℕ) → n ≤ length xs → told (xs ++ ys) n ≡ told xs n

-- what depends on those up to one stays from when this one is known, without it or with it
module _ {A : Type 0} (a : Arrivals) (o : AreOrdered a) (gives : List Sample → ℕ → A)
    (stays : StaysBefore a gives) where
  pub stays_at : Stays a gives
  stays_at xs ys k inside known =
      stays xs ys k (λ j below. known_with a o (length xs) k inside known j (omega (arith, below)))

  pub stays_with : Stays a (λ xs k. gives xs (k + 1))
  stays_with xs ys k inside known = stays xs ys (k + 1) (known_with a o (length xs) k inside known)

-- so stays all that those before a number give, and all that is told of those that are known just now
module _ {E : Type 0} (a : Arrivals) where
  pub stays_before : (gives : List Sample → ℕ → List E) → Stays a gives →
      StaysBefore a (λ xs next. flat_map (gives xs) (filter a.inside (places next)))
  stays_before gives stays xs ys next known =
      ranges.flat_map_ext_filter_places a.inside (gives (xs ++ ys)) (gives xs) next
      (λ k below inside. stays xs ys k inside (known k below inside))

  pub stays_now : (gives : List Sample → ℕ → ℕ → List E) → ((n : ℕ) → Stays a (λ xs. gives xs n)) →
      StaysWithin (λ xs n. flat_map (gives xs n) (now a n))
  stays_now gives stays xs ys n h =
      flat_map_ext_filter (is_now a n) (gives (xs ++ ys) n) (gives xs n) (places (a.bound n))
      (λ k both.
      let parts = now_parts a n k both in
      stays n xs ys k parts.0 (omega (arith, parts.1, h)))

-- what those in the file before one give, with it
pub given_more : {E : Type 0} (inside : ℕ → Bool) (f : ℕ → List E) (k : ℕ) → inside k ≡ true →
    flat_map f (filter inside (places (k + 1))) ≡ flat_map f (filter inside (places k)) ++ f k
given_more inside f k here =
    let before = filter inside (places k) in
    ap (flat_map f) (filter-places-more inside k here)
    ∙ flat_map-append f before (k ∷ [])
    ∙ ap (λ (es : List _). flat_map f before ++ es) (append-nil (f k))

-- where it doesn't lie there they are those before it
pub given_less : (inside : ℕ → Bool) (k : ℕ) → inside k ≡ false →
    filter inside (places (k + 1)) ≡ filter inside (places k)
given_less inside k gone = rw (places-more k, filter-append, gone) (append-nil (filter inside (places k)))

-- THE FRAMES OF A STREAM
-- none lies in the file before the first that does
pub none_inside : {count low : ℕ} (s : Stream) → IsTimed count s low → (k : ℕ) → k ≤ low →
    filter (is_in_file count s) (places k) ≡ []
none_inside {count} s timed k h =
    filter_none_places (is_in_file count s) k (λ j below. outside_low s timed j (omega arith))

-- the own bits of a frame that is known stay where more samples follow
pub own_bits_sooner : {count low : ℕ} (s : Stream) → s.waits ≡ true → IsTimed count s low →
    (xs ys : List Sample) (k : ℕ) → is_in_file count s k ≡ true → known_at count s k ≤ length xs →
    frame_own_bits count (xs ++ ys) s k ≡ frame_own_bits count xs s k
unfolding frame_own_bits
own_bits_sooner {count} s waits timed xs ys k inside known =
    ap (own_bits s.channel (span_frames count s k) (k - span_first count s k))
    (span_softs_sooner s timed xs ys k waits inside known)
