-- Lists of numbers from a place on, filtered and joined.
use Rattle.chip_core.proofs.Common.{◌≡◌, ℕ, zero, suc, ◌+◌, ◌-◌, ◌<◌, ◌≤◌, Bool, true, false, ◌&&◌, List, [], ◌∷◌, ◌++◌, map, refl, sym, ap}
use Rattle.chip_core.proofs.Common.{◌∙◌, arith, nat_le, inl, inr, flat_map, filter, range_with_len, cases_Bool, le-leb, lt-leb, cases_order}
use Rattle.chip_core.proofs.Common.{cases_lt, append-nil, flat_map-append, places}
use Rattle.std.proofs.lemmas.List.Elements.{filter-append}
use Rattle.chip_core.proofs.Places.{places-more}

-- maps that agree from a place on, below its end
pub map_ext_range : {A : Type 0} (f g : ℕ → A) (a n : ℕ) → ((k : ℕ) → a ≤ k → k < a + n → f k ≡ g k) →
    map f (range_with_len a n) ≡ map g (range_with_len a n)
map_ext_range f g a zero h = refl
map_ext_range f g a (suc n) h =
    let here : f a ≡ g a = h a (omega arith) (omega arith) in
    let rest = map_ext_range f g (a + 1) n (λ k low high. h k (omega arith) (omega arith)) in
    cc

pub flat_map_ext_range : {A : Type 0} (f g : ℕ → List A) (a n : ℕ) → ((k : ℕ) → a ≤ k → k < a + n → f k ≡ g k) →
    flat_map f (range_with_len a n) ≡ flat_map g (range_with_len a n)
flat_map_ext_range f g a zero h = refl
flat_map_ext_range f g a (suc n) h =
    let here : f a ≡ g a = h a (omega arith) (omega arith) in
    let rest = flat_map_ext_range f g (a + 1) n (λ k low high. h k (omega arith) (omega arith)) in
    cc

-- filters that agree from a place on
pub filter_ext_range : (p q : ℕ → Bool) (a n : ℕ) → ((k : ℕ) → a ≤ k → k < a + n → p k ≡ q k) →
    filter p (range_with_len a n) ≡ filter q (range_with_len a n)
filter_ext_range p q a zero h = refl
filter_ext_range p q a (suc n) h =
    let here : p a ≡ q a = h a (omega arith) (omega arith) in
    let rest = filter_ext_range p q (a + 1) n (λ k low high. h k (omega arith) (omega arith)) in
    cc

pub filter_none_range : (p : ℕ → Bool) (a n : ℕ) → ((k : ℕ) → a ≤ k → k < a + n → p k ≡ false) →
    filter p (range_with_len a n) ≡ []
filter_none_range p a zero h = refl
filter_none_range p a (suc n) h =
    let here : p a ≡ false = h a (omega arith) (omega arith) in
    rw here (filter_none_range p (a + 1) n (λ k low high. h k (omega arith) (omega arith)))

-- Where the first of some places passes a test, the places that pass are that one and then those
-- after it that pass: asking of each place that it lie after this one leaves out just the first.
first_here : (p : ℕ → Bool) (a n m : ℕ) → a ≡ m → p m ≡ true → filter p (range_with_len a (suc n))
    ≡ m ∷ filter (λ k. nat_le (m + 1) k && p k) (range_with_len a (suc n))
first_here p a n m e here =
    let pa : p a ≡ true = rw e here in
    let past : nat_le (m + 1) a ≡ false = lt-leb (m + 1) a (omega arith) in
    let q : ℕ → Bool = λ k. nat_le (m + 1) k && p k in
    let rest : filter p (range_with_len (a + 1) n) ≡ filter q (range_with_len (a + 1) n) =
    filter_ext_range p q (a + 1) n
    (λ k l h.
    let below : nat_le (m + 1) k ≡ true = le-leb (m + 1) k (omega arith) in
    rw below refl) in
    rw (pa, past, ← rest) (ap (λ i. i ∷ filter p (range_with_len (a + 1) n)) e)

-- the first that passes
pub filter_first_range : (p : ℕ → Bool) (a n m : ℕ) → a ≤ m → m < a + n → p m ≡ true →
    ((k : ℕ) → a ≤ k → k < m → p k ≡ false) →
    filter p (range_with_len a n) ≡ m ∷ filter (λ k. nat_le (m + 1) k && p k) (range_with_len a n)
filter_first_range p a zero m low high here before = absurd (omega arith)
filter_first_range p a (suc n) m low high here before =
    elim (cases_order a m) [
      | inl e ↦ first_here p a n m e here
      | inr (inl less) ↦
          let pa : p a ≡ false = before a (omega arith) less in
          let past : nat_le (m + 1) a ≡ false = lt-leb (m + 1) a (omega arith) in
          let rest =
          filter_first_range p (a + 1) n m (omega arith) (omega arith) here (λ k l h. before k (omega arith) h) in
          rw (pa, past) rest
      | inr (inr more) ↦ absurd (omega arith)
    ]

-- joined pieces of what a filter keeps, where the pieces agree on it
pub flat_map_ext_filter : {A : Type 0} (p : ℕ → Bool) (f g : ℕ → List A) (xs : List ℕ) →
    ((k : ℕ) → p k ≡ true → f k ≡ g k) → flat_map f (filter p xs) ≡ flat_map g (filter p xs)
flat_map_ext_filter p f g [] h = refl
flat_map_ext_filter p f g (x ∷ xs) h =
    elim (cases_Bool (p x)) [
      | inl t ↦ let here : f x ≡ g x = h x t in
          let rest = flat_map_ext_filter p f g xs h in
          rw t (cc)
      | inr t ↦ rw t (flat_map_ext_filter p f g xs h)
    ]

flat_map_ext_filter_range : {A : Type 0} (p : ℕ → Bool) (f g : ℕ → List A) (a n : ℕ) →
    ((k : ℕ) → k < a + n → p k ≡ true → f k ≡ g k) →
    flat_map f (filter p (range_with_len a n)) ≡ flat_map g (filter p (range_with_len a n))
flat_map_ext_filter_range p f g a zero h = refl
flat_map_ext_filter_range p f g a (suc n) h =
    let rest = flat_map_ext_filter_range p f g (a + 1) n (λ k l e. h k (omega arith) e) in
    elim (cases_Bool (p a)) [
      | inl t ↦ let here : f a ≡ g a = h a (omega arith) t in rw t (cc)
      | inr t ↦ rw t rest
    ]

pub map_ext_filter_range : {A : Type 0} (p : ℕ → Bool) (f g : ℕ → A) (a n : ℕ) →
    ((k : ℕ) → k < a + n → p k ≡ true → f k ≡ g k) →
    map f (filter p (range_with_len a n)) ≡ map g (filter p (range_with_len a n))
map_ext_filter_range p f g a zero h = refl
map_ext_filter_range p f g a (suc n) h =
    let rest = map_ext_filter_range p f g (a + 1) n (λ k l e. h k (omega arith) e) in
    elim (cases_Bool (p a)) [
      | inl t ↦ let here : f a ≡ g a = h a (omega arith) t in rw t (cc)
      | inr t ↦ rw t rest
    ]

-- THE NUMBERS BELOW A NUMBER
pub flat_map_ext_places : {A : Type 0} (f g : ℕ → List A) (n : ℕ) → ((k : ℕ) → k < n → f k ≡ g k) →
    flat_map f (places n) ≡ flat_map g (places n)
unfolding places
flat_map_ext_places f g n h = flat_map_ext_range f g 0 n (λ k l below. h k (omega arith))

pub filter_ext_places : (p q : ℕ → Bool) (n : ℕ) → ((k : ℕ) → k < n → p k ≡ q k) →
    filter p (places n) ≡ filter q (places n)
unfolding places
filter_ext_places p q n h = filter_ext_range p q 0 n (λ k l below. h k (omega arith))

pub filter_none_places : (p : ℕ → Bool) (n : ℕ) → ((k : ℕ) → k < n → p k ≡ false) → filter p (places n) ≡ []
unfolding places
filter_none_places p n h = filter_none_range p 0 n (λ k l below. h k (omega arith))

-- all pass a test that each passes
pub every : (xs : List ℕ) → filter (λ k. true) xs ≡ xs
every [] = refl
every (x ∷ xs) = ap (λ (ys : List ℕ). x ∷ ys) (every xs)

pub filter_all_places : (p : ℕ → Bool) (n : ℕ) → ((k : ℕ) → k < n → p k ≡ true) → filter p (places n) ≡ places n
filter_all_places p n all = filter_ext_places p (λ k. true) n all ∙ every (places n)

pub filter_first_places : (p : ℕ → Bool) (n m : ℕ) → m < n → p m ≡ true → ((k : ℕ) → k < m → p k ≡ false) →
    filter p (places n) ≡ m ∷ filter (λ k. nat_le (m + 1) k && p k) (places n)
unfolding places
filter_first_places p n m below here before =
    filter_first_range p 0 n m (omega arith) (omega arith) here (λ k l less. before k less)

pub map_ext_filter_places : {A : Type 0} (p : ℕ → Bool) (f g : ℕ → A) (n : ℕ) →
    ((k : ℕ) → k < n → p k ≡ true → f k ≡ g k) → map f (filter p (places n)) ≡ map g (filter p (places n))
unfolding places
map_ext_filter_places p f g n h = map_ext_filter_range p f g 0 n (λ k below kept. h k (omega arith) kept)

pub flat_map_ext_filter_places : {A : Type 0} (p : ℕ → Bool) (f g : ℕ → List A) (n : ℕ) →
    ((k : ℕ) → k < n → p k ≡ true → f k ≡ g k) → flat_map f (filter p (places n)) ≡ flat_map g (filter p (places n))
unfolding places
flat_map_ext_filter_places p f g n h = flat_map_ext_filter_range p f g 0 n (λ k below kept. h k (omega arith) kept)

pub map_ext_places : {A : Type 0} (f g : ℕ → A) (n : ℕ) → ((k : ℕ) → k < n → f k ≡ g k) →
    map f (places n) ≡ map g (places n)
unfolding places
map_ext_places f g n h = map_ext_range f g 0 n (λ k l below. h k (omega arith))

-- the pieces of one more number
pub flat_map-places-more : {A : Type 0} (f : ℕ → List A) (n : ℕ) →
    flat_map f (places (n + 1)) ≡ flat_map f (places n) ++ f n
flat_map-places-more f n =
    rw (places-more n, flat_map-append) (ap (λ xs. flat_map f (places n) ++ xs) (append-nil (f n)))

pub filter-places-more : (p : ℕ → Bool) (n : ℕ) → p n ≡ true → filter p (places (n + 1)) ≡ filter p (places n) ++ n ∷ []
filter-places-more p n kept = rw (places-more n, filter-append, kept) refl

-- a filter over more numbers, none of which passes
filter_longer : (p : ℕ → Bool) (b d : ℕ) → ((k : ℕ) → b ≤ k → p k ≡ false) →
    filter p (places (b + d)) ≡ filter p (places b)
filter_longer p b zero h = let e : b + 0 ≡ b = omega arith in rw e refl
filter_longer p b (suc d) h =
    let e : b + suc d ≡ b + d + 1 = omega arith in
    let last = h (b + d) (omega arith) in
    rw (e, places-more (b + d), filter-append, last, filter_longer p b d h) (append-nil _)

pub filter_enough : (p : ℕ → Bool) (a b : ℕ) → ((k : ℕ) → a ≤ k → p k ≡ false) →
    ((k : ℕ) → b ≤ k → p k ≡ false) → filter p (places a) ≡ filter p (places b)
filter_enough p a b ha hb =
    elim (cases_lt a b) [
      | inl less ↦ let e : a + (b - a) ≡ b = omega arith in
          sym (rw e at (filter_longer p a (b - a) ha))
      | inr more ↦ let e : b + (a - b) ≡ a = omega arith in rw e at (filter_longer p b (a - b) hb)
    ]

-- a list of moments that has grown: what is older stays, and between the two ends there is nothing
pub flat_map_grown : {A : Type 0} (f g : ℕ → List A) (a d : ℕ) → ((n : ℕ) → n ≤ a → g n ≡ f n) →
    ((n : ℕ) → a < n → n < a + suc d → g n ≡ []) →
    flat_map g (places (a + suc d + 1)) ≡ flat_map f (places (a + 1)) ++ g (a + suc d)
flat_map_grown f g a zero same none =
    let t : a + suc 0 ≡ a + 1 = omega arith in
    let front = flat_map_ext_places g f (a + 1) (λ k h. same k (omega arith)) in
    rw t (flat_map-places-more g (a + 1) ∙ ap (λ xs. xs ++ g (a + 1)) front)
flat_map_grown f g a (suc d) same none =
    let t : a + suc (suc d) ≡ a + suc d + 1 = omega arith in
    let before = flat_map_grown f g a d same (λ n l h. none n l (omega arith)) in
    let quiet : g (a + suc d) ≡ [] = none (a + suc d) (omega arith) (omega arith) in
    let last : flat_map f (places (a + 1)) ++ g (a + suc d) ≡ flat_map f (places (a + 1)) =
    ap (λ xs. flat_map f (places (a + 1)) ++ xs) quiet
    ∙ append-nil _ in
    let n : ℕ = a + suc d + 1 in
    rw t (flat_map-places-more g n ∙ ap (λ xs. xs ++ g n) (before ∙ last))
