-- What a capsule's first bits say, and what more bits change.
use Rattle.quality_bits.proofs.Common.{◌≡◌, ℕ, ◌+◌, ◌*◌, ◌<◌, ◌≤◌, Bool, true, false, not, ◌&&◌, List, [], ◌∷◌, ◌++◌, length, take, drop}
use Rattle.quality_bits.proofs.Common.{◌-◌, refl, sym, ap, ◌∙◌, arith, length-append, nat_lt, nat_le, ◌⊎◌, inl, inr, Option, Some, None}
use Rattle.quality_bits.proofs.Common.{append_assoc, cases_lt, cases_Bool, lt-ltb, le-ltb, le-leb, lt-leb, leb-true, leb-false, ltb-true}
use Rattle.quality_bits.proofs.Common.{ltb-false, and_parts, and_cases, or_parts, or_cases, not-false, not-true, false_from_ne_true, number}
use Rattle.quality_bits.proofs.Common.{and_right, take-append-le, append-nil, option_or, IfSome, slice_get, slice_get-drop, stated_bits}
use Rattle.quality_bits.proofs.Common.{is_stated, front_capsule, awaits_more, still_open, continued, completed, taken_more}

pub stated_bounds : (bits : List Bool) → is_stated bits ≡ true →
    (8 ≤ length bits) × (40 ≤ stated_bits bits) × (stated_bits bits ≤ 1184)
unfolding is_stated
stated_bounds bits h =
    let a = and_parts (nat_le 8 (length bits) && nat_le 40 (stated_bits bits)) (nat_le (stated_bits bits) 1184) h in
    let b = and_parts (nat_le 8 (length bits)) (nat_le 40 (stated_bits bits)) a.0 in (
      leb-true 8 (length bits) b.0,
      leb-true 40 (stated_bits bits) b.1,
      leb-true (stated_bits bits) 1184 a.1,
    )

pub stated_from : (bits : List Bool) → 8 ≤ length bits → 40 ≤ stated_bits bits →
    stated_bits bits ≤ 1184 → is_stated bits ≡ true
unfolding is_stated
stated_from bits a b c =
    let e = le-leb 8 (length bits) a in
    let f = le-leb 40 (stated_bits bits) b in
    let g = le-leb (stated_bits bits) 1184 c in
    rw (e, f, g) refl

-- THE CAPSULE AT THE FRONT
pub front-none : (bits : List Bool) → is_stated bits ≡ false → front_capsule bits ≡ None
unfolding front_capsule
front-none bits h = rw h refl

pub front-short : (bits : List Bool) → length bits < stated_bits bits → front_capsule bits ≡ None
unfolding front_capsule
front-short bits h =
    let e = and_right (is_stated bits) (nat_le (stated_bits bits) (length bits))
    (lt-leb (stated_bits bits) (length bits) h) in rw e refl

pub front-whole : (bits : List Bool) → is_stated bits ≡ true → stated_bits bits ≤ length bits →
    front_capsule bits ≡ Some (take (stated_bits bits) bits)
unfolding front_capsule
front-whole bits h l = let e = le-leb (stated_bits bits) (length bits) l in rw (h, e) refl

-- AWAITING MORE
pub awaits_few : (bits : List Bool) → length bits < 8 → awaits_more bits ≡ true
unfolding awaits_more
awaits_few bits h = let e = lt-leb 8 (length bits) h in rw e refl

pub awaits_unlawful : (bits : List Bool) → 8 ≤ length bits → is_stated bits ≡ false → awaits_more bits ≡ false
unfolding awaits_more
awaits_unlawful bits h f = let e = le-leb 8 (length bits) h in rw (f, e) refl

pub awaits_over : (bits : List Bool) → 8 ≤ length bits → stated_bits bits ≤ length bits → awaits_more bits ≡ false
unfolding awaits_more
awaits_over bits h l = let e = le-leb 8 (length bits) h in
    let f = and_right (is_stated bits) (nat_lt (length bits) (stated_bits bits))
    (le-ltb (length bits) (stated_bits bits) l) in rw (f, e) refl

pub awaits_stated : (bits : List Bool) → is_stated bits ≡ true →
    awaits_more bits ≡ nat_lt (length bits) (stated_bits bits)
unfolding awaits_more
awaits_stated bits t = let b = stated_bounds bits t in let e = le-leb 8 (length bits) b.0 in
    rw (t, e) refl

pub awaits_unstated : (bits : List Bool) → is_stated bits ≡ false → awaits_more bits ≡ nat_lt (length bits) 8
awaits_unstated bits f =
    elim (cases_lt (length bits) 8) [
      | inl few ↦ awaits_few bits few ∙ sym (lt-ltb (length bits) 8 few)
      | inr many ↦ awaits_unlawful bits many f ∙ sym (le-ltb (length bits) 8 many)
    ]

-- what awaiting says: few bits, or a lawful length that isn't reached
pub awaits_says : (bits : List Bool) → awaits_more bits ≡ true →
    (length bits < 8) ⊎ ((is_stated bits ≡ true) × (length bits < stated_bits bits))
unfolding awaits_more
awaits_says bits h =
    elim (or_cases (not (nat_le 8 (length bits)))
    (is_stated bits && nat_lt (length bits) (stated_bits bits)) h) [
      | inl a ↦ inl (leb-false 8 (length bits) (not-true (nat_le 8 (length bits)) a))
      | inr b ↦ let p = and_parts (is_stated bits) (nat_lt (length bits) (stated_bits bits)) b in
          inr (p.0, ltb-true (length bits) (stated_bits bits) p.1)
    ]

pub awaits_not : (bits : List Bool) → awaits_more bits ≡ false →
    (8 ≤ length bits) × ((is_stated bits ≡ false) ⊎ (stated_bits bits ≤ length bits))
unfolding awaits_more
awaits_not bits h =
    let p = or_parts (not (nat_le 8 (length bits)))
    (is_stated bits && nat_lt (length bits) (stated_bits bits)) h in (
      leb-true 8 (length bits) (not-false (nat_le 8 (length bits)) p.0),
      elim (and_cases (is_stated bits) (nat_lt (length bits) (stated_bits bits)) p.1) [
        | inl a ↦ inl a
        | inr b ↦ inr (ltb-false (length bits) (stated_bits bits) b)
      ],
    )

pub awaits_short : (bits : List Bool) → awaits_more bits ≡ true → length bits < 1184
awaits_short bits h =
    elim (awaits_says bits h) [
      | inl a ↦ omega arith
      | inr b ↦ let c = stated_bounds bits b.0 in
          omega arith
    ]

-- MORE BITS
pub stated-more : (bits more : List Bool) → 8 ≤ length bits → stated_bits (bits ++ more) ≡ stated_bits bits
stated-more bits more h = let e = take-append-le 8 bits more h in rw e refl

pub is_stated-more : (bits more : List Bool) → 8 ≤ length bits → is_stated (bits ++ more) ≡ is_stated bits
unfolding is_stated
is_stated-more bits more h =
    let e = stated-more bits more h in
    let a = le-leb 8 (length bits) h in
    let b = le-leb 8 (length (bits ++ more)) (omega (arith, length-append bits more)) in
    rw (e, a, b) refl

-- nothing changes once no more bits are awaited
pub over-awaits : (bits more : List Bool) → awaits_more bits ≡ false → awaits_more (bits ++ more) ≡ false
over-awaits bits more h =
    let w = awaits_not bits h in
    let long : 8 ≤ length (bits ++ more) = omega (arith, length-append bits more, w.0) in
    elim w.1 [
      | inl unlawful ↦ awaits_unlawful (bits ++ more) long (is_stated-more bits more w.0 ∙ unlawful)
      | inr over ↦
          awaits_over (bits ++ more) long (omega (arith, length-append bits more, stated-more bits more w.0))
    ]

-- Once bits await no more, further bits don't change the capsule at their front: they state a
-- length, and either it is not lawful or the whole capsule is there already.
pub over-front : (bits more : List Bool) → awaits_more bits ≡ false → front_capsule (bits ++ more) ≡ front_capsule bits
over-front bits more h =
    let w = awaits_not bits h in
    let same = stated-more bits more w.0 in
    let lawful = is_stated-more bits more w.0 in
    elim (cases_Bool (is_stated bits)) [
      | inr f ↦ front-none (bits ++ more) (lawful ∙ f) ∙ sym (front-none bits f)
      | inl t ↦
          let over : stated_bits bits ≤ length bits = elim w.1 [ inl f ↦ absurd (cc) | inr l ↦ l ] in
          front-whole (bits ++ more) (lawful ∙ t) (omega (arith, length-append bits more)) ∙
          ap Some (ap (λ n. take n (bits ++ more)) same ∙
          take-append-le (stated_bits bits) bits more over) ∙ sym (front-whole bits t over)
    ]

pub awaits-front : (bits : List Bool) → awaits_more bits ≡ true → front_capsule bits ≡ None
awaits-front bits h =
    elim (awaits_says bits h) [
      | inl few ↦
          front-none bits (false_from_ne_true (is_stated bits) (λ t. let b = stated_bounds bits t in
          omega arith))
      | inr short ↦ front-short bits short.1
    ]

pub still_open-awaits : (bits : List Bool) → awaits_more bits ≡ true → still_open bits ≡ Some bits
unfolding still_open
still_open-awaits bits h = rw h refl

pub still_open-over : (bits : List Bool) → awaits_more bits ≡ false → still_open bits ≡ None
unfolding still_open
still_open-over bits h = rw h refl

-- MORE BITS IN TWO PARTS
pub continued-append : (s : Option (List Bool)) (a b : List Bool) → continued (continued s a) b ≡ continued s (a ++ b)
continued-append None a b = refl
continued-append (Some bits) a b =
    let grouped = append_assoc bits a b in
    elim (cases_Bool (awaits_more (bits ++ a))) [
      | inl t ↦ ap (λ (s : Option (List Bool)). continued s b) (still_open-awaits (bits ++ a) t) ∙
          ap still_open grouped
      | inr f ↦ ap (λ (s : Option (List Bool)). continued s b) (still_open-over (bits ++ a) f) ∙
          sym (still_open-over ((bits ++ a) ++ b) (over-awaits (bits ++ a) b f)) ∙
          ap still_open grouped
    ]

or-none : {A : Type 0} (x : Option A) → option_or x None ≡ x
or-none None = refl
or-none (Some x) = refl

pub completed-append : (s : Option (List Bool)) (a b : List Bool) →
    option_or (completed s a) (completed (continued s a) b) ≡ completed s (a ++ b)
completed-append None a b = refl
completed-append (Some bits) a b =
    let grouped = append_assoc bits a b in
    elim (cases_Bool (awaits_more (bits ++ a))) [
      | inl t ↦ rw (awaits-front (bits ++ a) t, still_open-awaits (bits ++ a) t)
          (ap front_capsule grouped)
      | inr f ↦ rw (still_open-over (bits ++ a) f) (or-none (front_capsule (bits ++ a)) ∙
          sym (over-front (bits ++ a) b f) ∙ ap front_capsule grouped)
    ]

pub stated_is : (read bits : List Bool) (octets : ℕ) → read ≡ bits → octets ≡ number (take 8 read) →
    8 * octets ≡ stated_bits bits
stated_is read bits octets same is = ap (λ (n : ℕ). 8 * n) (is ∙ ap (λ (r : List Bool). number (take 8 r)) same)

-- before any bits
pub continued_none : (s : Option (List Bool)) → IfSome s (λ bits. awaits_more bits ≡ true) → s ≡ continued s []
continued_none None h = refl
continued_none (Some bits) h = sym (ap still_open (append-nil bits) ∙ still_open-awaits bits h)

pub completed_none : (s : Option (List Bool)) → IfSome s (λ bits. awaits_more bits ≡ true) → None ≡ completed s []
completed_none None h = refl
completed_none (Some bits) h = sym (ap front_capsule (append-nil bits) ∙ awaits-front bits h)

-- one more bit of a list, from a place on
pub taken_more_from : (bits : List Bool) (from i : ℕ) (bit : Bool) → from ≤ i → slice_get bits i ≡ Some bit →
    take (i + 1 - from) (drop from bits) ≡ take (i - from) (drop from bits) ++ bit ∷ []
taken_more_from bits from i bit h read =
    let there : from + (i - from) ≡ i = omega (arith, h) in
    let next : i + 1 - from ≡ i - from + 1 = omega (arith, h) in
    rw next (taken_more (drop from bits) (i - from) bit (slice_get-drop from bits (i - from) bit (rw there read)))
