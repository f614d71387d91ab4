-- Capsules that follow one another: what one more bit ends, and what is open after it.
use Rattle.paging_message.proofs.Common.{◌≡◌, ℕ, zero, suc, ◌+◌, ◌-◌, ◌<◌, ◌≤◌, ◌&&◌, Bool, true, false, cond, List, [], ◌∷◌, ◌++◌, length}
use Rattle.paging_message.proofs.Common.{drop, refl, sym, ap, ◌∙◌, arith, length-append, length-drop, nat_le, inl, inr, Option, Some, None}
use Rattle.paging_message.proofs.Common.{cases_Bool, le-leb, lt-leb, leb-true, and_parts, false_from_ne_true, drop-append-le, take_all}
use Rattle.paging_message.proofs.Common.{drop_all, stated_bits, is_stated, front_capsule, awaits_more, still_open, continued, completed}
use Rattle.paging_message.proofs.Common.{bits_left, ends_chain, open_chain}
use Rattle.quality_bits.proofs.Opened as opened

-- the test of the definitions: a capsule at the front, all of it there
abbrev pub is_there : List Bool → Bool
is_there bits = is_stated bits && nat_le (stated_bits bits) (length bits)

is_there_parts : (bits : List Bool) → is_there bits ≡ true → (is_stated bits ≡ true) × (stated_bits bits ≤ length bits)
is_there_parts bits h = let both =
    and_parts (is_stated bits) (nat_le (stated_bits bits) (length bits)) h in (
      both.0,
      leb-true (stated_bits bits) (length bits) both.1,
    )

from_there : (bits : List Bool) → is_stated bits ≡ true → stated_bits bits ≤ length bits → is_there bits ≡ true
from_there bits s l = let e = le-leb (stated_bits bits) (length bits) l in rw (s, e) refl

unstated : (bits : List Bool) → is_stated bits ≡ false → is_there bits ≡ false
unstated bits f = rw f refl

front-unless_there : (bits : List Bool) → is_there bits ≡ false → front_capsule bits ≡ None
unfolding front_capsule
front-unless_there bits h = rw h refl

not_both : {b : Bool} → b ≡ false → b ≡ true → ⊥
not_both left right = cc

-- THE DEFINITIONS BY CASES
ends-short : (fuel size count : ℕ) (bits : List Bool) → is_there bits ≡ false →
    ends_chain (suc fuel) size count bits ≡ None
unfolding ends_chain
ends-short fuel size count bits h = rw h refl

ends-exact : (fuel size count : ℕ) (bits : List Bool) → is_there bits ≡ true →
    length bits ≤ stated_bits bits → ends_chain (suc fuel) size count bits ≡ Some bits
unfolding ends_chain
ends-exact fuel size count bits h l = let e = le-leb (length bits) (stated_bits bits) l in rw (h, e) refl

ends-past : (fuel size count : ℕ) (bits : List Bool) → is_there bits ≡ true → stated_bits bits < length bits →
    ends_chain (suc fuel) size count bits
    ≡ cond (nat_le 8 (bits_left size (count + stated_bits bits)))
    (ends_chain fuel size (count + stated_bits bits) (drop (stated_bits bits) bits)) None
unfolding ends_chain
ends-past fuel size count bits h l = let e = lt-leb (length bits) (stated_bits bits) l in rw (h, e) refl

open-short : (fuel size count : ℕ) (bits : List Bool) → is_there bits ≡ false →
    open_chain (suc fuel) size count bits ≡ still_open bits
unfolding open_chain
open-short fuel size count bits h = rw h refl

open-past : (fuel size count : ℕ) (bits : List Bool) → is_there bits ≡ true →
    open_chain (suc fuel) size count bits
    ≡ cond (nat_le 8 (bits_left size (count + stated_bits bits)))
    (open_chain fuel size (count + stated_bits bits) (drop (stated_bits bits) bits)) None
unfolding open_chain
open-past fuel size count bits h = rw h refl

pub open_none : (fuel size count : ℕ) → open_chain (suc fuel) size count [] ≡ Some []
open_none fuel size count =
    let h : is_there [] ≡ false =
    unstated [] (false_from_ne_true (is_stated []) (λ t. let b =
    opened.stated_bounds [] t in omega arith)) in
    open-short fuel size count [] h
    ∙ opened.still_open-awaits [] (opened.awaits_few [] (omega arith))

-- ONE MORE BIT
one : (bits : List Bool) (b : Bool) → length (bits ++ b ∷ []) ≡ suc (length bits)
one bits b = omega (arith, length-append bits (b ∷ []))

-- a capsule that is there stays there
is_there_parts-more : (bits : List Bool) (b : Bool) → is_there bits ≡ true →
    (is_there (bits ++ b ∷ []) ≡ true) × (stated_bits (bits ++ b ∷ []) ≡ stated_bits bits) ×
    (stated_bits bits < length (bits ++ b ∷ [])) × (40 ≤ stated_bits bits) × (stated_bits bits ≤ length bits)
is_there_parts-more bits b h =
    let is = is_there_parts bits h in
    let bounds = opened.stated_bounds bits is.0 in
    let same = opened.stated-more bits (b ∷ []) bounds.0 in
    let longer = one bits b in (
      from_there (bits ++ b ∷ []) (opened.is_stated-more bits (b ∷ []) bounds.0
          ∙ is.0) (omega (arith, same, longer, is.1)),
      same,
      omega (arith, longer, is.1),
      bounds.1,
      is.1,
    )

-- a capsule that one more bit completes ends with it
is_there_parts-now : (bits : List Bool) (b : Bool) → awaits_more bits ≡ true →
    is_there (bits ++ b ∷ []) ≡ true → length (bits ++ b ∷ []) ≤ stated_bits (bits ++ b ∷ [])
is_there_parts-now bits b waits h =
    let is = is_there_parts (bits ++ b ∷ []) h in
    let bounds = opened.stated_bounds (bits ++ b ∷ []) is.0 in
    elim (opened.awaits_says bits waits) [
      | inl few ↦ omega (arith, one bits b, bounds.1)
      | inr lawful ↦ let own =
          opened.stated_bounds bits lawful.0 in omega (
            arith,
            one bits b,
            opened.stated-more bits (b ∷ []) own.0,
            lawful.1,
          )
    ]

-- nothing is there where no more bits were awaited
never-there : (bits : List Bool) (b : Bool) → is_there bits ≡ false → awaits_more bits ≡ false →
    is_there (bits ++ b ∷ []) ≡ false
never-there bits b h over =
    let w = opened.awaits_not bits over in
    unstated (bits ++ b ∷ []) (opened.is_stated-more bits (b ∷ []) w.0 ∙ elim w.1 [
      | inl unlawful ↦ unlawful
      | inr long ↦ false_from_ne_true (is_stated bits) (λ t. not_both h (from_there bits t long))
    ])

ends-zero : (size count : ℕ) (bits : List Bool) → ends_chain zero size count bits ≡ None
unfolding ends_chain
ends-zero size count bits = refl

open-zero : (size count : ℕ) (bits : List Bool) → open_chain zero size count bits ≡ None
unfolding open_chain
open-zero size count bits = refl

-- what the bits end is what their last one completes
pub ends_more : (fuel size count : ℕ) (bits : List Bool) (b : Bool) → ends_chain fuel size count (bits ++ b ∷ [])
    ≡ completed (open_chain fuel size count bits) (b ∷ [])
ends_more zero size count bits b = ends-zero size count (bits ++ b ∷ [])
    ∙ ap (λ (o : Option (List Bool)). completed o (b ∷ [])) (sym (open-zero size count bits))
ends_more (suc fuel) size count bits b =
    let st = stated_bits bits in
    let more = bits ++ b ∷ [] in
    let gives = λ (o : Option (List Bool)). completed o (b ∷ []) in
    elim (cases_Bool (is_there bits)) [
      | inl t ↦
          let m = is_there_parts-more bits b t in
          let left = nat_le 8 (bits_left size (count + st)) in
          let there_now : ends_chain (suc fuel) size count more
          ≡ cond left (ends_chain fuel size (count + st) (drop st bits ++ b ∷ [])) None =
          ends-past fuel size count more m.0 (omega (arith, m.1, m.2))
          ∙ ap (λ (n : ℕ). cond (nat_le 8 (bits_left size (count + n)))
          (ends_chain fuel size (count + n) (drop n more)) None) m.1
          ∙ ap (λ (xs : List Bool). cond left (ends_chain fuel size (count + st) xs) None)
          (drop-append-le st bits (b ∷ []) m.4) in
          there_now ∙ ap (λ (e : Option (List Bool)). cond left e None)
          (ends_more fuel size (count + st) (drop st bits) b)
          ∙ gives_cond left (open_chain fuel size (count + st) (drop st bits))
          ∙ sym (ap gives (open-past fuel size count bits t))
      | inr f ↦
          let before = open-short fuel size count bits f in
          elim (cases_Bool (awaits_more bits)) [
            | inl waits ↦
                let own : open_chain (suc fuel) size count bits ≡ Some bits = before
                ∙ opened.still_open-awaits bits waits in
                elim (cases_Bool (is_there more)) [
                  | inl t ↦
                      let long = is_there_parts-now bits b waits t in
                      let is = is_there_parts more t in
                      ends-exact fuel size count more t long
                      ∙ sym (ap gives own ∙ opened.front-whole more is.0 is.1
                      ∙ ap Some (take_all (stated_bits more) more long))
                  | inr n ↦ ends-short fuel size count more n
                      ∙ sym (ap gives own ∙ front-unless_there more n)
                ]
            | inr over ↦
                ends-short fuel size count more (never-there bits b f over)
                ∙ sym (ap gives (before ∙ opened.still_open-over bits over))
          ]
    ]
  where
    gives_cond : (left : Bool) (o : Option (List Bool)) →
        cond left (completed o (b ∷ [])) None ≡ completed (cond left o None) (b ∷ [])
    gives_cond true o = refl
    gives_cond false o = refl

-- what is open after a bit that completed this capsule, n bits after the start: a new capsule if 8
-- bits are left
abbrev pub after : ℕ → Option (List Bool) → Option (List Bool) → Option (List Bool)
after left None open_bits = open_bits
after left (Some whole) open_bits = cond (nat_le 8 left) (Some []) open_bits

abbrev pub follow : ℕ → ℕ → Option (List Bool) → Option (List Bool) → Option (List Bool)
follow size count whole open_bits = after (bits_left size count) whole open_bits

abbrev pub step : ℕ → ℕ → Option (List Bool) → Bool → Option (List Bool)
step size count open_bits b = follow size count (completed open_bits (b ∷ [])) (continued open_bits (b ∷ []))

step_cond : (left : Bool) (size count : ℕ) (o : Option (List Bool)) (b : Bool) →
    cond left (step size count o b) None ≡ step size count (cond left o None) b
step_cond true size count o b = refl
step_cond false size count o b = refl

step-none : (size count : ℕ) (o : Option (List Bool)) (b : Bool) → o ≡ None → step size count o b ≡ None
step-none size count o b e = ap (λ (p : Option (List Bool)). step size count p b) e

-- What is open after one bit more follows from what was open before it. Where a whole capsule
-- stands at the front the rest is a shorter chain, for which this holds by induction. Otherwise the
-- bit ends the open capsule, continues it, or follows a length that no capsule has, and then
-- nothing is open.
pub open_more : (fuel size count : ℕ) (bits : List Bool) (b : Bool) → length (bits ++ b ∷ []) < fuel →
    open_chain fuel size count (bits ++ b ∷ [])
    ≡ step size (count + length (bits ++ b ∷ [])) (open_chain fuel size count bits) b
open_more zero size count bits b room = absurd (omega (arith, room))
open_more (suc fuel) size count bits b room =
    let st = stated_bits bits in
    let more = bits ++ b ∷ [] in
    let later = count + length more in
    elim (cases_Bool (is_there bits)) [
      | inl t ↦
          let m = is_there_parts-more bits b t in
          let left = nat_le 8 (bits_left size (count + st)) in
          let rest = drop st bits ++ b ∷ [] in
          let there_now : open_chain (suc fuel) size count more
          ≡ cond left (open_chain fuel size (count + st) rest) None =
          open-past fuel size count more m.0
          ∙ ap (λ (n : ℕ). cond (nat_le 8 (bits_left size (count + n)))
          (open_chain fuel size (count + n) (drop n more)) None) m.1
          ∙ ap (λ (xs : List Bool). cond left (open_chain fuel size (count + st) xs) None)
          (drop-append-le st bits (b ∷ []) m.4) in
          let long : length rest ≡ length more - st =
          omega (arith, one (drop st bits) b, length-drop st bits, one bits b, m.4) in
          let same : count + st + length rest ≡ later = omega (arith, long, m.2) in
          let own = open_chain fuel size (count + st) (drop st bits) in
          there_now ∙ ap (λ (o : Option (List Bool)). cond left o None)
          (open_more fuel size (count + st) (drop st bits) b (omega (arith, room, long, m.3, m.2))
          ∙ ap (λ (n : ℕ). step size n own b) same)
          ∙ step_cond left size later own b
          ∙ ap (λ (o : Option (List Bool)). step size later o b) (sym (open-past fuel size count bits t))
      | inr f ↦
          let before = open-short fuel size count bits f in
          elim (cases_Bool (awaits_more bits)) [
            | inl waits ↦
                let own : open_chain (suc fuel) size count bits ≡ Some bits = before
                ∙ opened.still_open-awaits bits waits in
                let known : step size later (open_chain (suc fuel) size count bits) b
                ≡ follow size later (front_capsule more) (still_open more) =
                ap (λ (o : Option (List Bool)). step size later o b) own in
                elim (cases_Bool (is_there more)) [
                  | inl t ↦ now_there fuel size count bits b waits t room ∙ sym known
                  | inr n ↦
                      open-short fuel size count more n
                      ∙ ap (λ (w : Option (List Bool)). follow size later w (still_open more))
                      (sym (front-unless_there more n)) ∙ sym known
                ]
            | inr over ↦
                open-short fuel size count more (never-there bits b f over)
                ∙ opened.still_open-over more (opened.over-awaits bits (b ∷ []) over)
                ∙ sym (step-none size later (open_chain (suc fuel) size count bits) b (before
                ∙ opened.still_open-over bits over))
          ]
    ]
  where
    -- The bit that completes an awaited capsule ends it: the length that the capsule states is then
    -- that of all bits so far, so none are left over, and another can follow in this half-frame
    -- where it has eight bits left.
    now_there : (fuel size count : ℕ) (bits : List Bool) (b : Bool) → awaits_more bits ≡ true →
        is_there (bits ++ b ∷ []) ≡ true → length (bits ++ b ∷ []) < suc fuel →
        open_chain (suc fuel) size count (bits ++ b ∷ [])
        ≡ follow size (count + length (bits ++ b ∷ [])) (front_capsule (bits ++ b ∷ [])) (still_open (bits ++ b ∷ []))
    now_there zero size count bits b waits t room =
        let is = is_there_parts (bits ++ b ∷ []) t in
        let bounds = opened.stated_bounds (bits ++ b ∷ []) is.0 in
        absurd (omega (arith, room, is.1, bounds.1))
    now_there (suc fuel) size count bits b waits t room =
        let more = bits ++ b ∷ [] in
        let st = stated_bits more in
        let is = is_there_parts more t in
        let long = is_there_parts-now bits b waits t in
        let all : st ≡ length more = omega (arith, long, is.1) in
        let bounds = opened.stated_bounds more is.0 in
        let over = opened.still_open-over more (opened.awaits_over more bounds.0 is.1) in
        open-past (suc fuel) size count more t
        ∙ ap (λ (xs : List Bool). cond (nat_le 8 (bits_left size (count + st)))
        (open_chain (suc fuel) size (count + st) xs) None) (drop_all st more long)
        ∙ ap (λ (o : Option (List Bool)). cond (nat_le 8 (bits_left size (count + st))) o None)
        (open_none fuel size (count + st))
        ∙ ap (λ (n : ℕ). cond (nat_le 8 (bits_left size (count + n))) (Some []) None) all
        ∙ ap (λ (o : Option (List Bool)). cond (nat_le 8 (bits_left size (count + length more))) (Some []) o) (sym over)
        ∙ ap (λ (w : Option (List Bool)). follow size (count + length more) w (still_open more))
        (sym (opened.front-whole more is.0 is.1))

-- more fuel than bits changes nothing
pub open_fuel : (fuel size count : ℕ) (bits : List Bool) → length bits < fuel →
    open_chain (suc fuel) size count bits ≡ open_chain fuel size count bits
open_fuel zero size count bits room = absurd (omega (arith, room))
open_fuel (suc fuel) size count bits room =
    let st = stated_bits bits in
    elim (cases_Bool (is_there bits)) [
      | inl t ↦
          let is = is_there_parts bits t in
          let bounds = opened.stated_bounds bits is.0 in
          open-past (suc fuel) size count bits t
          ∙ ap (λ (o : Option (List Bool)). cond (nat_le 8 (bits_left size (count + st))) o None)
          (open_fuel fuel size (count + st) (drop st bits) (omega (arith, room, length-drop st bits, bounds.1, is.1)))
          ∙ sym (open-past fuel size count bits t)
      | inr f ↦ open-short (suc fuel) size count bits f ∙ sym (open-short fuel size count bits f)
    ]
