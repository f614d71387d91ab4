-- The active pilots of one power control subchannel are as all are.
use Rattle.heard_events.proofs.Common.{◌≡◌, ℕ, ◌+◌, ◌*◌, ◌^◌, ◌≤◌, Bool, true, false, List, [], ◌∷◌, ◌++◌, length, map, filter, refl, ap, ℤ}
use Rattle.heard_events.proofs.Common.{arith, All, inl, inr, nat_lt, cases_Bool, map-append, All-append, places, Finger, is_close, is_on}
use Rattle.heard_events.proofs.Common.{legs_close, legs_rows, places_in, all_fingers, has_subchannel, leg_fingers, on_subchannel, Leg, sym}
use Rattle.heard_events.proofs.Common.{list_all, filter-places-more, subst, length-append, get_or-append-add, get_or_append_left}
use Rattle.heard_events.proofs.Common.{All-filter, AllPass-from_list_all, count_by-le-length, length-filter, list_all-from_AllPass}
use Rattle.heard_events.proofs.Arrivals.{given_less}

-- LISTS WHOSE ELEMENTS ALL HAVE A PROPERTY
all_parts : {X : Type 0} (P : X → Type 0) (xs ys : List X) → All P (xs ++ ys) → All P xs × All P ys
all_parts P xs ys h =
    let long = length-append xs ys in (
      λ k d less. subst P (get_or_append_left xs ys d k less) (h k d (omega (arith, long, less))),
      λ k d less.
          subst P (get_or-append-add xs ys k d) (h (length xs + k) d (omega (arith, long, less))),
    )

-- a filter that leaves as many as there were leaves all
filter_whole : {X : Type 0} (p : X → Bool) (xs : List X) → length (filter p xs) ≡ length xs → filter p xs ≡ xs
filter_whole p [] all = refl
filter_whole p (x ∷ xs) all =
    elim (cases_Bool (p x)) [
      | inl has ↦
          let long = rw has at all in
          rw has (λ i. x ∷ filter_whole p xs (omega (arith, long)) i)
      | inr not ↦
          let long = rw not at all in
          absurd (omega (arith, long, length-filter p xs, count_by-le-length p xs))
    ]

-- what all pass, those pass that a filter leaves
filter_all : {X : Type 0} (p q : X → Bool) (xs : List X) → list_all p xs ≡ true → list_all p (filter q xs) ≡ true
filter_all p q xs h =
    list_all-from_AllPass p (filter q xs) (All-filter q (λ x. p x ≡ true) xs (AllPass-from_list_all p xs h))

-- ON A SUBCHANNEL
-- where as many pilots are on it as there are, they are all
pub on_whole : (c : ℕ) (legs : List Leg) → length (on_subchannel c legs) ≡ length legs → on_subchannel c legs ≡ legs
on_whole c legs all = filter_whole (is_on c) legs all

pub on_some : (c : ℕ) (legs : List Leg) → has_subchannel legs c ≡ true → 1 ≤ length (on_subchannel c legs)
on_some c [] h = absurd (cc)
on_some c (leg ∷ legs) h =
    elim (cases_Bool (is_on c leg)) [
      | inl on ↦ rw on (omega arith)
      | inr off ↦ rw off (on_some c legs (rw off at h))
    ]

pub on_few : (c : ℕ) (legs : List Leg) → places_in (on_subchannel c legs) ≤ places_in legs
on_few c [] = omega arith
on_few c (leg ∷ legs) =
    let rest = on_few c legs in
    elim (cases_Bool (is_on c leg)) [
      | inl on ↦ rw on (omega (arith, rest))
      | inr off ↦ rw off (omega (arith, rest))
    ]

pub on_close : (c : ℕ) (legs : List Leg) → legs_close legs ≡ true → legs_close (on_subchannel c legs) ≡ true
on_close c legs h = filter_all (λ (leg : Leg). is_close leg.finger) (is_on c) legs h

pub on_rows : (c : ℕ) (legs : List Leg) → legs_rows legs ≡ true → legs_rows (on_subchannel c legs) ≡ true
on_rows c legs h = filter_all (λ (leg : Leg). nat_lt leg.finger.row 64) (is_on c) legs h

-- What holds of all fingers holds of those of one power control subchannel, by induction over the
-- active pilots: a pilot that is on it keeps its fingers, and those of any other are left out.
pub on_all : (P : Finger → Type 0) (phase : ℕ) (deltas : List ℤ) (c : ℕ) (legs : List Leg) →
    All P (all_fingers phase deltas legs) → All P (all_fingers phase deltas (on_subchannel c legs))
on_all P phase deltas c [] h = h
on_all P phase deltas c (leg ∷ legs) h =
    let one = leg_fingers phase deltas leg in
    let others = all_fingers phase deltas legs in
    let parts = all_parts P one others h in
    let rest = on_all P phase deltas c legs parts.1 in
    elim (cases_Bool (is_on c leg)) [
      | inl on ↦
          rw on (All-append P one (all_fingers phase deltas (on_subchannel c legs)) parts.0 rest)
      | inr off ↦ rw off rest
    ]

-- ONE SUBCHANNEL AFTER THE OTHER
abbrev pub first_subchannels : List Leg → ℕ → List ℕ
first_subchannels legs n = filter (has_subchannel legs) (places n)

pub sums_more : {A : Type 0} (f : ℕ → A) (legs : List Leg) (n : ℕ) (sums : List A) (one : A) →
    sums ≡ map f (first_subchannels legs n) → one ≡ f n → has_subchannel legs n ≡ true →
    sums ++ one ∷ [] ≡ map f (first_subchannels legs (n + 1))
sums_more f legs n sums one before is h =
    rw (filter-places-more (has_subchannel legs) n h, before, is)
    (sym (map-append f (first_subchannels legs n) (n ∷ [])))

pub sums_same : {A : Type 0} (f : ℕ → A) (legs : List Leg) (n : ℕ) → has_subchannel legs n ≡ false →
    map f (first_subchannels legs (n + 1)) ≡ map f (first_subchannels legs n)
sums_same f legs n h = ap (map f) (given_less (has_subchannel legs) n h)

-- the soft values of eight fingers add up to little
pub eight_small : (n : ℕ) → n ≤ 8 → n * (384 * 2 ^ 50) ≤ 3 * 2 ^ 60
eight_small n few = omega (arith, few)
