-- A handset ahead of the mark, step by step, and the mark of samples that go on.
use Rattle.tuned_listener.proofs.Common.{◌≡◌, ℕ, ◌+◌, ◌≤◌, true, false, List, [], ◌∷◌, ◌++◌, length, refl, sym, ap, ◌∙◌, subst, arith, inl}
use Rattle.tuned_listener.proofs.Common.{inr, Option, Some, None, append-nil, append_assoc, drop, length-append, length-take-le, take, mark}
use Rattle.tuned_listener.proofs.Common.{∥∥₁_map, IfSome, is_some, list_any, cases_lt, not_there, take-append-drop, take_all, Sample, at_of}
use Rattle.tuned_listener.proofs.Common.{events, event_list, sets_mark, AreNear, low_of, Steps, samples_taken, Tuning, sync_stream, Event}
use Rattle.tuned_listener.proofs.Common.{Mark, Mobile, Step, timed_of, mark_sooner, mark_stays, marked_all, HasNoMark, HearsUntold}
use Rattle.tuned_listener.proofs.Common.{IsMarkedAt, IsUntold, ListensAhead, StandsFor}
use Rattle.tuned_listener.proofs.TunedFrames.{step_joined}
use Rattle.chip_core.proofs.Ranges as ranges

-- a bound that follows from what is there
pub there_le : {P : Type 0} (a b : ℕ) → ∥ P ∥₁ → (P → a ≤ b) → a ≤ b
there_le a b there follows =
    elim (cases_lt b a) [
      | inl less ↦ absurd (not_there there (λ p. let le = follows p in omega (arith, less, le)))
      | inr le ↦ le
    ]

-- and an equation of numbers
pub there_eq : {P : Type 0} (a b : ℕ) → ∥ P ∥₁ → (P → a ≡ b) → a ≡ b
there_eq a b there follows =
    let le = there_le a b there (λ p. let is = follows p in omega (arith, is)) in
    let ge = there_le b a there (λ p. let is = follows p in omega (arith, is)) in
    omega (arith, le, ge)

-- ---- the mark of samples

-- a handset's fingers are near
pub stands_near : (t : Tuning) (mobile : Mobile) (heard : List Sample) (given : List Event) →
    StandsFor t mobile heard given → AreNear (sync_stream t).fingers
stands_near t mobile heard given stands = subst AreNear stands.sync.receives.fingers_are mobile.sound.hears.channel.near

module _ (t : Tuning) (near : AreNear (sync_stream t).fingers) where
  -- more samples set the same
  pub mark_kept : (xs ys : List Sample) (m : Mark) → mark t xs (length xs) ≡ Some m →
      mark t (xs ++ ys) (length (xs ++ ys)) ≡ Some m
  mark_kept xs ys m is =
      let timed = timed_of t near in
      let more : length xs ≤ length (xs ++ ys) = omega (arith, length-append xs ys) in
      mark_stays t (low_of t) timed (xs ++ ys) (length xs) (length (xs ++ ys)) m more
      (mark_sooner t (low_of t) timed xs ys (length xs) (omega arith) ∙ is)

none_of : {A : Type 0} (x : Option A) → is_some x ≡ false → x ≡ None
none_of None h = refl
none_of (Some x) h = absurd (cc)

-- a handset that has given all events, and was told no mark, has taken samples that set none
pub unmarked_all : (t : Tuning) (mobile : Mobile) (heard : List Sample) (given : List Event) →
    StandsFor t mobile heard given → list_any sets_mark given ≡ false →
    given ≡ events t heard → mark t heard (length heard) ≡ None
unmarked_all t mobile heard given stands unset all =
    let is = subst (StandsFor t mobile heard) all stands in
    marked_all t mobile heard is
    ∙ none_of mobile.sync.mark (stands.noted ∙ unset)

-- ---- a step

module _ (before after : Mobile) (next : List Sample) (step : Step)
    (does : Steps before after next step) where
  -- events among which none sets a mark still have none after the step
  abbrev pub StaysUnset : Type 0
  StaysUnset = (t : Tuning) (heard : List Sample) (given : List Event) →
      list_any sets_mark given ≡ false →
      StandsFor t after (heard ++ take step.taken next) (given ++ event_list step.event) →
      list_any sets_mark (given ++ event_list step.event) ≡ false

  -- so where the step gave no event
  pub unset_without : step.event ≡ None → StaysUnset
  unset_without none t heard given unset stands =
      ap (λ (e : Option Event). list_any sets_mark (given ++ event_list e)) none
      ∙ ap (list_any sets_mark) (append-nil given)
      ∙ unset

  -- and where no mark is told
  pub unset_untold : (told : Option Mark) → told ≡ None →
      ((t : Tuning) (heard : List Sample) (given : List Event) → StandsFor t after heard given →
      is_some told ≡ list_any sets_mark given) → StaysUnset
  unset_untold told none tells t heard given unset stands =
      sym (tells t (heard ++ take step.taken next) (given ++ event_list step.event) stands)
      ∙ ap is_some none

  module _ (unset : StaysUnset) where
    pub no_mark_more : (t : Tuning) (heard : List Sample) → HasNoMark t before heard →
        HasNoMark t after (heard ++ take step.taken next)
    no_mark_more t heard has =
        let is = does.stands t heard has.given has.stands in
        record { given = has.given ++ event_list step.event; stands = is; unset = unset t heard has.given has.unset is }

    pub untold_more : IsUntold before → IsUntold after
    untold_more untold =
        ∥∥₁_map untold
        (λ (was : HearsUntold before). let now : HearsUntold after = record {
          tuning = was.tuning;
          heard = was.heard ++ take step.taken next;
          has = no_mark_more was.tuning was.heard was.has;
        } in now)

  -- all samples were taken, and set no mark
  pub ahead_all : (t : Tuning) (heard samples : List Sample) (taken : ℕ) →
      next ≡ drop taken samples → step.event ≡ None → step.taken ≡ length next →
      ((t : Tuning) (heard : List Sample) (given : List Event) → StandsFor t before heard given →
      given ≡ events t (heard ++ next)) → HasNoMark t before (heard ++ take taken samples) →
      ListensAhead t after (heard ++ samples)
  ahead_all t heard samples taken left none all told has =
      let now = heard ++ take taken samples in
      let taken_all : take step.taken next ≡ next = take_all step.taken next (omega (arith, all)) in
      let whole : now ++ take step.taken next ≡ heard ++ samples =
      ap (λ (xs : List Sample). now ++ xs) (taken_all ∙ left)
      ∙ append_assoc heard (take taken samples) (drop taken samples)
      ∙ ap (λ (xs : List Sample). heard ++ xs) (take-append-drop taken samples) in
      let stands = does.stands t now has.given has.stands in
      let unset = unset_without none t now has.given has.unset stands in
      let given : has.given ++ event_list step.event ≡ events t (now ++ take step.taken next) =
      ap (λ (e : Option Event). has.given ++ event_list e) none
      ∙ append-nil has.given
      ∙ told t now has.given has.stands
      ∙ ap (λ (xs : List Sample). events t (now ++ xs)) (sym taken_all) in
      subst (ListensAhead t after) whole
      (record {
        has = record { given = has.given ++ event_list step.event; stands = stands; unset = unset };
        unmarked = unmarked_all t after (now ++ take step.taken next)
            (has.given ++ event_list step.event) stands unset given;
      })

  module _ (told : Option Mark) (m : Mark) (is : told ≡ Some m)
      (tells : (t : Tuning) (heard : List Sample) (given : List Event) →
      StandsFor t after heard given → is_some told ≡ list_any sets_mark given) where
    -- the mark that is told lies ahead
    early : (shown : Option Event) → shown ≡ step.event →
        ((t : Tuning) (heard : List Sample) (given : List Event) (event : Event) →
        StandsFor t after heard (given ++ event ∷ []) → at_of event ≡ length heard →
        list_any sets_mark given ≡ false → length heard ≤ m.sample) →
        HearsUntold before → samples_taken after ≤ m.sample
    early None gave ahead was =
        let given = was.has.given in
        let stands = does.stands was.tuning was.heard given was.has.stands in
        let set : true ≡ list_any sets_mark (given ++ event_list step.event) =
        sym (ap is_some is) ∙ tells was.tuning (was.heard ++ take step.taken next)
        (given ++ event_list step.event) stands in
        let unset : list_any sets_mark (given ++ event_list step.event) ≡ false =
        unset_without (sym gave) was.tuning was.heard given was.has.unset stands in
        let lost : true ≡ false = set ∙ unset in
        absurd (cc)
    early (Some event) gave ahead was =
        let t = was.tuning in
        let given = was.has.given in
        let now = was.heard ++ take step.taken next in
        let stands : StandsFor t after now (given ++ event ∷ []) =
        subst (λ (e : Option Event). StandsFor t after now (given ++ event_list e)) (sym gave)
        (does.stands t was.heard given was.has.stands) in
        let ends : at_of event ≡ length was.heard + step.taken =
        subst (λ (e : Option Event). IfSome e (λ (x : Event). at_of x ≡ length was.heard + step.taken)) (sym gave)
        (does.ends t was.heard given was.has.stands) in
        let long : length now ≡ length was.heard + step.taken =
        length-append was.heard (take step.taken next)
        ∙ ap (λ (n : ℕ). length was.heard + n) (length-take-le step.taken next does.most) in
        let taken = stands.ring.taken in
        omega (arith, taken, ahead t now given event stands (ends ∙ sym long) was.has.unset)

    pub mark_is_ahead : IsUntold before →
        ((t : Tuning) (heard : List Sample) (given : List Event) (event : Event) →
        StandsFor t after heard (given ++ event ∷ []) → at_of event ≡ length heard →
        list_any sets_mark given ≡ false → length heard ≤ m.sample) →
        samples_taken after ≤ m.sample
    mark_is_ahead untold ahead = there_le (samples_taken after) m.sample untold (early step.event refl ahead)

  -- it is set by the samples taken
  pub marked_here : (t : Tuning) (heard samples : List Sample) (taken : ℕ) (m : Mark) →
      next ≡ drop taken samples → HasNoMark t before (heard ++ take taken samples) →
      ((heard : List Sample) (given : List Event) → StandsFor t after heard given →
      mark t heard (length heard) ≡ Some m) →
      IsMarkedAt t after m (heard ++ take (taken + step.taken) samples)
  marked_here t heard samples taken m left has set =
      let now = heard ++ take taken samples in
      let stands = does.stands t now has.given has.stands in
      subst (IsMarkedAt t after m) (step_joined heard samples next taken step.taken left)
      (record {
        given = has.given ++ event_list step.event;
        stands = stands;
        marked = set (now ++ take step.taken next) (has.given ++ event_list step.event) stands;
      })

  -- no mark is told
  pub no_mark_here : StaysUnset → (t : Tuning) (heard samples : List Sample) (taken : ℕ) →
      next ≡ drop taken samples → HasNoMark t before (heard ++ take taken samples) →
      HasNoMark t after (heard ++ take (taken + step.taken) samples)
  no_mark_here unset t heard samples taken left has =
      subst (HasNoMark t after) (step_joined heard samples next taken step.taken left)
      (no_mark_more unset t (heard ++ take taken samples) has)
