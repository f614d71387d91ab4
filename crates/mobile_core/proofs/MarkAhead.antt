-- A handset that has just told a mark has taken no sample after it, and one that has told all has the mark of all samples.
use Rattle.mobile_core.proofs.Common.{append_assoc, heard_within, among_before, sync_stream, events_left, before_next, ends_before, AreNear}
use Rattle.mobile_core.proofs.Common.{heard_split, sync_known, mark_later, first_part, events_at, sets_mark, StandsFor, mark_told, flat_map}
use Rattle.mobile_core.proofs.Common.{is_before, list_all, list_any, and_from, cases_lt, mark_set, ForSome, is_some, IsTimed, length, false}
use Rattle.mobile_core.proofs.Common.{nat_le, le-leb, lt-leb, places, Sample, Mobile, Tuning, Option, events, arith, at_of, Event, Pilot, ℕ}
use Rattle.mobile_core.proofs.Common.{subst, true, List, ◌++◌, Some, mark, Mark, None, refl, ◌≡◌, ◌+◌, ◌≤◌, ◌∷◌, sym, ◌∙◌, inl, inr, [], ap}

-- the mark of a handset is that of the samples taken
pub mark_is : (t : Tuning) (mobile : Mobile) (heard : List Sample) (given : List Event) →
    StandsFor t mobile heard given → ForSome mobile.sync.mark (λ m. mark t heard (length heard) ≡ Some m)
mark_is t mobile heard given st m set =
    let clock = mobile.sync.received.clock in
    let is = st.sync.receives.clocked in
    mark_told t clock.low is.timed heard (length heard) clock.next m (before_next is) (sym st.sync.marked ∙ set)

-- Where the event given last ends at the last sample taken, and none before it sets a mark, the mark
-- lies there or after.
pub mark_ahead : (t : Tuning) (mobile : Mobile) (heard : List Sample) (given : List Event)
    (event : Event) → StandsFor t mobile heard (given ++ event ∷ []) → at_of event ≡ length heard →
    list_any sets_mark given ≡ false → (m : Mark) → mobile.sync.mark ≡ Some m → length heard ≤ m.sample
mark_ahead t mobile heard given event st here none m marked =
    let clock = mobile.sync.received.clock in
    let is = st.sync.receives.clocked in
    let near = subst AreNear st.sync.receives.fingers_are mobile.sound.hears.channel.near in
    let n : ℕ = length heard in
    let (k, set) = mark_set t heard n m (mark_is t mobile heard (given ++ event ∷ []) st m marked) in
    let later = mark_later t heard k clock.low near is.timed set.inside m set.sets in
    elim (cases_lt (sync_known t k) n) [
      | inl less ↦
          let left = events_left t mobile heard in
          let late : is_before n event ≡ false = lt-leb (at_of event + 1) n (omega (arith, here)) in
          let pilot = Pilot t.phase t.energy in
          let before = pilot ∷ flat_map (events_at t heard) (places n) in
          let same : given ++ event ∷ left ≡ before ++ events_at t heard n =
          sym (append_assoc given (event ∷ []) left)
          ∙ st.told
          ∙ ap (λ (es : List Event). pilot ∷ es) (heard_split t heard) in
          let early : list_all (is_before n) before ≡ true =
          and_from (nat_le 1 n) (list_all (is_before n) (flat_map (events_at t heard) (places n)))
          (le-leb 1 n (omega (arith, less))) (ends_before t heard n) in
          let found : list_any sets_mark given ≡ true =
          first_part (is_before n) sets_mark given before (events_at t heard n) left event late early
          (among_before t heard k clock.low is.timed set.inside m set.sets n less) same in
          let both : true ≡ false = sym found ∙ none in
          absurd (cc)
      | inr more ↦ omega (arith, more, later)
    ]

-- a mark that is set was told
told_in : (t : Tuning) (low : ℕ) → IsTimed t.count (sync_stream t) low → (heard : List Sample)
    (m : Mark) → mark t heard (length heard) ≡ Some m → list_any sets_mark (events t heard) ≡ true
unfolding heard_within
told_in t low timed heard m set =
    let (k, by) = mark_set t heard (length heard) m set in
    among_before t heard k low timed by.inside m by.sets (length heard + 1) (omega (arith, by.known))

-- where all events have been given, the mark is that of all samples
pub marked_all : (t : Tuning) (mobile : Mobile) (heard : List Sample) →
    StandsFor t mobile heard (events t heard) → mark t heard (length heard) ≡ mobile.sync.mark
marked_all t mobile heard st = by_marks mobile.sync.mark (mark t heard (length heard)) refl refl
  where
    by_marks : (set found : Option Mark) → mobile.sync.mark ≡ set →
        mark t heard (length heard) ≡ found → mark t heard (length heard) ≡ mobile.sync.mark
    by_marks (Some m) found is is' = mark_is t mobile heard (events t heard) st m is ∙ sym is
    by_marks None None is is' = is' ∙ sym is
    by_marks None (Some m) is is' =
        let clock = mobile.sync.received.clock in
        let told = told_in t clock.low st.sync.receives.clocked.timed heard m is' in
        let none : true ≡ false = sym told ∙ sym st.noted ∙ ap is_some is in
        absurd (cc)
