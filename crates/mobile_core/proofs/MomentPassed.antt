-- The meaning of a traffic channel's receiver and its pilot sets when a moment passes.
use Rattle.mobile_core.proofs.Common.{◌≡◌, ℕ, ◌+◌, ◌-◌, ◌<◌, ◌≤◌, List, [], ◌∷◌, ◌++◌, length, take, sym, ap, ◌∙◌, arith, subst, Option}
use Rattle.mobile_core.proofs.Common.{None, inl, inr, true, false, ◌==◌, flat_map, option_to_list, cases_lt, eq-eqb, take_all, Sample, Leg}
use Rattle.mobile_core.proofs.Common.{filter_ext_places, flat_map_ext_filter_places, Standing, CapsuleStandsFor, AreClose, event_list, Mark}
use Rattle.mobile_core.proofs.Common.{all_fingers, legs_of, heard_from, kept_to, legs_by, moment_of, moment_place, passed, sets_events}
use Rattle.mobile_core.proofs.Common.{all_noted, signal_at, signals_before, decoded_at, HearsTraffic, HearsUntuned, kept_in, sets_left_of}
use Rattle.mobile_core.proofs.Common.{told_left_with, traffic_left_of, frame_known, has_frame, Tuning, Event, IsSoundHandoff, SetsKeeper}
use Rattle.mobile_core.proofs.Common.{Traffic, SoftHandoff, append-nil, known_low, heard_none, told_left_none}
use Rattle.mobile_core.proofs.FramesHeard.{closes, from_next, left_unkept, not_left, start_moment, told_given}
use Rattle.heard_events.proofs.MomentGrowth.{kept_new, kept_old}

-- FRAMES ARE HEARD FROM THE PILOTS OF THEIR OWN NUMBER ALONE
module _ (t : Tuning) (traffic : Traffic) (m : Mark) (legs legs' : ℕ → List Leg) where
  pub known_same : (k : ℕ) → legs' k ≡ legs k → frame_known t traffic m legs' k ≡ frame_known t traffic m legs k
  known_same k same = ap (λ (ls : List Leg). frame_known t traffic m (λ i. ls) k) same

  pub signals_same : (xs : List Sample) (next : ℕ) → ((k : ℕ) → k < next → legs' k ≡ legs k) →
      signals_before t traffic m legs' xs next ≡ signals_before t traffic m legs xs next
  unfolding signals_before signal_at decoded_at
  signals_same xs next same =
      ap (flat_map (λ k. option_to_list (signal_at t traffic m legs' xs k)))
      (filter_ext_places (has_frame t traffic m legs') (has_frame t traffic m legs) next
      (λ k below. ap (λ (ls : List Leg). has_frame t traffic m (λ i. ls) k) (same k below)))
      ∙ flat_map_ext_filter_places (has_frame t traffic m legs) (λ k. option_to_list (signal_at t traffic m legs' xs k))
      (λ k. option_to_list (signal_at t traffic m legs xs k)) next
      (λ k below inside.
      ap (λ (ls : List Leg). option_to_list (signal_at t traffic m (λ i. ls) xs k)) (same k below))

module _ {t : Tuning} {traffic : Traffic} {m : Mark} {r : SoftHandoff} {heard : List Sample}
    (st : HearsTraffic t traffic m r heard []) (sound : IsSoundHandoff r)
    (idle : r.receiver.frames.clock.have ≡ r.receiver.frames.clock.next) (empty : r.receiver.kept ≡ None)
    (waits : length heard < r.receiver.frames.clock.end)
    (here : length heard ≡ moment_place m (r.sets.passed + 1)) where
  -- what is kept before the moment and with it, and the pilots of each frame
  abbrev kept_now : ℕ → Standing
  kept_now = kept_in t traffic m r heard

  abbrev kept_then : ℕ → Standing
  kept_then = kept_to t traffic m heard (r.sets.passed + 1)

  abbrev legs_now : ℕ → List Leg
  legs_now = legs_by traffic m kept_now

  abbrev legs_then : ℕ → List Leg
  legs_then = legs_by traffic m kept_then

  abbrev last : ℕ
  last = r.sets.passed

  -- the sets are those of the definition
  sets_now : r.sets.sets ≡ heard_from t traffic m kept_now heard last 98304
  sets_now =
      let count : length heard - moment_place m last ≡ 98304 = omega (arith, here) in
      sym (ap (λ (es : List Event). all_noted m es r.sets.sets) (told_given st sound idle empty waits))
      ∙ st.sets_are
      ∙ ap (heard_from t traffic m kept_now heard last) count

  -- after the moment those that pass it are kept
  kept_here : (i : ℕ) → last < i → kept_then i ≡ passed m heard (last + 1) r.sets.sets
  kept_here i less =
      let whole : take (moment_place m (last + 1)) heard ≡ heard =
      take_all (moment_place m (last + 1)) heard (omega (arith, here)) in
      kept_new t traffic m heard last i less
      ∙ ap (λ (xs : List Sample).
      passed m xs (last + 1) (heard_from t traffic m kept_now xs last 98304)) whole
      ∙ ap (passed m heard (last + 1)) (sym sets_now)

  -- frames before it are heard as they were
  old_here : (k : ℕ) → moment_of traffic k ≤ last → legs_then k ≡ legs_now k
  old_here k early = ap (legs_of m) (kept_old t traffic m heard last (moment_of traffic k) early)

  heard_here : (k : ℕ) → k < r.receiver.frames.clock.next → legs_then k ≡ legs_now k
  heard_here k less =
      let ended = st.frames.ended k less in
      let low = known_low t traffic m legs_now (closes st sound) k in
      let following = start_moment traffic m k in
      old_here k (omega (arith, following, low, ended, here))

  -- its event was the last that was left
  event_now : sets_left_of t traffic m heard last ≡ sets_events m heard (last + 1) r.sets.sets
  unfolding sets_left_of
  event_now =
      let at' : (moment_place m (last + 1) == length heard) ≡ true =
      eq-eqb (moment_place m (last + 1)) (length heard) (sym here) in
      rw at' (ap (sets_events m heard (last + 1)) (sym sets_now))

  module _ (k : SetsKeeper)
      (k_is : k ≡ record { sets = k.sets; mark = r.sets.mark; passed = last + 1; due = false })
      (sets_is : k.sets ≡ passed m heard (last + 1) r.sets.sets)
      (close : AreClose (all_fingers t.phase t.deltas (legs_of m k.sets))) where
    -- with these sets the next frame is still to be tuned
    abbrev then : SoftHandoff
    then = record r { sets = record { sets = k.sets; mark = r.sets.mark; passed = last + 1; due = false } }

    new_here : (i : ℕ) → last < i → legs_of m k.sets ≡ legs_of m (kept_then i)
    new_here i less = ap (legs_of m) (sets_is ∙ sym (kept_here i less))

    new_close : (i : ℕ) → AreClose (all_fingers t.phase t.deltas (legs_of m (kept_then i)))
    new_close i =
        elim (cases_lt last i) [
          | inl less ↦
              subst (λ (ls : List Leg). AreClose (all_fingers t.phase t.deltas ls)) (new_here i less) close
          | inr more ↦
              subst (λ (s : Standing). AreClose (all_fingers t.phase t.deltas (legs_of m s)))
              (sym (kept_old t traffic m heard last i more)) (st.close i)
        ]

    -- no frame ends at the moment that hasn't been heard
    none_ends : (i : ℕ) → r.receiver.frames.clock.next ≤ i → length heard + 1 ≤ frame_known t traffic m legs_then i
    none_ends i above =
        elim (cases_lt last (moment_of traffic i)) [
          | inl later ↦
              let low = known_low t traffic m legs_then (λ j. new_close (moment_of traffic j)) i in
              let following = start_moment traffic m i in
              omega (arith, later, following, low, here)
          | inr early ↦
              let same = known_same t traffic m legs_now legs_then i (old_here i early) in
              let ends = from_next st sound idle (length heard + 1) (omega (arith, waits))
              (omega (arith, here)) i above in
              omega (arith, same, ends)
        ]

    told_none : told_left_with t traffic m heard then.receiver kept_then ≡ []
    told_none =
        left_unkept t traffic m heard then.receiver kept_then empty
        ∙ told_left_none t traffic m legs_then heard r.receiver.frames.clock.next none_ends

    hears_then : HearsUntuned t traffic m then heard []
    hears_then =
        let count : length heard - moment_place m (last + 1) ≡ 0 = omega (arith, here) in
        record {
          tuned = st.tuned;
          among = record {
            within = st.among.within;
            begun = λ some. omega (arith, here);
            coming = omega (arith, here);
            due_is = λ due. absurd (cc);
          };
          frames = record {
            start_is = st.frames.start_is;
            ended = λ i less.
                let same = known_same t traffic m legs_now legs_then i (heard_here i less) in
                let was = st.frames.ended i less in
                omega (arith, same, was);
            come = λ come. absurd (omega (arith, come, idle));
            framed = subst (CapsuleStandsFor r.receiver.framer)
                (sym (signals_same t traffic m legs_now legs_then heard r.receiver.frames.clock.next heard_here))
                st.frames.framed;
          };
          close = new_close;
          legs_are = λ early. st.legs_are early ∙ sym (old_here r.receiver.frames.clock.have (omega (arith, early)));
          pilots_are = new_here (last + 1) (omega arith);
          following = λ e rest left some.
              let lost : [] ≡ e ∷ rest = sym told_none ∙ left in
              absurd (cc);
          sets_are = ap (λ (es : List Event). all_noted m es k.sets) told_none
              ∙ sets_is
              ∙ sym (kept_here (last + 1) (omega arith))
              ∙ sym (heard_none t traffic m kept_then (last + 1) heard [])
              ∙ sym (ap (heard_from t traffic m kept_then heard (last + 1)) count);
        }

    -- so nothing more is left
    pub hears_passed : (event : Option Event) → event_list event ≡ sets_events m heard (last + 1) r.sets.sets →
        HearsUntuned t traffic m (record r { sets = k }) heard []
        × (event_list event ++ traffic_left_of t traffic m heard (record r { sets = k })
        ≡ traffic_left_of t traffic m heard r)
    hears_passed event event_is =
        subst (λ (x : SetsKeeper). HearsUntuned t traffic m (record r { sets = x }) heard []
        × (event_list event ++ traffic_left_of t traffic m heard (record r { sets = x })
        ≡ traffic_left_of t traffic m heard r)) (sym k_is) (
          hears_then,
          ap (λ (es : List Event). event_list event ++ (es ++ sets_left_of t traffic m heard (last + 1))) told_none
              ∙ ap (λ (es : List Event). event_list event ++ es)
              (not_left t traffic m heard (last + 1) (λ same. omega (arith, same, here)))
              ∙ append-nil (event_list event)
              ∙ event_is
              ∙ sym event_now
              ∙ sym (ap (λ (es : List Event). es ++ sets_left_of t traffic m heard last)
              (told_given st sound idle empty waits)),
        )
