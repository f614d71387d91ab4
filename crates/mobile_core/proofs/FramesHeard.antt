-- The meaning of a traffic channel's receiver and its pilot sets, step by step.
use Rattle.mobile_core.proofs.Common.{CapsuleStandsFor, messages_left_of, pages_if_marked, TrafficReceiver, message_events, IsSoundHandoff}
use Rattle.mobile_core.proofs.Common.{told_left_with, signals_sooner, frames_left_of, length-append, power_bits_at, traffic_start, cases_lt}
use Rattle.mobile_core.proofs.Common.{SpelledSignal, message_heard, sets_left_of, traffic_mask, power_places, moment_place, IsTrafficDue, ℕ}
use Rattle.mobile_core.proofs.Common.{cases_order, after-after, all_fingers, subchannels, unscrambled, chips_after, frame_known, PowerSofts}
use Rattle.mobile_core.proofs.Common.{frame_state, replaced_in, frame_chips, SoftHandoff, frame_taken, AreCloseAll, known_later, scrambling}
use Rattle.mobile_core.proofs.Common.{heard_grown, messages_by, frame_heard, heard_from, page_event, decoded_at, close_ends, known_high, []}
use Rattle.mobile_core.proofs.Common.{heard_none, told_first, power_bit, moment_of, all_noted, frame_end, raw_softs, HearsUpTo, HearsWith}
use Rattle.mobile_core.proofs.Common.{has_frame, known_low, frames_of, told_left, told_none, things_go, frames_by, take_all, Standing, List}
use Rattle.mobile_core.proofs.Common.{all_sums, flat_map, tuned_to, has_here, known_is, is_some, decoded, Decoded, sums_on, legs_of, length}
use Rattle.mobile_core.proofs.Common.{legs_by, told_by, Traffic, told_at, told_is, goes_as, ne_eqb, Option, IsTrue, places, Sample, Finger}
use Rattle.mobile_core.proofs.Common.{Tuning, GoesOn, false, arith, subst, after, softs, Event, ◌++◌, Bool, take, refl, ◌==◌, true, None, ℤ}
use Rattle.mobile_core.proofs.Common.{Some, Data, Mark, left_from, ◌≡◌, ◌+◌, ◌-◌, ◌*◌, ◌/◌, ◌^◌, ◌<◌, ◌≤◌, map, sym, ◌∙◌, inl, inr, Leg, ap}
use Rattle.frame_decoder.specs.TrafficFrames as frames

-- the long code's state at a frame's first chip
pub state_on : (traffic : Traffic) (m : Mark) (state k : ℕ) → state ≡ frame_state traffic m 0 →
    after state (24576 * k) ≡ frame_state traffic m k
state_on traffic m state k is =
    let sum : chips_after traffic 0 + 24576 * k ≡ chips_after traffic k = omega arith in
    ap (λ (n : ℕ). after n (24576 * k)) is
    ∙ after-after m.state (chips_after traffic 0) (24576 * k)
    ∙ ap (after m.state) sum

-- where nothing is due no message is kept
pub none_kept : (r : SoftHandoff) → ¬ IsTrafficDue r → r.receiver.kept ≡ None
none_kept r none = by_kept r.receiver.kept (λ some. none (inl (inl some)))
  where
    by_kept : (kept : Option SpelledSignal) → ¬ IsTrue (is_some kept) → kept ≡ None
    by_kept None h = refl
    by_kept (Some message) h = absurd (h refl)

-- and no frame has come
pub none_come : (r : SoftHandoff) → IsSoundHandoff r → ¬ IsTrafficDue r →
    r.receiver.frames.clock.have ≡ r.receiver.frames.clock.next
none_come r sound none =
    elim (cases_lt r.receiver.frames.clock.next r.receiver.frames.clock.have) [
      | inl less ↦ absurd (none (inl (inr less)))
      | inr more ↦ let order = sound.receiver.frames.clocked.next_have in omega (arith, more, order)
    ]

-- a frame begins at the moment that tells its pilots, or after it
pub start_moment : (traffic : Traffic) (m : Mark) (k : ℕ) →
    moment_place m (moment_of traffic k) ≤ traffic_start traffic m k
start_moment traffic m k = omega arith

-- none lies where the next one doesn't
pub not_left : (t : Tuning) (traffic : Traffic) (m : Mark) (samples : List Sample) (j : ℕ) →
    ¬ (moment_place m (j + 1) ≡ length samples) → sets_left_of t traffic m samples j ≡ []
unfolding sets_left_of
not_left t traffic m samples j elsewhere =
    let none : (moment_place m (j + 1) == length samples) ≡ false =
    ne_eqb (moment_place m (j + 1)) (length samples) elsewhere in
    rw none refl

-- what a receiver has still to tell where no message is kept
pub left_unkept : (t : Tuning) (traffic : Traffic) (m : Mark) (samples : List Sample)
    (r : TrafficReceiver) (kept : ℕ → Standing) → r.kept ≡ None → told_left_with t traffic m samples r kept
    ≡ told_left t traffic m (legs_by traffic m kept) samples r.frames.clock.next
left_unkept t traffic m samples r kept empty =
    ap (λ (k : Option SpelledSignal). message_events (length samples) k
    ++ told_left t traffic m (legs_by traffic m kept) samples r.frames.clock.next) empty

module _ {t : Tuning} {traffic : Traffic} {m : Mark} {r : SoftHandoff} {heard : List Sample}
    {pages : List Event} {kept : ℕ → Standing}
    (st : HearsWith t traffic m r heard pages kept) (sound : IsSoundHandoff r) where
  -- the pilots of each frame, and when it is known
  abbrev legs : ℕ → List Leg
  legs = legs_by traffic m kept

  abbrev known : ℕ → ℕ
  known = frame_known t traffic m legs

  -- the frame that is heard next, and the one that comes next, with its end
  abbrev next : ℕ
  next = r.receiver.frames.clock.next

  abbrev coming : ℕ
  coming = r.receiver.frames.clock.have

  abbrev end : ℕ
  end = r.receiver.frames.clock.end

  -- the moment that passed last, and the one after it
  abbrev place : ℕ
  place = moment_place m r.sets.passed

  abbrev moment : ℕ
  moment = moment_place m (r.sets.passed + 1)

  -- whether a moment that has passed told the pilots of the frame that comes next
  abbrev IsTold : Type 0
  IsTold = moment_of traffic r.receiver.frames.clock.have < r.sets.passed + 1

  abbrev left_of : List Sample → List Event
  left_of samples = told_left_with t traffic m samples r.receiver kept

  pub far : 2 ^ 16 ≤ m.sample
  far = subst (λ (x : Mark). 2 ^ 16 ≤ x.sample) st.tuned.mark_is sound.keeper.marked.late

  pub closes : AreCloseAll t legs
  closes k = st.close (moment_of traffic k)

  -- THE FRAME THAT COMES NEXT
  -- it is heard on the fingers of its own pilots, from where it begins
  parts_are : {A : Type 0} (f : ℕ → List ℤ → List Leg → ℕ → A) → IsTold →
      f r.receiver.phase (take r.receiver.near.count r.receiver.near.deltas) r.receiver.legs
      r.receiver.frames.clock.start ≡ f t.phase t.deltas (legs coming) (traffic_start traffic m coming)
  parts_are f told =
      let start : ℕ = r.receiver.frames.clock.start in
      ap (λ (p : ℕ). f p (take r.receiver.near.count r.receiver.near.deltas) r.receiver.legs start) st.tuned.phase_is
      ∙ ap (λ (ds : List ℤ). f t.phase ds r.receiver.legs start) st.tuned.deltas_are
      ∙ ap (λ (ls : List Leg). f t.phase t.deltas ls start) (st.legs_are told)
      ∙ ap (f t.phase t.deltas (legs coming)) st.frames.start_is

  end_is : IsTold → end ≡ known coming
  end_is told =
      sound.receiver.frames.ends
      ∙ ap (λ (fs : List Finger). frame_end fs Data r.receiver.frames.clock.start) sound.receiver.fingers_are
      ∙ parts_are (λ p ds ls u. frame_end (all_fingers p ds ls) Data u) told
      ∙ sym (known_is t traffic m legs coming)

  -- where it ends up to the next moment, a moment that has passed told its pilots
  told_by_end : end ≤ moment → IsTold
  told_by_end ends =
      elim (cases_lt r.sets.passed (moment_of traffic coming)) [
        | inl later ↦
            let low = (close_ends r.receiver.frames.clock.start r.receiver.frames.fingers sound.receiver.frames.close).0 in
            let end' = sound.receiver.frames.ends in
            let start = st.frames.start_is in
            let following = start_moment traffic m coming in
            absurd (omega (arith, later, low, end', start, following, ends))
        | inr told ↦ omega (arith, told)
      ]

  -- where no frame is due, those from the next on end when the next one does, or later
  pub from_next : coming ≡ next → (n : ℕ) → n ≤ end → n ≤ moment + 24350 → (k : ℕ) → next ≤ k → n ≤ known k
  from_next idle n ends early k above =
      let low = known_low t traffic m legs closes k in
      elim (cases_lt r.sets.passed (moment_of traffic coming)) [
        | inl later ↦
            let following = start_moment traffic m coming in
            omega (arith, later, following, low, early, above, idle)
        | inr told ↦
            let end' = end_is (omega (arith, told)) in
            elim (cases_order coming k) [
              | inl same ↦ let here = ap known same in omega (arith, ends, end', here)
              | inr (inl less) ↦
                  let more = known_later t traffic m legs closes coming k less in
                  omega (arith, ends, end', more)
              | inr (inr more) ↦ absurd (omega (arith, more, above, idle))
            ]
      ]

  -- so nothing is told before the next frame ends, and what is told there is left
  pub told_go : coming ≡ next → r.receiver.kept ≡ None → (n : ℕ) → n ≤ end → n ≤ moment + 24350 →
      GoesOn (λ samples i. told_at t traffic m legs (take i samples) i) left_of heard n
  unfolding frames_by messages_by frames_left_of messages_left_of
  told_go idle empty n ends early =
      let gives : List Sample → ℕ → List ℕ → List Event = λ xs i ks.
      map (frame_heard t traffic m legs xs i) ks ++ flat_map (message_heard t traffic m legs xs i) ks in
      goes_as
      (things_go (frames_of t traffic m legs) next (λ xs i. gives (take i xs) i) (λ xs i. refl)
      heard n (λ k less inside. st.frames.ended k less) (λ k above inside. from_next idle n ends early k above))
      (λ xs i. refl)
      (λ xs. left_unkept t traffic m xs r.receiver kept empty
      ∙ ap (λ (ys : List Sample). gives ys (length xs) (left_from (frames_of t traffic m legs) next (length xs)))
      (sym (take_all (length xs) xs (omega arith))))

  pub told_given : coming ≡ next → r.receiver.kept ≡ None → length heard < end → left_of heard ≡ []
  told_given idle empty waits =
      let early = st.among.coming in
      (told_go idle empty (length heard + 1) (omega (arith, waits)) (omega (arith, early))).given (omega arith)

  -- MORE SAMPLES, UP TO THE END OF THE FRAME THAT COMES NEXT
  module _ (more : List Sample) (none : ¬ IsTrafficDue r) (some : 0 < length more)
      (ends : length heard + length more ≤ end) (early : length heard + length more ≤ moment)
      (within : length heard + length more ≤ t.count) (given : pages ≡ []) (later : List Event)
      (later_is : later ≡ map (page_event (length (heard ++ more)))
      (pages_if_marked t t.paging (Some m) (heard ++ more) (length (heard ++ more))))
      (quiet : (samples : List Sample) (n : ℕ) → length heard < n →
      n < length heard + length more → pages_if_marked t t.paging (Some m) samples n ≡ [])
      (before : (n : ℕ) → n ≤ m.sample →
      pages_if_marked t t.paging (Some m) (heard ++ more) n ≡ []) where
    abbrev samples : List Sample
    samples = heard ++ more

    abbrev taken : ℕ
    taken = length samples

    long : taken ≡ length heard + length more
    long = length-append heard more

    goes : GoesOn (λ xs n. told_at t traffic m legs (take n xs) n) left_of heard (length heard + length more)
    goes = told_go (none_come r sound none) (none_kept r none) (length heard + length more) ends (omega (arith, early))

    -- what is heard with the last sample is what is left
    last_told : told_by t traffic m legs samples taken ≡ later ++ left_of samples
    last_told =
        let told : List Event = told_at t traffic m legs (take taken samples) taken in
        told_is t traffic m legs samples taken
        ∙ ap (λ (xs : List Sample).
        map (page_event taken) (pages_if_marked t t.paging (Some m) xs taken) ++ told)
        (take_all taken samples (omega arith))
        ∙ ap (λ (es : List Event). es ++ told) (sym later_is)
        ∙ ap (λ (es : List Event). later ++ es) (sym (goes.come more some (omega (arith, long))))

    quiet_told : (n : ℕ) → length heard < n → n < length heard + length more → told_by t traffic m legs samples n ≡ []
    quiet_told n past less =
        told_is t traffic m legs samples n
        ∙ ap (λ (ps : List _). map (page_event n) ps ++ told_at t traffic m legs (take n samples) n)
        (quiet (take n samples) n past less)
        ∙ goes.quiet more n past less

    -- up to the mark nothing is
    early_told : taken ≤ m.sample → told_by t traffic m legs samples taken ≡ []
    early_told at_mark =
        last_told
        ∙ ap (λ (es : List Event). es ++ left_of samples)
        (later_is ∙ ap (map (page_event taken)) (before taken at_mark))
        ∙ goes.come more some (omega (arith, long))
        ∙ told_none t traffic m legs (take taken samples) taken
        (λ k inside e.
        let low = known_low t traffic m legs closes k in omega (arith, low, e, at_mark))

    -- The sets with what is left to take are those the definition has after more samples: after the moment
    -- only the last of these tells anything, which is what is left, and up to the mark nothing is told.
    sets_more : all_noted m (later ++ left_of samples) r.sets.sets
        ≡ heard_from t traffic m kept samples r.sets.passed (taken - place)
    sets_more =
        let j : ℕ = r.sets.passed in
        let a : ℕ = length heard - place in
        let was : Standing = heard_from t traffic m kept heard j a in
        let begun = st.among.begun in
        ap (λ (es : List Event). all_noted m es r.sets.sets) (sym last_told)
        ∙ ap (all_noted m (told_by t traffic m legs samples taken))
        (sym (ap (λ (es : List Event). all_noted m (es ++ left_of heard) r.sets.sets) given
        ∙ ap (λ (es : List Event). all_noted m es r.sets.sets)
        (told_given (none_come r sound none) (none_kept r none) (omega (arith, some, ends))))
        ∙ st.sets_are)
        ∙ elim (cases_lt place taken) [
          | inl following ↦
              let d : ℕ = taken - place - a - 1 in
              let last : place + (a + d) + 1 ≡ taken = omega (arith, long, following, some) in
              let count : a + d + 1 ≡ taken - place = omega (arith, long, following, some) in
              sym (heard_grown t traffic m kept j heard more a d
              (λ i less.
              told_first t traffic m legs heard more (place + i + 1) (omega (arith, less)))
              (λ i low less. quiet_told (place + i + 1) (omega (arith, low)) (omega (arith, less, long)))
              ∙ ap (λ (n : ℕ). all_noted m (told_by t traffic m legs samples n) was) last)
              ∙ ap (heard_from t traffic m kept samples j) count
          | inr ahead ↦
              let at_mark : taken ≤ m.sample =
              elim (cases_lt 0 j) [
                | inl less ↦ let b = begun less in absurd (omega (arith, b, ahead, some, long))
                | inr first ↦ omega (arith, ahead, first)
              ] in
              let now : a ≡ 0 = omega (arith, ahead, long) in
              let then : taken - place ≡ 0 = omega (arith, ahead) in
              ap (λ (es : List Event). all_noted m es was) (early_told at_mark)
              ∙ ap (heard_from t traffic m kept heard j) now
              ∙ heard_none t traffic m kept j heard []
              ∙ sym (heard_none t traffic m kept j samples [])
              ∙ sym (ap (heard_from t traffic m kept samples j) then)
        ]

    pub hears_more : HearsWith t traffic m r samples later kept
    hears_more =
        let idle = none_come r sound none in
        let begun = st.among.begun in
        let signals = signals_sooner t traffic m legs heard more next (λ k less inside. st.frames.ended k less) in
        record {
          tuned = st.tuned;
          among = record {
            within = omega (arith, long, within);
            begun = λ some'. let b = begun some' in omega (arith, long, b);
            coming = omega (arith, long, early);
            due_is = λ due. absurd (none (inr due));
          };
          frames = record {
            start_is = st.frames.start_is;
            ended = λ k less. let e = st.frames.ended k less in omega (arith, long, e);
            come = λ come. absurd (omega (arith, come, idle));
            framed = subst (CapsuleStandsFor r.receiver.framer) (sym signals) st.frames.framed;
          };
          close = st.close;
          legs_are = st.legs_are;
          pilots_are = st.pilots_are;
          following = λ event rest left some'.
              let b = begun some' in omega (arith, long, b, some);
          sets_are = sets_more;
        }

  -- the places of a frame's power control bits
  places_at : (k : ℕ) →
      power_places (after r.receiver.frames.scrambling.state (24576 * k)) r.receiver.frames.scrambling.mask
      ≡ replaced_in traffic m k
  places_at k =
      ap (λ (n : ℕ). power_places n r.receiver.frames.scrambling.mask)
      (state_on traffic m r.receiver.frames.scrambling.state k st.tuned.state_is)
      ∙ ap (power_places (frame_state traffic m k)) st.tuned.mask_is

  -- A FRAME
  -- The soft values of the frame whose last sample has just come: the pilots of the one after it
  -- are still to be told.
  pub hears_come : (fresh : List ℤ) (power : PowerSofts) (replaced : List ℕ) → coming ≡ next →
      end ≡ length heard → fresh ≡ softs heard r.receiver.frames.fingers Data r.receiver.frames.clock.start →
      replaced ≡ power_places (after r.receiver.frames.scrambling.state (24576 * coming)) r.receiver.frames.scrambling.mask →
      frames.summed_subchannels power
      ≡ map (sums_on heard r.receiver.phase (take r.receiver.near.count r.receiver.near.deltas) r.receiver.legs
      r.receiver.frames.clock.start replaced)
      (subchannels r.receiver.legs) →
      HearsUpTo r.sets.passed t traffic m (record r { receiver = frame_taken fresh power r.receiver }) heard pages kept
  hears_come fresh power replaced idle ended softs_is replaced_is power_is =
      let early = st.among.coming in
      let told = told_by_end (omega (arith, ended, early)) in
      let here = end_is told in
      let high = known_high t traffic m legs closes coming in
      let was = st.frames.start_is in
      let form : frame_chips r.receiver.frames.clock.form ≡ 24576 = ap frame_chips sound.receiver.frames.form_is in
      let same = ap known idle in
      let offset = st.tuned.offset in
      let begun = st.among.begun in
      record {
        tuned = st.tuned;
        among = st.among;
        frames = record {
          start_is = omega (arith, was, form);
          ended = st.frames.ended;
          come = λ come. record {
            known = omega (arith, same, here, ended);
            softs_are = softs_is
                ∙ ap (λ (fs : List Finger). softs heard fs Data r.receiver.frames.clock.start) sound.receiver.fingers_are
                ∙ parts_are (λ p ds ls u. softs heard (all_fingers p ds ls) Data u) told
                ∙ ap (raw_softs t traffic m legs heard) idle;
            power_is = power_is
                ∙ parts_are (λ p ds ls u. map (sums_on heard p ds ls u replaced) (subchannels ls)) told
                ∙ ap (λ (ps : List ℕ).
                map (sums_on heard t.phase t.deltas (legs coming) (traffic_start traffic m coming) ps)
                (subchannels (legs coming))) (replaced_is ∙ places_at coming)
                ∙ ap (all_sums t traffic m legs heard) idle;
          };
          framed = st.frames.framed;
        };
        close = st.close;
        legs_are = λ less.
            elim (cases_lt 0 r.sets.passed) [
              | inl some ↦
                  let b = begun some in absurd (omega (arith, less, b, ended, here, high, offset))
              | inr none ↦ absurd (omega (arith, less, none))
            ];
        pilots_are = st.pilots_are;
        following = st.following;
        sets_are = st.sets_are;
      }

  -- a frame that is due lies in the file
  pub due_inside : next < coming → has_frame t traffic m legs next ≡ true
  due_inside come =
      let here = (st.frames.come come).known in
      let within = st.among.within in
      has_here t traffic m legs closes far next (omega (arith, here, within))

  -- What is decoded of the frame that is due, and its power control bits, are the definition's: its scrambling
  -- and replaced places are those of its own state and mask, and so were its soft values and sums when they came.
  pub next_here : next < coming → (replaced : List ℕ) (descrambled : List ℤ) (frame : Decoded) (told : List Bool) →
      replaced ≡ power_places (after r.receiver.frames.scrambling.state (24576 * next)) r.receiver.frames.scrambling.mask →
      descrambled
      ≡ unscrambled
      (scrambling (after r.receiver.frames.scrambling.state (24576 * next)) r.receiver.frames.scrambling.mask) r.receiver.softs →
      frame ≡ decoded replaced descrambled →
      told ≡ map (power_bit (frames.summed_subchannels r.receiver.power)) (places 16) →
      (frame ≡ decoded_at t traffic m legs heard next) × (told ≡ power_bits_at t traffic m legs heard next)
  unfolding decoded_at power_bits_at
  next_here come replaced descrambled frame told replaced_is descrambled_is frame_is told_is =
      let bits = scrambling (frame_state traffic m next) (traffic_mask traffic.esn) in
      let bits_are =
      ap (λ (n : ℕ). scrambling n r.receiver.frames.scrambling.mask)
      (state_on traffic m r.receiver.frames.scrambling.state next st.tuned.state_is)
      ∙ ap (scrambling (frame_state traffic m next)) st.tuned.mask_is in (
        frame_is
            ∙ ap (λ (ps : List ℕ). decoded ps descrambled) (replaced_is ∙ places_at next)
            ∙ ap (decoded (replaced_in traffic m next))
            (descrambled_is
            ∙ ap (λ (b : List Bool). unscrambled b r.receiver.softs) bits_are
            ∙ ap (unscrambled bits) (st.frames.come come).softs_are),
        told_is
            ∙ ap (λ (sums : List (List ℤ)). map (power_bit sums) (places 16)) (st.frames.come come).power_is,
      )

-- The pilots of the frame that comes next have been taken, where the last moment tells them.
pub hears_tuned : {t : Tuning} {traffic : Traffic} {m : Mark} {r : SoftHandoff}
    {heard : List Sample} {pages : List Event} {kept : ℕ → Standing} (legs : List Leg) (end : ℕ)
    (fingers : List Finger) → HearsUpTo r.sets.passed t traffic m r heard pages kept →
    ((r.receiver.frames.clock.start - r.sets.mark.sample) / 98304 ≡ r.sets.passed →
    legs ≡ legs_of r.sets.mark r.sets.sets) →
    (¬ ((r.receiver.frames.clock.start - r.sets.mark.sample) / 98304 ≡ r.sets.passed) → legs ≡ r.receiver.legs) →
    HearsWith t traffic m (record r { receiver = tuned_to legs end fingers r.receiver }) heard pages kept
hears_tuned {traffic = traffic} {m = m} {r = r} {kept = kept} legs end fingers st tuned stays =
    let sample = ap (λ (x : Mark). x.sample) st.tuned.mark_is in
    let start = st.frames.start_is in
    let moment : (r.receiver.frames.clock.start - r.sets.mark.sample) / 98304
    ≡ moment_of traffic r.receiver.frames.clock.have = omega (arith, sample, start) in
    record {
      tuned = st.tuned;
      among = st.among;
      frames = st.frames;
      close = st.close;
      legs_are = λ early.
          elim (cases_lt (moment_of traffic r.receiver.frames.clock.have) r.sets.passed) [
            | inl less ↦ stays (λ here. omega (arith, here, moment, less)) ∙ st.legs_are less
            | inr last ↦
                let here : r.sets.passed ≡ moment_of traffic r.receiver.frames.clock.have =
                omega (arith, early, last) in
                tuned (moment ∙ sym here)
                ∙ ap (λ (x : Mark). legs_of x r.sets.sets) st.tuned.mark_is
                ∙ st.pilots_are
                ∙ ap (λ (i : ℕ). legs_of m (kept i)) here
          ];
      pilots_are = st.pilots_are;
      following = st.following;
      sets_are = st.sets_are;
    }
