-- Lemmas on a handset whose events are given to taps.
use Rattle.run_replies.proofs.Common.{◌≡◌, ℕ, zero, suc, ◌+◌, ◌-◌, ◌≤◌, ◌++◌, ◌∷◌, [], List, length, take, drop, refl, sym, ap, ◌∙◌, subst}
use Rattle.run_replies.proofs.Common.{arith, append_assoc, append-nil, length-append, ℤ, pos, replicate, Option, None, Some, Result, Ok}
use Rattle.run_replies.proofs.Common.{Err, OnOk, length-replicate, take_all, take_at, take_rest, flat_map-append, flat_map, range_with_len}
use Rattle.run_replies.proofs.Common.{StartsWith, Appends, Appends-nil, Appends-trans, places, places-more, flat_map_ext_places, Sample}
use Rattle.run_replies.proofs.Common.{AppendsPrefix, events, events_at, heard_within, event_list, ForSome, Traffic, IsLawfulTraffic, low_of}
use Rattle.run_replies.proofs.Common.{IsSoundAssignment, AreNear, IsStep, StandsFor, Steps, events_left, IsTimed, Tuning, sync_stream}
use Rattle.run_replies.proofs.Common.{tuning_by, Event, Pilot, Mobile, Step, KeptTap, heard_text, run_taps, run_text, timed_of, taps_after}
use Rattle.run_replies.proofs.Common.{run_taps-append, run_taps-more, run_text-append, run_text-more, run_text-none, begins_more}
use Rattle.run_replies.proofs.Common.{prefix_before, prefix_after, taken_begins, events_sooner, IsBestIn, Near, near_deltas}
use Rattle.run_replies.proofs.Common.{Best, best_energy-only, best_phase-only, Settings, AreNearTo, AreReady, ByTaps, HasTold, IfOk}
use Rattle.run_replies.proofs.Common.{HandsetGave, GainsText, GainsPrefix, told, tuning_for, heard_none, take-append-drop, best_phase}
use Rattle.run_replies.proofs.Common.{energy as energy_at, take-add}

-- ---- samples that follow one another

nil_taken : {X : Type 0} (n : ℕ) → take n (let none : List X = [] in none) ≡ []
nil_taken zero = refl
nil_taken (suc n) = refl

-- numbers below one, and those after them
places_parted : (a b : ℕ) → places (a + b) ≡ places a ++ range_with_len a b
places_parted a zero = ap places (omega arith) ∙ sym (append-nil (places a))
places_parted a (suc b) =
    let next : a + suc b ≡ (a + 1) + b = omega arith in
    ap places next ∙ places_parted (a + 1) b ∙
    ap (λ (ns : List ℕ). ns ++ range_with_len (a + 1) b) (places-more a) ∙
    append_assoc (places a) (a ∷ []) (range_with_len (a + 1) b)
    ∙ ap (λ (k : ℕ). places a ++ a ∷ range_with_len k b) (omega arith)

-- ---- telling

pub told_none : (t : Tuning) (taps : List KeptTap) (mobile : Mobile) (kept : List KeptTap)
    (given : List Event) (heard : List Sample) (old : Option (List ℕ)) →
    StandsFor t mobile heard given → kept ≡ run_taps taps given → HasTold t taps mobile kept given heard old old
told_none t taps mobile kept given heard old stands following = record {
  more = [];
  written = subst (Appends old old) (sym (run_text-none (run_taps taps given))) (Appends-nil old);
  stands = rw (append-nil given) stands;
  following = following ∙ ap (run_taps taps) (sym (append-nil given));
}

-- the samples of a step after those taken before
pub taken_more : (heard samples : List Sample) (taken n : ℕ) →
    (heard ++ take taken samples) ++ take n (drop taken samples) ≡ heard ++ take (taken + n) samples
taken_more heard samples taken n =
    append_assoc heard (take taken samples) (take n (drop taken samples)) ∙
    ap (λ (xs : List Sample). heard ++ xs) (sym (take-add taken n samples))

-- a step after them that gave this event, or none
pub step_stands : {one other : Mobile} {step : Step} (t : Tuning) (heard samples : List Sample)
    (taken : ℕ) (found : Option Event) → step.event ≡ found →
    Steps one other (take (length samples - taken) (drop taken samples)) step →
    (before : List Event) → StandsFor t one (heard ++ take taken samples) before →
    StandsFor t other ((heard ++ take taken samples) ++ take step.taken (drop taken samples))
    (before ++ event_list found)
step_stands {one} {other} {step} t heard samples taken found is steps before stands =
    subst (λ (e : Option Event). StandsFor t other
    ((heard ++ take taken samples) ++ take step.taken (drop taken samples)) (before ++ event_list e)) is
    (subst (λ (xs : List Sample). StandsFor t other
    ((heard ++ take taken samples) ++ take step.taken xs) (before ++ event_list step.event))
    (take_rest samples taken) (steps.stands t (heard ++ take taken samples) before stands))

-- the next event was given, and its text written
pub told_more : (t : Tuning) (taps : List KeptTap) (one other : Mobile)
    (kept following : List KeptTap) (given : List Event) (heard samples : List Sample)
    (taken n : ℕ) (event : Event) (old mid new : Option (List ℕ)) →
    HasTold t taps one kept given (heard ++ take taken samples) old mid →
    ((before : List Event) → StandsFor t one (heard ++ take taken samples) before →
    StandsFor t other ((heard ++ take taken samples) ++ take n (drop taken samples))
    (before ++ event ∷ [])) →
    Appends mid new (heard_text kept event) → following ≡ taps_after kept event →
    HasTold t taps other following given (heard ++ take (taken + n) samples) old new
told_more t taps one other kept following given heard samples taken n event old mid new so_far stepped
    written next =
    let more = so_far.more in
    let first = run_taps taps given in
    let now : kept ≡ run_taps first more = so_far.following ∙ run_taps-append taps given more in
    let text : run_text first (more ++ event ∷ []) ≡ run_text first more ++ heard_text kept event =
    run_text-more first more event ∙
    ap (λ (k : List KeptTap). run_text first more ++ heard_text k event) (sym now) in
    record {
      more = more ++ event ∷ [];
      written =
          subst (Appends old new) (sym text)
          (Appends-trans old mid new (run_text first more) (heard_text kept event) so_far.written
          written);
      stands =
          subst (λ (xs : List Sample). StandsFor t other xs (given ++ (more ++ event ∷ [])))
          (taken_more heard samples taken n)
          (subst (λ (es : List Event). StandsFor t other
          ((heard ++ take taken samples) ++ take n (drop taken samples)) es)
          (append_assoc given more (event ∷ []))
          (stepped (given ++ more) so_far.stands));
      following = next ∙ ap (λ (k : List KeptTap). taps_after k event) so_far.following
          ∙ sym (run_taps-more taps (given ++ more) event)
          ∙ ap (run_taps taps) (append_assoc given more (event ∷ []));
    }

-- all samples were taken, and no event is left: what was given is all that is heard in them
pub all_given : (t : Tuning) (other : Mobile) (heard samples : List Sample) (taken n : ℕ)
    (es : List Event) → n ≡ length (drop taken samples) →
    StandsFor t other ((heard ++ take taken samples) ++ take n (drop taken samples)) (es ++ []) →
    es ≡ events t ((heard ++ take taken samples) ++ drop taken samples) →
    StandsFor t other (heard ++ samples) (events t (heard ++ samples)) × (es ≡ events t (heard ++ samples))
all_given t other heard samples taken n es all stands is =
    let joined : (heard ++ take taken samples) ++ drop taken samples ≡ heard ++ samples =
    append_assoc heard (take taken samples) (drop taken samples) ∙
    ap (λ (xs : List Sample). heard ++ xs) (take-append-drop taken samples) in
    let whole : take n (drop taken samples) ≡ drop taken samples =
    rw all (take_all (length (drop taken samples)) (drop taken samples) (omega arith)) in
    let given_all : es ≡ events t (heard ++ samples) = is ∙ ap (events t) joined in (
      subst (λ (fs : List Event). StandsFor t other (heard ++ samples) fs) (append-nil es ∙ given_all)
          (subst (λ (xs : List Sample). StandsFor t other xs (es ++ []))
          (ap (λ (xs : List Sample). (heard ++ take taken samples) ++ xs) whole ∙ joined) stands),
      given_all,
    )

pub told_all : (t : Tuning) (taps : List KeptTap) (one other : Mobile) (kept : List KeptTap)
    (heard samples : List Sample) (taken n : ℕ) (old new : Option (List ℕ)) →
    HasTold t taps one kept (events t heard) (heard ++ take taken samples) old new → n ≡ length (drop taken samples) →
    ((before : List Event) → StandsFor t one (heard ++ take taken samples) before →
    StandsFor t other ((heard ++ take taken samples) ++ take n (drop taken samples))
    (before ++ [])) →
    ((before : List Event) → StandsFor t one (heard ++ take taken samples) before →
    before ≡ events t ((heard ++ take taken samples) ++ drop taken samples)) →
    GainsText (ByTaps t taps) heard (heard ++ samples) old new × HandsetGave t taps other kept (heard ++ samples)
unfolding told
told_all t taps one other kept heard samples taken n old new so_far all stepped last =
    let given = events t heard in
    let more = so_far.more in
    let (stands, given_all) = all_given t other heard samples taken n (given ++ more) all
    (stepped (given ++ more) so_far.stands) (last (given ++ more) so_far.stands) in (
      record {
        text = run_text (run_taps taps given) more;
        written = so_far.written;
        all = sym (run_text-append taps given more) ∙ ap (run_text taps) given_all;
      },
      (stands, so_far.following ∙ ap (run_taps taps) given_all),
    )

-- ---- what is heard in the first samples stays so

-- What is heard in `xs` begins what is heard in `xs` and then `ys`, since the events known at no
-- more samples than `xs` has depend on these alone, and all others come after them.
first_events : (t : Tuning) (low : ℕ) → IsTimed t.count (sync_stream t) low → AreNear (sync_stream t).fingers →
    (xs ys : List Sample) → (more : List Event) × (events t (xs ++ ys) ≡ events t xs ++ more)
unfolding heard_within
first_events t low timed near xs ys =
    let n = length xs in
    let g = events_at t (xs ++ ys) in
    let sooner : flat_map g (places (n + 1)) ≡ flat_map (events_at t xs) (places (n + 1)) =
    flat_map_ext_places g (events_at t xs) (n + 1)
    (λ k below. events_sooner t low timed near xs ys k (omega (arith, below))) in
    let long : length (xs ++ ys) + 1 ≡ (n + 1) + length ys = omega (arith, length-append xs ys) in
    let parted : flat_map g (places (length (xs ++ ys) + 1)) ≡
    flat_map g (places (n + 1)) ++ flat_map g (range_with_len (n + 1) (length ys)) =
    ap (λ (k : ℕ). flat_map g (places k)) long ∙
    ap (flat_map g) (places_parted (n + 1) (length ys)) ∙
    flat_map-append g (places (n + 1)) (range_with_len (n + 1) (length ys)) in (
      flat_map g (range_with_len (n + 1) (length ys)),
      ap (λ (es : List Event). Pilot t.phase t.energy ∷ es)
          (parted ∙
          ap (λ (es : List Event). es ++ flat_map g (range_with_len (n + 1) (length ys))) sooner),
    )

-- the text of events after others begins with that of the next ones, and so far as it goes of one
-- more
text_begins : (taps : List KeptTap) (given more : List Event) (event : Event) (others : List Event) →
    run_text taps (((given ++ more) ++ event ∷ []) ++ others) ≡
    run_text taps given ++ (run_text (run_taps taps given) more ++
    (heard_text (run_taps taps (given ++ more)) event ++
    run_text (run_taps taps ((given ++ more) ++ event ∷ [])) others))
text_begins taps given more event others =
    let now = run_taps taps (given ++ more) in
    let ends = run_text (run_taps taps ((given ++ more) ++ event ∷ [])) others in
    run_text-append taps ((given ++ more) ++ event ∷ []) others
    ∙ ap (λ (xs : List ℕ). xs ++ ends)
    (run_text-more taps (given ++ more) event
    ∙ ap (λ (xs : List ℕ). xs ++ heard_text now event) (run_text-append taps given more))
    ∙ regroup (run_text taps given) (run_text (run_taps taps given) more) (heard_text now event)
    ends
  where
    regroup : (a b c d : List ℕ) → ((a ++ b) ++ c) ++ d ≡ a ++ (b ++ (c ++ d))
    regroup a b c d = simp append_assoc

-- a write failed in the middle of an event's text
pub told_part : (t : Tuning) (taps : List KeptTap) (one other : Mobile) (kept : List KeptTap)
    (heard samples : List Sample) (taken n : ℕ) (event : Event) (old mid new : Option (List ℕ)) →
    HasTold t taps one kept (events t heard) (heard ++ take taken samples) old mid →
    ((before : List Event) → StandsFor t one (heard ++ take taken samples) before →
    StandsFor t other ((heard ++ take taken samples) ++ take n (drop taken samples))
    (before ++ event ∷ [])) →
    AppendsPrefix mid new (heard_text kept event) → GainsPrefix (ByTaps t taps) heard (heard ++ samples) old new
unfolding told
told_part t taps one other kept heard samples taken n event old mid new so_far stepped part =
    let given = events t heard in
    let more = so_far.more in
    let line = heard_text kept event in
    let now = heard ++ take (taken + n) samples in
    let stands : StandsFor t other now ((given ++ more) ++ event ∷ []) =
    subst (λ (xs : List Sample). StandsFor t other xs ((given ++ more) ++ event ∷ []))
    (taken_more heard samples taken n) (stepped (given ++ more) so_far.stands) in
    let later =
    first_events t other.sync.received.clock.low stands.sync.receives.clocked.timed
    (subst AreNear stands.sync.receives.fingers_are other.sound.hears.channel.near) now (drop (taken + n) samples) in
    let joined : now ++ drop (taken + n) samples ≡ heard ++ samples =
    append_assoc heard (take (taken + n) samples) (drop (taken + n) samples) ∙
    ap (λ (xs : List Sample). heard ++ xs) (take-append-drop (taken + n) samples) in
    let left = events_left t other now in
    let others = left ++ later.0 in
    let whole : events t (heard ++ samples) ≡ ((given ++ more) ++ event ∷ []) ++ others =
    ap (events t) (sym joined) ∙ later.1 ∙
    ap (λ (es : List Event). es ++ later.0) (sym stands.told) ∙
    append_assoc ((given ++ more) ++ event ∷ []) left later.0 in
    let first = run_text (run_taps taps given) more in
    let ends = run_text (run_taps taps ((given ++ more) ++ event ∷ [])) others in
    let all = first ++ (line ++ ends) in
    let text : run_text taps (events t (heard ++ samples)) ≡ run_text taps given ++ all =
    ap (run_text taps) whole ∙ text_begins taps given more event others ∙
    ap (λ (k : List KeptTap). run_text taps given ++ (first ++ (heard_text k event ++ ends))) (sym so_far.following) in
    let cut : AppendsPrefix old new all =
    prefix_after old mid new first (line ++ ends) so_far.written (prefix_before mid new line ends part) in
    record {
      text = take cut.count all;
      written = cut.appended;
      begins =
          subst (λ (xs : List ℕ). StartsWith xs (run_text taps given ++ take cut.count all)) (sym text)
          (begins_more (run_text taps given) all (take cut.count all)
          (taken_begins all cut.count cut.fits));
    }

-- before any sample is taken the pilot is told, and nothing is heard
events_none : (t : Tuning) → AreNear (sync_stream t).fingers → events t [] ≡ Pilot t.phase t.energy ∷ []
events_none t near =
    ap (λ (es : List Event). Pilot t.phase t.energy ∷ es) (heard_none t (low_of t) (timed_of t near) near)

same_head : {A : Type 0} (x y : A) (xs ys : List A) → x ∷ xs ≡ y ∷ ys → x ≡ y
same_head x y xs ys e = cc

-- the first event of a handset is the pilot
module _ (t : Tuning) (one other : Mobile) (step : Step) (event : Event)
    (does : IsStep one other [] step) (gave : step.event ≡ Some event)
    (stands : StandsFor t one [] []) where
  stands_after : StandsFor t other [] (event ∷ [])
  stands_after =
      subst (λ (e : Option Event). StandsFor t other [] (event_list e)) gave
      (subst (λ (xs : List Sample). StandsFor t other xs (event_list step.event)) (nil_taken step.taken)
      (does.steps.stands t [] [] stands))

  event_is : event ≡ Pilot t.phase t.energy
  event_is =
      same_head event (Pilot t.phase t.energy) (events_left t other []) (heard_within t [] 0) stands_after.told

  none_more : events t [] ≡ event ∷ []
  none_more =
      events_none t
      (subst AreNear stands_after.sync.receives.fingers_are other.sound.hears.channel.near)
      ∙ ap (λ (e : Event). e ∷ []) (sym event_is)

  -- so where the taps have heard it, all is told that is before any sample
  pub pilot_begins : (kept following : List KeptTap) (old new : Option (List ℕ)) →
      Appends old new (heard_text kept event) → following ≡ taps_after kept event →
      Appends old new (told (ByTaps t kept) []) × HandsetGave t kept other following []
  unfolding told run_text run_taps
  pilot_begins kept following old new written next = (
    subst (Appends old new)
        (sym (ap (run_text kept) none_more ∙ append-nil (heard_text kept event))) written,
    (subst (StandsFor t other []) (sym none_more) stands_after, next ∙ ap (run_taps kept) (sym none_more)),
  )

  -- and a beginning of its text is one of what is told of any samples
  pub pilot_part : (kept : List KeptTap) (samples : List Sample) (old new : Option (List ℕ)) →
      AppendsPrefix old new (heard_text kept event) → AppendsPrefix old new (told (ByTaps t kept) samples)
  unfolding told run_text
  pilot_part kept samples old new part =
      let pilot = Pilot t.phase t.energy in
      prefix_before old new (heard_text kept pilot)
      (run_text (taps_after kept pilot) (heard_within t samples (length samples)))
      (subst (λ (e : Event). AppendsPrefix old new (heard_text kept e)) event_is part)

-- it has one
pub pilot_there : (t : Tuning) (one other : Mobile) (step : Step) → IsStep one other [] step →
    StandsFor t one [] [] → step.event ≡ None → ⊥
pilot_there t one other step does stands none =
    no_cons (Pilot t.phase t.energy) (heard_within t [] 0) ((does.none none).1 t [] [] stands)
  where
    no_cons : (e : Event) (es : List Event) → [] ≡ e ∷ es → ⊥
    no_cons e es is = absurd (cc)

-- ---- a handset that has taken nothing

-- the first of three, after which nothing was found
pub first_near : (deltas found : List ℤ) (count : ℕ) → length deltas ≡ 3 → count ≤ 3 →
    deltas ≡ found ++ replicate (3 - count) (pos 0) → take count deltas ≡ found
first_near deltas found count long most is =
    let few : length found ≡ count =
    omega (
      arith,
      ap length is,
      length-append found (replicate (3 - count) (pos 0)),
      length-replicate (3 - count) (pos 0),
      long,
      most,
    ) in
    ap (take count) is ∙ take_at found (replicate (3 - count) (pos 0)) count few

pub near_taken : (first : List Sample) (fingers : ℕ) (best : Best) (near : Near) →
    IsBestIn first 0 32768 best.phase best.energy → near.count ≡ fingers → fingers ≤ 3 → length near.deltas ≡ 3 →
    near.deltas ≡ near_deltas first best.phase fingers ++ replicate (3 - fingers) (pos 0) →
    take near.count near.deltas ≡ near_deltas first (best_phase first) fingers
near_taken first fingers best near found counted most long deltas =
    ap (λ (n : ℕ). take n near.deltas) counted ∙
    first_near near.deltas (near_deltas first best.phase fingers) fingers long most deltas
    ∙ ap (λ (p : ℕ). near_deltas first p fingers) (best_phase-only first best.phase best.energy found)

tuned_alike : (settings : Settings) (first : List Sample) (best : Best) (near : Near) →
    IsBestIn first 0 32768 best.phase best.energy → near.count ≡ settings.fingers →
    settings.fingers ≤ 3 → length near.deltas ≡ 3 → near.deltas
    ≡ near_deltas first best.phase settings.fingers ++ replicate (3 - settings.fingers) (pos 0) →
    tuning_by settings best near ≡ tuning_for settings first
tuned_alike settings first best near found counted most long deltas =
    let phase : best.phase ≡ best_phase first = best_phase-only first best.phase best.energy found in
    let energy : best.energy ≡ energy_at first (best_phase first) =
    best_energy-only first best.phase best.energy found in
    let near_is = near_taken first settings.fingers best near found counted most long deltas in
    rw (phase, energy, near_is) refl

pub fresh_given : (settings : Settings) (first : List Sample) (best : Best) (near : Near)
    (mobile : Mobile) → IsBestIn first 0 32768 best.phase best.energy → length near.deltas ≡ 3 →
    AreNearTo first best.phase settings.fingers near → AreReady near →
    StandsFor (tuning_by settings best near) mobile [] [] → StandsFor (tuning_for settings first) mobile [] []
fresh_given settings first best near mobile found long near_is ready stands =
    let most : settings.fingers ≤ 3 = omega (arith, near_is.0, ready.1) in
    subst (λ (t : Tuning). StandsFor t mobile [] [])
    (tuned_alike settings first best near found near_is.0 most long near_is.1) stands

-- the traffic channel of lawful arguments is one that a base station may assign
pub sound_assignment : (paging : ℕ) (traffic : Option Traffic) → IsLawfulTraffic paging traffic →
    ForSome traffic IsSoundAssignment
sound_assignment paging None lawful = λ (t : Traffic) (is : None ≡ Some t). absurd (cc)
sound_assignment paging (Some channel) lawful =
    λ (t : Traffic) (is : Some channel ≡ Some t).
    let same : channel ≡ t = cc in
    subst IsSoundAssignment same (record { row = omega (arith, lawful.0.most); offset = lawful.0.offset })

-- ---- what follows where a call went well, or failed

pub if_ok : {T E : Type 0} (r : Result T E) (P Q : T → Type 0) → ((x : T) → P x → Q x) → IfOk r P → IfOk r Q
if_ok (Ok x) P Q f holds = f x holds
if_ok (Err e) P Q f holds = tt

pub on_ok_both : {T E : Type 0} (r : Result T E) (P Q S : Type 0) → (P → Q → S) → OnOk r P → OnOk r Q → OnOk r S
on_ok_both (Ok x) P Q S f one other = f one other
on_ok_both (Err e) P Q S f one other = one
