-- What a handset's traffic channel has still to give, as samples come.
use Rattle.mobile_core.proofs.Common.{traffic_events_left, false_from_ne_true, pages_if_marked, traffic_left_of, moments_before, GivesFirst}
use Rattle.mobile_core.proofs.Common.{FollowsTraffic, IsSoundHandoff, told_left_with, length-append, if◌then◌else◌, traffic_heard, take_all}
use Rattle.mobile_core.proofs.Common.{moment_place, coming_place, traffic_left, HearsTraffic, IsTrafficDue, sets_left_of, messages_at, ◌==◌}
use Rattle.mobile_core.proofs.Common.{HearsFrames, SoftHandoff, option_map, told_after, IsSomeAnd, frames_at, IsUnheard, HearsWith, ForSome}
use Rattle.mobile_core.proofs.Common.{next_end, noted_by, kept_to, legs_at, legs_by, sets_at, kept_in, WaitsAt, Traffic, goes_as, told_at}
use Rattle.mobile_core.proofs.Common.{length, Option, ne_eqb, Sample, Tuning, GoesOn, subst, arith, false, at_of, Event, never, List, ◌++◌}
use Rattle.mobile_core.proofs.Common.{refl, Some, None, take, Bool, Mark, both, ◌≡◌, ◌+◌, ◌^◌, ◌<◌, ◌≤◌, sym, ◌∙◌, inr, ◌∷◌, Leg, [], ap, ℕ}
use Rattle.heard_events.specs.declared.channel.CodeChannel.TheVariants.{Traffic as OnTraffic}
use Rattle.mobile_core.proofs.FramesHeard.{none_come, none_kept, not_left, told_go}
use Rattle.mobile_core.proofs.FramesTold.{hears_noted, moments_are}
use Rattle.heard_events.proofs.MomentGrowth.{kept_sooner}
use Rattle.mobile_core.proofs.PagesFollowed.{paged_after}
use Rattle.mobile_core.proofs.FramesHeard as heard_frames

-- what is heard of the channel when just n samples have been taken: frames first, the moment last
abbrev pub all_told : Tuning → Traffic → Mark → List Sample → ℕ → List Event
all_told t traffic m samples n =
    (frames_at t traffic m samples n ++ messages_at t traffic m samples n)
    ++ sets_at t traffic m samples n

pub unheard : (t : Tuning) (followed : Option Traffic) (mark : Option Mark)
    (samples : List Sample) (n : ℕ) → IsUnheard followed mark →
    told_after t (option_map OnTraffic followed) mark samples n ≡ []
unheard t None mark samples n h = refl
unheard t (Some traffic) mark samples n h =
    ap (λ (x : Option Mark). told_after t (Some (OnTraffic traffic)) x samples n) h

-- THE CHANNEL AND ITS SETS
-- a moment lies there, or none does
set_there : (t : Tuning) (traffic : Traffic) (m : Mark) (samples : List Sample) (n j : ℕ) →
    moments_before m n ≡ j → take n samples ≡ samples → length samples ≡ n →
    sets_at t traffic m samples n ≡ sets_left_of t traffic m samples j
unfolding sets_at sets_left_of
set_there t traffic m samples n j moments whole long = rw (moments, whole, long) refl

no_set : (t : Tuning) (traffic : Traffic) (m : Mark) (samples : List Sample) (n j : ℕ) →
    moments_before m n ≡ j → ¬ (moment_place m (j + 1) ≡ n) → sets_at t traffic m samples n ≡ []
unfolding sets_at
no_set t traffic m samples n j moments elsewhere =
    let none : (moment_place m (moments_before m n + 1) == n) ≡ false =
    ne_eqb (moment_place m (moments_before m n + 1)) n (λ e. elsewhere (omega (arith, e, moments))) in
    rw none refl

module _ {t : Tuning} {traffic : Traffic} {m : Mark} {r : SoftHandoff} {heard : List Sample}
    {pages : List Event} (st : HearsTraffic t traffic m r heard pages) (sound : IsSoundHandoff r)
    (none : ¬ IsTrafficDue r) where
  place_is : coming_place r.sets ≡ moment_place m (r.sets.passed + 1)
  place_is =
      ap (λ (b : Bool). moment_place r.sets.mark (r.sets.passed + (if b then 2 else 1)))
      (false_from_ne_true r.sets.due (λ due. none (inr due)))
      ∙ ap (λ (x : Mark). moment_place x (r.sets.passed + 1)) st.tuned.mark_is

  ends_at : (n : ℕ) → n ≤ next_end r → (n ≤ r.receiver.frames.clock.end) × (n ≤ moment_place m (r.sets.passed + 1))
  ends_at n h = let place = place_is in (omega (arith, h), omega (arith, h, place))

  moments_here : (n : ℕ) → length heard < n → n ≤ moment_place m (r.sets.passed + 1) →
      moments_before m n ≡ r.sets.passed
  moments_here n past early =
      moments_are m r.sets.passed n early (λ some. let b = st.among.begun some in omega (arith, b, past))

  module _ (more : List Sample) where
    kept_more : kept_to t traffic m (heard ++ more) r.sets.passed ≡ kept_in t traffic m r heard
    kept_more = kept_sooner t traffic m heard more r.sets.passed st.among.begun

    legs_here : (n : ℕ) → length heard < n → n ≤ moment_place m (r.sets.passed + 1) →
        legs_at t traffic m (heard ++ more) n ≡ legs_by traffic m (kept_in t traffic m r heard)
    legs_here n past early =
        ap (λ (j : ℕ). legs_by traffic m (kept_to t traffic m (heard ++ more) j)) (moments_here n past early)
        ∙ ap (legs_by traffic m) kept_more

  -- frames and what they complete are told, and then the moment
  receiver_goes : (end : ℕ) → end ≤ next_end r →
      GoesOn (all_told t traffic m) (λ samples. traffic_left_of t traffic m samples r) heard end
  receiver_goes end ends = both told_goes sets_goes
    where
      parts : (end ≤ r.receiver.frames.clock.end) × (end ≤ moment_place m (r.sets.passed + 1))
      parts = ends_at end ends

      -- The frames and messages of a traffic channel go on as those that its receiver has left: up
      -- to the next moment it is heard from the active pilots that the moments before it left,
      -- however many samples follow.
      told_goes : GoesOn (λ samples n. told_at t traffic m (legs_at t traffic m samples n) (take n samples) n)
          (λ samples. told_left_with t traffic m samples r.receiver (kept_in t traffic m r samples)) heard end
      told_goes =
          let go = told_go st sound (none_come r sound none) (none_kept r none) end parts.0 (omega (arith, parts.1)) in
          record {
            given = go.given;
            quiet = λ more n past before.
                ap (λ (legs : ℕ → List Leg). told_at t traffic m legs (take n (heard ++ more)) n)
                (legs_here more n past (omega (arith, before, parts.1)))
                ∙ go.quiet more n past before;
            come = λ more some most.
                let n : ℕ = length (heard ++ more) in
                ap (told_left_with t traffic m (heard ++ more) r.receiver) (kept_more more)
                ∙ go.come more some most
                ∙ sym (ap (λ (legs : ℕ → List Leg). told_at t traffic m legs (take n (heard ++ more)) n)
                (legs_here more n (omega (arith, length-append heard more, some))
                (omega (arith, most, parts.1))));
          }

      sets_goes : GoesOn (sets_at t traffic m) (λ samples. sets_left_of t traffic m samples r.sets.passed) heard end
      sets_goes = record {
        given = λ early.
            not_left t traffic m heard r.sets.passed (λ e. omega (arith, e, early, parts.1));
        quiet = λ more n past before.
            no_set t traffic m (heard ++ more) n r.sets.passed (moments_here n past (omega (arith, before, parts.1)))
            (λ e. omega (arith, e, before, parts.1));
        come = λ more some most.
            let n : ℕ = length (heard ++ more) in
            sym (set_there t traffic m (heard ++ more) n r.sets.passed
            (moments_here n (omega (arith, length-append heard more, some)) (omega (arith, most, parts.1)))
            (take_all n (heard ++ more) (omega arith)) refl);
      }

-- AFTER THE MARK
module _ {t : Tuning} {assigned : Option Traffic} {mark : Option Mark} {r : SoftHandoff}
    {heard : List Sample} {pages : List Event} (st : FollowsTraffic t assigned mark r heard pages) where
  -- it has heard more, or more is left to be heard
  pub tells_on : (after : SoftHandoff) (samples : List Sample) (later : List Event) →
      HearsTraffic t st.traffic st.set after samples later → FollowsTraffic t assigned mark after samples later
  tells_on after samples later hears = record {
    traffic = st.traffic;
    traffic_is = st.traffic_is;
    set = st.set;
    set_is = st.set_is;
    hears = hears;
  }

  pub left_is : (samples : List Sample) (after : SoftHandoff) →
      traffic_left t assigned mark samples after ≡ traffic_left_of t st.traffic st.set samples after
  left_is samples after = rw (st.traffic_is, st.set_is) refl

  told_is : (samples : List Sample) (n : ℕ) → told_after t (option_map OnTraffic assigned) mark samples n
      ≡ all_told t st.traffic st.set samples n
  told_is samples n = rw (st.traffic_is, st.set_is) refl

  -- what was due first has been heard
  pub tells_first : (after : SoftHandoff) (given later : List Event) →
      GivesFirst t st.traffic st.set heard r after given later → FollowsTraffic t assigned mark after heard later
      × (given ++ traffic_left t assigned mark heard after ≡ traffic_left t assigned mark heard r)
  tells_first after given later gives =
      (tells_on after heard later gives.0, rw (left_is heard after, left_is heard r) gives.1)

-- the sets have taken what an event of the paging channel tells
pub frames_noted : {t : Tuning} {assigned : Option Traffic} {mark : Option Mark} {r : SoftHandoff}
    {heard : List Sample} {pages : List Event} (event : Event) → FollowsTraffic t assigned mark r heard (event ∷ pages) →
    at_of event ≡ length heard → FollowsTraffic t assigned mark (noted_by event r) heard pages
    × (traffic_left t assigned mark heard (noted_by event r) ≡ traffic_left t assigned mark heard r)
frames_noted {heard = heard} {pages = pages} event st here =
    (tells_on st (noted_by event _) heard pages (hears_noted event st.hears here), refl)

-- what has been heard is a small number
pub told_few : (r : SoftHandoff) → IsSoundHandoff r → traffic_heard r < 2 ^ 40
told_few r is =
    let few = is.keeper.few in
    let r = is.receiver in
    omega (arith, r.start_least, r.start_most, r.frames.clocked.next_have, few)

-- what an event of the paging channel tells leaves what waits
pub noted_waits : (n : ℕ) (r : SoftHandoff) (event : Event) → WaitsAt n r → WaitsAt n (noted_by event r)
noted_waits n r event waits = record { before = waits.before; due = waits.due }

-- WHETHER A CHANNEL IS FOLLOWED OR NOT
module _ (t : Tuning) (assigned : Option Traffic) (mark : Option Mark) (heard : List Sample)
    (pages : List Event) where
  pub frames_go : (receiver : Option SoftHandoff) → HearsFrames t assigned mark receiver heard pages →
      ForSome receiver IsSoundHandoff → ¬ IsSomeAnd receiver IsTrafficDue → (end : ℕ) →
      ForSome receiver (λ r. end ≤ next_end r) → GoesOn (told_after t (option_map OnTraffic assigned) mark)
      (λ samples. traffic_events_left t assigned mark samples receiver) heard end
  frames_go None following sound none end ends =
      never (told_after t (option_map OnTraffic assigned) mark)
      (λ samples n. unheard t assigned mark samples n following) heard end
  frames_go (Some r) following sound none end ends =
      goes_as (receiver_goes following.hears (sound r refl) none end (ends r refl)) (told_is following)
      (λ samples. left_is following samples r)

  -- A traffic channel has heard more samples, up to the end of its next frame: if none is followed,
  -- nothing changes; otherwise its receiver does, because no page is known before the last of these
  -- samples.
  pub frames_more : (receiver : Option SoftHandoff) → HearsFrames t assigned mark receiver heard pages →
      ForSome receiver IsSoundHandoff → ¬ IsSomeAnd receiver IsTrafficDue →
      (more : List Sample) → 0 < length more → length heard + length more ≤ t.count →
      ForSome receiver (WaitsAt (length heard)) →
      ForSome receiver (λ r. length heard + length more ≤ next_end r) → pages ≡ [] →
      ((samples : List Sample) (n : ℕ) → length heard < n → n < length heard + length more →
      pages_if_marked t t.paging mark samples n ≡ []) →
      ((m : Mark) (n : ℕ) → n ≤ m.sample →
      pages_if_marked t t.paging (Some m) (heard ++ more) n ≡ []) →
      HearsFrames t assigned mark receiver (heard ++ more) (paged_after t mark (heard ++ more) (length (heard ++ more)))
  frames_more None following sound none more some within waits ends given quiet before = following
  frames_more (Some r) following sound none more some within waits ends given quiet before =
      let st = following.hears in
      let m = following.set in
      let later = paged_after t mark (heard ++ more) (length (heard ++ more)) in
      let known = sound r refl in
      let parts = ends_at st known none (length heard + length more) (ends r refl) in
      let grown = heard_frames.hears_more st known more none some parts.0 parts.1
      within given later
      (ap (λ (x : Option Mark). paged_after t x (heard ++ more) (length (heard ++ more)))
      following.set_is)
      (λ samples n past less.
      ap (λ (x : Option Mark). pages_if_marked t t.paging x samples n) (sym following.set_is)
      ∙ quiet samples n past less)
      (before m) in
      tells_on following r (heard ++ more) later
      (subst (HearsWith t following.traffic m r (heard ++ more) later) (sym (kept_more st known none more)) grown)

-- WHERE A MARK IS SET
-- a receiver that is open now has heard nothing
pub frames_opened : (t : Tuning) (assigned : Option Traffic) (heard : List Sample) (traffic : Traffic)
    (m : Mark) (r : SoftHandoff) → assigned ≡ Some traffic → IsSoundHandoff r → ¬ IsTrafficDue r →
    length heard < next_end r → HearsTraffic t traffic m r heard [] →
    FollowsTraffic t assigned (Some m) r heard [] × (traffic_left t assigned (Some m) heard r ≡ [])
frames_opened t assigned heard traffic m r followed sound none early hears =
    let following : FollowsTraffic t assigned (Some m) r heard [] =
    record { traffic = traffic; traffic_is = followed; set = m; set_is = refl; hears = hears } in (
      following,
      left_is following heard r
          ∙ (receiver_goes hears sound none (length heard + 1)
          (omega (arith, early))).given (omega arith),
    )
