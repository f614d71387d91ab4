-- The mark stays where more samples are taken, and before it nothing is heard of other channels.
use Rattle.heard_events.proofs.Common.{pages_if_marked, moments_before, followed_after, has_reference, paging_stream, message_heard, length}
use Rattle.heard_events.proofs.Common.{if◌then◌else◌, known_between, new_standing, pilot_finger, moment_place, all_fingers, mark_before, []}
use Rattle.heard_events.proofs.Common.{messages_at, frame_start, if_followed, frame_known, sync_stream, messages_by, frame_heard, and_parts}
use Rattle.heard_events.proofs.Common.{ends_bounds, append-nil, cases_Bool, is_in_file, stream_end, fingers_of, sync_bound, page_event, ◌≡◌}
use Rattle.heard_events.proofs.Common.{told_after, frames_at, frames_by, option_or, flat_map, and_from, cases_lt, AreClose, first_of, false}
use Rattle.heard_events.proofs.Common.{marks_at, all_near, pages_at, known_at, channels, timed_in, legs_of, kept_to, legs_at, legs_by, ◌==◌}
use Rattle.heard_events.proofs.Common.{sets_at, AreNear, IsTimed, Traffic, CodeChannel, told_on, nat_lt, Option, get_or, eq-eqb, ne_eqb}
use Rattle.heard_events.proofs.Common.{places}
use Rattle.heard_events.proofs.Common.{Sample, Finger, low_in, Tuning, Paging, subst, arith, Event, Bool, true, List, ◌++◌, refl, Some, ◌+◌}
use Rattle.heard_events.proofs.Common.{None, take, Data, mark, Mark, ◌-◌, ◌<◌, ◌≤◌, ◌∷◌, sym, ◌∙◌, inl, inr, pos, Leg, map, ap, ℕ, ℤ}
use Rattle.std.specs.List.{filter}
use Rattle.heard_events.specs.declared.channel.CodeChannel.TheVariants.{Traffic as OnTraffic}
use Rattle.rake_finger.proofs.CloseFingers.{near_are_close}
use Rattle.heard_events.proofs.FrameBounds.{known_low}
use Rattle.heard_events.proofs.TrafficGrowth.{frames_of}
use Rattle.heard_events.proofs.GoesOn.{joined}
use Rattle.heard_events.proofs.Arrivals.{AreKnown, known_with, none_now, parted, by_parts, is_by}
use Rattle.heard_events.proofs.Growth.{IsSyncTimed, sync_in_file, sync_known, sync_frames, sync_ordered, timed_of}
use Rattle.heard_events.proofs.MarkGrowth.{marks_at_sooner, mark_before_kept, mark_before_more, mark_is}
use Rattle.heard_events.proofs.MarkLater.{mark_later}
use Rattle.heard_events.proofs.PageGrowth.{pages_none}
use Rattle.chip_core.proofs.Ranges as ranges

-- THE FIRST OF JOINED PIECES
first_of_two : {A R : Type 0} (xs ys : List A) (x : A) → first_of (xs ++ ys) ≡ Some x →
    (first_of xs ≡ Some x → R) → (first_of ys ≡ Some x → R) → R
first_of_two [] ys x h one other = other h
first_of_two (y ∷ xs) ys x h one other = one h

-- one of the pieces has it
first_among : {A : Type 0} (f : ℕ → List A) (p : ℕ → Bool) (ks : List ℕ) (x : A) →
    first_of (flat_map f (filter p ks)) ≡ Some x → (k : ℕ) × ((p k ≡ true) × (first_of (f k) ≡ Some x))
first_among f p [] x h = absurd (cc)
first_among f p (k ∷ ks) x h =
    elim (cases_Bool (p k)) [
      | inl here ↦
          first_of_two (f k) (flat_map f (filter p ks)) x (rw here at h) (λ e. (k, (here, e)))
          (λ e. first_among f p ks x e)
      | inr gone ↦ first_among f p ks x (rw gone at h)
    ]

-- THE MARK
some_or : {A : Type 0} (one other : Option A) (x : A) → other ≡ Some x → (y : A) × (option_or one other ≡ Some y)
some_or None other x h = (x, h)
some_or (Some y) other x h = (y, refl)

-- a frame that is known within n samples, and whose message sets the mark
pub record IsSetBy (t : Tuning) (samples : List Sample) (n : ℕ) (m : Mark) (k : ℕ) : Type 0 where
  pub inside : sync_in_file t k ≡ true
  pub known : sync_known t k ≤ n
  pub sets : first_of (marks_at t samples k) ≡ Some m

pub mark_set : (t : Tuning) (samples : List Sample) (n : ℕ) (m : Mark) →
    mark t samples n ≡ Some m → (k : ℕ) × IsSetBy t samples n m k
unfolding mark
mark_set t samples n m h =
    let (k, both) = first_among (marks_at t samples) (is_by (sync_frames t) n) (places (sync_bound n)) m h in
    let parts = by_parts (sync_frames t) n k both.0 in
    (k, record { inside = parts.0; known = parts.1; sets = both.1 })

module _ (t : Tuning) (low : ℕ) (timed : IsSyncTimed t low) where
  -- it is set by a message of frames that are known within these samples
  pub mark_told : (samples : List Sample) (n next : ℕ) (m : Mark) → AreKnown (sync_frames t) next n →
      mark_before t samples next ≡ Some m → mark t samples n ≡ Some m
  mark_told samples n next m known h =
      let (last, parts) = parted (sync_frames t) (sync_ordered t timed) n in
      elim (cases_lt last next) [
        | inl less ↦
            mark_is t timed samples n next known (λ k above inside. parts.1 k (omega (arith, less, above)) inside)
            ∙ h
        | inr more ↦
            let e : next + (last - next) ≡ last = omega (arith, more) in
            let kept = mark_before_kept t samples next (last - next) m h in
            mark_is t timed samples n last parts.0 parts.1 ∙ rw e at kept
      ]

  -- it stays where more samples are taken
  pub mark_stays : (samples : List Sample) (n n' : ℕ) (m : Mark) → n ≤ n' →
      mark t samples n ≡ Some m → mark t samples n' ≡ Some m
  mark_stays samples n n' m more h =
      let (next, parts) = parted (sync_frames t) (sync_ordered t timed) n in
      mark_told samples n' next m (λ k below inside. let known = parts.0 k below inside in omega (arith, known, more))
      (sym (mark_is t timed samples n next parts.0 parts.1) ∙ h)

  -- the mark of the first samples is that of a file that goes on after them
  pub mark_sooner : (xs ys : List Sample) (n : ℕ) → n ≤ length xs → mark t (xs ++ ys) n ≡ mark t xs n
  unfolding mark
  mark_sooner xs ys n few =
      ap first_of
      (ranges.flat_map_ext_filter (is_by (sync_frames t) n) (marks_at t (xs ++ ys)) (marks_at t xs)
      (places (sync_bound n))
      (λ k h.
      let parts = by_parts (sync_frames t) n k h in
      marks_at_sooner t low timed xs ys k parts.0 (omega (arith, parts.1, few))))

  -- Where the mark isn't set, no frame that is known sets it: a frame that set one, or one before
  -- it, would give a mark up to there, and such a mark is told within these samples.
  unset : (samples : List Sample) (n k : ℕ) (m : Mark) → mark t samples n ≡ None →
      sync_in_file t k ≡ true → sync_known t k ≤ n → ¬ (first_of (marks_at t samples k) ≡ Some m)
  unset samples n k m none inside known = λ sets.
      let before = mark_before t samples k in
      let (x, some) = some_or before (first_of (marks_at t samples k)) m sets in
      let found = mark_told samples n (k + 1) x (known_with (sync_frames t) (sync_ordered t timed) n k inside known)
      (mark_before_more t samples k inside ∙ some) in
      let both : None ≡ Some x = sym none ∙ found in
      absurd (cc)

  -- It lies after the samples within which it isn't set yet.
  pub mark_after : AreNear (sync_stream t).fingers → (samples : List Sample) (n n' : ℕ)
      (m : Mark) → mark t samples n ≡ None → mark t samples n' ≡ Some m → n < m.sample
  mark_after near samples n n' m none h =
      let (k, set) = mark_set t samples n' m h in
      let later = mark_later t samples k low near timed set.inside m set.sets in
      elim (cases_lt n (sync_known t k)) [
        | inl less ↦ omega (arith, less, later)
        | inr most ↦ absurd (unset samples n k m none set.inside most set.sets)
      ]

-- WHAT A MARK OPENS
-- what is told after a mark that may be set, of samples that don't reach it: nothing
pub record OpensAfter {E : Type 0} (n : ℕ) (heard : Option Mark → List E) : Type 0 where
  pub unset : heard None ≡ []
  pub early : (m : Mark) → n ≤ m.sample → heard (Some m) ≡ []

-- so it is of a channel that may be followed,
pub opens_followed : {C : Type 0} {n : ℕ} (heard : C → Mark → List Event) →
    ((c : C) (m : Mark) → n ≤ m.sample → heard c m ≡ []) → (followed : Option C) →
    OpensAfter n (if_followed heard followed)
opens_followed heard none None = record { unset = refl; early = λ m before. refl }
opens_followed heard none (Some c) = record { unset = refl; early = none c }

-- and of several
opens_each : {E X : Type 0} {n : ℕ} (heard : X → Option Mark → List E) (xs : List X) →
    ((x : X) → OpensAfter n (heard x)) → OpensAfter n (λ mark. flat_map (λ x. heard x mark) xs)
opens_each heard [] opens = record { unset = refl; early = λ m before. refl }
opens_each heard (x ∷ xs) opens =
    let rest = opens_each heard xs opens in
    record {
      unset = joined (opens x).unset rest.unset;
      early = λ m before. joined ((opens x).early m before) (rest.early m before);
    }

-- What is heard at n samples, or at the next one, is told by any later mark.
pub by_one_mark : {E : Type 0} (t : Tuning) → AreNear (sync_stream t).fingers →
    (samples : List Sample) (n n' at' : ℕ) (heard : Option Mark → List E) → n ≤ n' →
    at' ≤ n + 1 → OpensAfter at' heard → heard (mark t samples n) ≡ heard (mark t samples n')
by_one_mark t near samples n n' at' heard more here opens =
    by_marks (mark t samples n) (mark t samples n') refl refl
  where
    by_marks : (now later : Option Mark) → mark t samples n ≡ now → mark t samples n' ≡ later → heard now ≡ heard later
    by_marks (Some m) later e e' = ap heard (sym (mark_stays t _ (timed_of t near) samples n n' m more e) ∙ e')
    by_marks None None e e' = refl
    by_marks None (Some m) e e' =
        let before = mark_after t _ (timed_of t near) near samples n n' m e e' in
        opens.unset ∙ sym (opens.early m (omega (arith, here, before)))

-- PAGING CHANNELS
-- fingers are as near on one Walsh row as on another
near_row : (row row' phase : ℕ) (deltas : List ℤ) →
    all_near (fingers_of row phase deltas) ≡ all_near (fingers_of row' phase deltas)
near_row row row' phase [] = refl
near_row row row' phase (d ∷ deltas) = rw (near_row row row' phase deltas) refl

reference_row : (row row' phase : ℕ) (deltas : List ℤ) →
    has_reference (fingers_of row phase deltas) ≡ has_reference (fingers_of row' phase deltas)
reference_row row row' phase [] = refl
reference_row row row' phase (d ∷ deltas) = rw (reference_row row row' phase deltas) refl

near_on : (t : Tuning) (row : ℕ) → AreNear (sync_stream t).fingers → AreNear (fingers_of row t.phase t.deltas)
near_on t row near =
    let fingers = (sync_stream t).fingers in
    let heard = fingers_of row t.phase t.deltas in
    let both = and_parts (all_near fingers) (has_reference fingers) near in
    and_from (all_near heard) (has_reference heard) (near_row row 32 t.phase t.deltas ∙ both.0)
    (reference_row row 32 t.phase t.deltas ∙ both.1)

module _ (t : Tuning) (near : AreNear (sync_stream t).fingers) (channel : ℕ) where
  pub paging_near : (m : Mark) → AreNear (paging_stream t channel m).fingers
  paging_near m = near_on t channel near

  pub paging_timed : (m : Mark) → IsTimed t.count (paging_stream t channel m) (low_in (paging_stream t channel m))
  paging_timed m = timed_in t.count (paging_stream t channel m) (paging_near m)

  -- No frame is known until 24,576 chips after the mark: the channel's frames start there or later,
  -- take as many chips at least, and are known when they have ended on all fingers.
  pub paging_later : (m : Mark) (k : ℕ) → is_in_file t.count (paging_stream t channel m) k ≡ true →
      m.sample + 24576 ≤ known_at t.count (paging_stream t channel m) k
  unfolding stream_end
  paging_later m k inside =
      let s = paging_stream t channel m in
      let least = (known_between s (paging_timed m) k inside).low in
      let ends = (ends_bounds Data (frame_start s k) s.fingers (paging_near m)).0 in
      omega (arith, least, ends)

  -- and so no message
  pub pages_later : (samples : List Sample) (n : ℕ) (m : Mark) → n ≤ m.sample → pages_at t channel m samples n ≡ []
  pages_later samples n m before =
      pages_none t channel m samples n
      (λ k inside e. let later = paging_later m k inside in omega (arith, later, e, before))

  unrated : {A : Type 0} (b : Bool) (pages : List A) → pages ≡ [] → (if b then pages else []) ≡ []
  unrated true pages none = none
  unrated false pages none = refl

  pub pages_from_mark : (samples : List Sample) (n : ℕ) →
      OpensAfter n (λ mark. pages_if_marked t channel mark samples n)
  pages_from_mark samples n = record {
    unset = refl;
    early = λ m before.
        unrated (nat_lt m.prat 2) (pages_at t channel m samples n) (pages_later samples n m before);
  }

-- TRAFFIC CHANNELS
-- one active pilot, the reference's, has the reference's fingers
pub pilot_alone : (phase : ℕ) (deltas : List ℤ) (b : Bool) (f : Finger) (c : ℕ) → b ≡ true →
    all_fingers phase deltas (record { reference = b; finger = f; subchannel = c } ∷ [])
    ≡ fingers_of f.row phase deltas ++ []
pilot_alone phase deltas true f c h = refl
pilot_alone phase deltas false f c h = absurd (cc)

module _ (t : Tuning) (near : AreNear (sync_stream t).fingers) (traffic : Traffic) where
  -- Before the first moment only the mark's pilot is active, and its paths are close: they are
  -- those of the reference on another Walsh row, which are near there as they are on the sync
  -- channel's.
  first_close : (m : Mark) → AreClose (all_fingers t.phase t.deltas (legs_of m (new_standing m.pilot traffic.row)))
  first_close m =
      let fingers = fingers_of traffic.row t.phase t.deltas in
      let finger = pilot_finger m (get_or (new_standing m.pilot traffic.row).deltas m.pilot (pos 0))
      (record { pilot = m.pilot; row = traffic.row; subchannel = 0 }) in
      subst AreClose (sym (pilot_alone t.phase t.deltas (m.pilot == m.pilot) finger 0 (eq-eqb m.pilot m.pilot refl)))
      (subst AreClose (sym (append-nil fingers)) (near_are_close fingers (near_on t traffic.row near)))

  -- no frame ends before the mark
  module _ (m : Mark) (samples : List Sample) (n : ℕ) (before : n ≤ m.sample) where
    at_mark : legs_at t traffic m samples n ≡ (λ k. legs_of m (new_standing m.pilot traffic.row))
    unfolding kept_to
    at_mark =
        let none : moments_before m n ≡ 0 = omega (arith, before) in
        ap (λ (j : ℕ). legs_by traffic m (kept_to t traffic m samples j)) none

    traffic_later : (k : ℕ) → ¬ (frame_known t traffic m (legs_at t traffic m samples n) k ≡ n)
    traffic_later k = λ e.
        let same = ap (λ (legs : ℕ → List Leg). frame_known t traffic m legs k) at_mark in
        let low = known_low t traffic m (λ i. legs_of m (new_standing m.pilot traffic.row)) (λ i. first_close m) k in
        omega (arith, e, same, low, before)

    pub frames_later : frames_at t traffic m samples n ≡ []
    unfolding frames_by
    frames_later =
        ap (map (frame_heard t traffic m (legs_at t traffic m samples n) (take n samples) n))
        (none_now (frames_of t traffic m (legs_at t traffic m samples n)) n (λ k inside. traffic_later k))

    -- nor does one complete a message
    pub messages_later : messages_at t traffic m samples n ≡ []
    unfolding messages_by
    messages_later =
        ap (flat_map (message_heard t traffic m (legs_at t traffic m samples n) (take n samples) n))
        (none_now (frames_of t traffic m (legs_at t traffic m samples n)) n (λ k inside. traffic_later k))

    -- nor does a moment lie there
    sets_later : sets_at t traffic m samples n ≡ []
    unfolding sets_at
    sets_later =
        let elsewhere : (moment_place m (moments_before m n + 1) == n) ≡ false =
        ne_eqb (moment_place m (moments_before m n + 1)) n (λ e. omega (arith, e, before)) in
        rw elsewhere refl

-- ALL CHANNELS
module _ (t : Tuning) (near : AreNear (sync_stream t).fingers) (samples : List Sample) (n : ℕ) where
  channel_later : (c : CodeChannel) (m : Mark) → n ≤ m.sample → told_on t samples n c m ≡ []
  channel_later (Paging channel) m before =
      ap (map (page_event n)) ((pages_from_mark t near channel samples n).early m before)
  channel_later (OnTraffic traffic) m before =
      joined
      (joined (frames_later t near traffic m samples n before) (messages_later t near traffic m samples n before))
      (sets_later t near traffic m samples n before)

  pub all_from_mark : OpensAfter n (λ mark. followed_after t mark samples n)
  all_from_mark =
      opens_each (λ followed mark. told_after t followed mark samples n) (channels t)
      (opens_followed (told_on t samples n) channel_later)
