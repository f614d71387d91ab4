-- A handset hears the whole transmissions, the whole pages, and the frames and messages of a traffic
-- channel of a clean link's cell, with the events of its pilot sets, in the order in which they are
-- known, and nothing else.
use Rattle.clean_link.proofs.Common.{◌≡◌, ℕ, ◌+◌, Bool, true, false, List, [], ◌∷◌, ◌++◌, length, map, refl, sym, ap, ◌∙◌, arith, inl, inr}
use Rattle.clean_link.proofs.Common.{nat_lt, Option, None, Some, ℤ, pos, if◌then◌else◌, flat_map, cases_Bool, ltb-true, places, CheckForm}
use Rattle.clean_link.proofs.Common.{Sample, Width, made_samples, phase_at, CellPlan, SyncPlan, events, events_at, heard_within}
use Rattle.clean_link.proofs.Common.{frame_events_at, message_events_at, paging_events_at, sets_events_at, mark, page_event, pages_at, Mark}
use Rattle.clean_link.proofs.Common.{pages_if_marked, sync_events_at, Tuning, Event, Pilot, AreAt, IsAt, all_at, by_one_mark, IsOnPath, ◌<◌}
use Rattle.clean_link.proofs.Common.{pages_from_mark, flat_map_ext_places, IsTunedToPlan, sync_sent, tuning_to, IsReceivable, suc}
use Rattle.clean_link.proofs.Common.{known_page, pages_sent, pages_within, WholeMessagesComeBack, known_event, paging_sent, FromMark, subst}
use Rattle.clean_link.proofs.Common.{pages_after_mark, AllComesBackBySigns, IsCellMark, MarkIsAt, PagingFrameHasSigns, pages_after, sets_at}
use Rattle.clean_link.proofs.Common.{sent_events, by_places, sets_heard, signaling_sent, frames_at, messages_at, traffic_sent, Contains}
use Rattle.clean_link.proofs.Common.{PagingPlan, zero, ◌≤◌, filter, range_with_len, cases_order, eq-eqb, ne_eqb, append-nil, filter-append}
use Rattle.clean_link.proofs.Common.{at_of, All-head, All-tail, is_at, length-made, map-map}
use Rattle.clean_link.proofs.traffic.Steady.{events_at_all, right_all, left_all}
use Rattle.clean_link.proofs.frames.ChannelFrames.{clean_sync, shows_sync}
use Rattle.clean_link.proofs.pages.Back.{pages_back, sent_of_number, signed_pages, map-flat_map}
use Rattle.clean_link.proofs.sendings.Heard.{none_known, sendings_in}
use Rattle.clean_link.proofs.traffic.Back.{frames_all, mark_told, messages_all, none_followed, one_near}

-- ---- events of one number of samples
kept_here : (n : ℕ) (es : List Event) → AreAt n es → filter (is_at n) es ≡ es
kept_here n [] here = refl
kept_here n (e ∷ es) here =
    let same : is_at n e ≡ true = eq-eqb (at_of e) n (All-head (IsAt n) e es here) in
    rw same (ap (λ (xs : List Event). e ∷ xs) (kept_here n es (All-tail (IsAt n) e es here)))

left_out : (n k : ℕ) (es : List Event) → ¬ (k ≡ n) → AreAt k es → filter (is_at n) es ≡ []
left_out n k [] other there = refl
left_out n k (e ∷ es) other there =
    let here = All-head (IsAt k) e es there in
    let off : is_at n e ≡ false = ne_eqb (at_of e) n (λ same. other (sym here ∙ same)) in
    rw off (left_out n k es other (All-tail (IsAt k) e es there))

-- ---- those of one number among those of many
none_at : (f : ℕ → List Event) (n a len : ℕ) → ((k : ℕ) → AreAt k (f k)) → n < a →
    filter (is_at n) (flat_map f (range_with_len a len)) ≡ []
none_at f n a zero each past = refl
none_at f n a (suc len) each past =
    let off = left_out n a (f a) (λ same. omega (arith, same, past)) (each a) in
    let rest = none_at f n (a + 1) len each (omega (arith, past)) in
    rw (filter-append, off, rest) refl

found_at : (f : ℕ → List Event) (n a len : ℕ) → ((k : ℕ) → AreAt k (f k)) → a ≤ n →
    n < a + len → filter (is_at n) (flat_map f (range_with_len a len)) ≡ f n
found_at f n a zero each low below = absurd (omega (arith, low, below))
found_at f n a (suc len) each low below =
    elim (cases_order a n) [
      | inl same ↦
          let here = kept_here a (f a) (each a) in
          let rest = none_at f a (a + 1) len each (omega arith) in
          rw (← same, filter-append, here, rest) (append-nil (f a))
      | inr (inl less) ↦
          let off = left_out n a (f a) (λ same. omega (arith, same, less)) (each a) in
          let rest = found_at f n (a + 1) len each (omega (arith, less)) (omega (arith, below)) in
          rw (filter-append, off) rest
      | inr (inr more) ↦ absurd (omega (arith, more, low))
    ]

-- what a channel and those after it give at each number, from the lists of what each gives
gathered_by_places : (f g : ℕ → List Event) (count : ℕ) (one other : List Event) →
    ((k : ℕ) → AreAt k (f k ++ g k)) → flat_map f (places (count + 1)) ≡ one →
    (((k : ℕ) → AreAt k (g k)) → flat_map g (places (count + 1)) ≡ other) →
    flat_map (λ n. f n ++ g n) (places (count + 1)) ≡ by_places count one other
unfolding places
gathered_by_places f g count one other each one_is other_is =
    let fs = λ (k : ℕ). left_all (IsAt k) (f k) (g k) (each k) in
    let gs = λ (k : ℕ). right_all (IsAt k) (f k) (g k) (each k) in
    rw (← one_is, ← other_is gs)
    (flat_map_ext_places (λ n. f n ++ g n) _ (count + 1)
    (λ n below.
    let first = found_at f n 0 (count + 1) fs (omega arith) (omega (arith, below)) in
    let second = found_at g n 0 (count + 1) gs (omega arith) (omega (arith, below)) in
    rw (first, second) refl))

-- ---- the paging channel
-- no channel is heard with this PRAT
unrated : (t : Tuning) (channel : ℕ) (m : Mark) (samples : List Sample) (n : ℕ) →
    nat_lt m.prat 2 ≡ false → pages_within t channel (Some m) samples n ≡ []
unrated t channel m samples n off =
    ap (λ (b : Bool). flat_map
    (λ i. map (known_page i) (if b then pages_at t channel m samples i else [])) (places (n + 1)))
    off
    ∙ none_known (places (n + 1))

-- what is sent after a mark, and where none is set
after_is : (plan : CellPlan) (channel : ℕ) (sync : SyncPlan) (at : Option ℕ) (superframes : ℕ)
    (rated : Bool) → plan.sync ≡ Some sync → at ≡ Some superframes → nat_lt sync.message.prat 2 ≡ rated →
    pages_after plan channel at plan.sync ≡ (if rated then pages_after_mark plan channel (Some superframes) else [])
after_is plan channel sync at superframes rated sends told rated_is =
    ap (pages_after plan channel at) sends
    ∙ ap (λ (o : Option ℕ). pages_after plan channel o (Some sync)) told
    ∙ ap (λ (b : Bool). if b then pages_after_mark plan channel (Some superframes) else []) rated_is

none_after : (plan : CellPlan) (channel : ℕ) (at : Option ℕ) (sync : Option SyncPlan) → at ≡ None →
    pages_after plan channel at sync ≡ []
none_after plan channel at None none = refl
none_after plan channel at (Some sync) none =
    ap (λ (o : Option ℕ). pages_after plan channel o (Some sync)) none
    ∙ either (nat_lt sync.message.prat 2)
  where
    either : (b : Bool) → (if b then (let none : List Event = [] in none) else []) ≡ []
    either true = refl
    either false = refl

-- After a mark that is the cell's, what is heard of the followed channel is its whole pages.
abbrev pub PagesShown : CellPlan → Tuning → List Sample → Option ℕ → Type 0
PagesShown plan t samples at = (m : Mark) (superframes : ℕ) → at ≡ Some superframes →
    IsCellMark plan m superframes → m.prat < 2 →
    pages_within t t.paging (Some m) samples plan.link.samples ≡
    pages_sent plan t.paging (plan.link.start + m.sample)

module _ {plan : CellPlan} {t : Tuning} (samples : List Sample) {at : Option ℕ}
    (tuned : IsOnPath plan t) (shown : PagesShown plan t samples at) where
  -- by the mark of all samples
  by_last_mark : flat_map (paging_events_at t samples) (places (plan.link.samples + 1))
      ≡ map known_event
      (pages_within t t.paging (mark t samples t.count) samples
      plan.link.samples)
  unfolding paging_events_at
  by_last_mark =
      let last = mark t samples t.count in
      let count = tuned.count in
      flat_map_ext_places (λ n. map (page_event n) (pages_if_marked t t.paging (mark t samples n) samples n))
      (λ n. map known_event (map (known_page n) (pages_if_marked t t.paging last samples n))) (plan.link.samples + 1)
      (λ n below.
      ap (map (page_event n))
      (by_one_mark t (one_near t plan tuned) samples n t.count n _ (omega (arith, below, count)) (omega arith)
      (pages_from_mark t (one_near t plan tuned) t.paging samples n))
      ∙ sym (map-map known_event (known_page n) (pages_if_marked t t.paging last samples n)))
      ∙ sym (map-flat_map known_event (λ n. map (known_page n) (pages_if_marked t t.paging last samples n))
      (places (plan.link.samples + 1)))

  pages_by : (last : Option Mark) → MarkIsAt plan last at →
      map known_event (pages_within t t.paging last samples plan.link.samples) ≡ pages_after plan t.paging at plan.sync
  pages_by None none =
      ap (map known_event) (none_known (places (plan.link.samples + 1)))
      ∙ sym (none_after plan t.paging at plan.sync none)
  pages_by (Some m) (superframes, told, cell) =
      let rated : nat_lt cell.sync.message.prat 2 ≡ nat_lt m.prat 2 = ap (λ (n : ℕ). nat_lt n 2) (sym cell.rate) in
      elim (cases_Bool (nat_lt m.prat 2)) [
        | inl on ↦
            let low = ltb-true m.prat 2 on in
            ap (map known_event) (shown m superframes told cell low ∙ ap (pages_sent plan t.paging) cell.marked.place)
            ∙ sym (after_is plan t.paging cell.sync at superframes true cell.sends told (rated ∙ on))
        | inr off ↦
            ap (map known_event) (unrated t t.paging m samples plan.link.samples off)
            ∙ sym (after_is plan t.paging cell.sync at superframes false cell.sends told (rated ∙ off))
      ]

  -- its events are the whole pages
  pub pages_shown : MarkIsAt plan (mark t samples t.count) at →
      flat_map (paging_events_at t samples) (places (plan.link.samples + 1)) ≡ pages_after plan t.paging at plan.sync
  pages_shown marked = by_last_mark ∙ pages_by (mark t samples t.count) marked

-- of a clean link
pub clean_pages : (width : Width) (plan : CellPlan) (t : Tuning) (at : Option ℕ) →
    IsReceivable width plan → IsTunedToPlan plan t → PagesShown plan t (made_samples plan) at
clean_pages width plan t at is tuned m superframes told cell low =
    pages_back width plan cell.sync t t.paging m superframes is is.pages tuned.path tuned.first_channel
    tuned.last_channel tuned.free cell.sends cell.rate low cell.marked

pages_all : (width : Width) (plan : CellPlan) (t : Tuning) → IsReceivable width plan → IsTunedToPlan plan t →
    flat_map (paging_events_at t (made_samples plan)) (places (plan.link.samples + 1)) ≡ paging_sent plan t.paging
unfolding paging_sent
pages_all width plan t is tuned =
    pages_shown (made_samples plan) tuned.path (clean_pages width plan t _ is tuned)
    (mark_told (clean_sync width plan is) tuned.path (mark t (made_samples plan) t.count) refl)

-- and where each frame from the mark on has the sent signs
pub signed_pages_shown : {width : Width} {plan : CellPlan} (samples : List Sample) {t : Tuning}
    {at : Option ℕ} (q : PagingPlan) → IsReceivable width plan → IsOnPath plan t →
    Contains plan.paging q → q.number ≡ t.paging → FromMark (PagingFrameHasSigns plan q samples) at →
    PagesShown plan t samples at
signed_pages_shown {width} {plan} samples {t} q is tuned has numbered signs m superframes told cell
    low =
    subst
    (λ (channel : ℕ). pages_within t channel (Some m) samples plan.link.samples ≡
    pages_sent plan channel (plan.link.start + m.sample))
    numbered
    (signed_pages width plan q t m superframes samples is has tuned cell low (λ k. signs superframes k told)
    ∙ sym (sent_of_number plan q (plan.link.start + m.sample) is.lawful.apart has))

-- ---- the pilot sets

-- a handset on the path is tuned so
pub tuned_is : (plan : CellPlan) (t : Tuning) → IsOnPath plan t → t ≡ tuning_to plan t.energy t.paging t.traffic
tuned_is plan t tuned =
    let of : ℕ → ℕ → List ℤ → CheckForm → CheckForm → Tuning = λ count phase deltas thirty sixteen.
    record {
      count = count;
      phase = phase;
      energy = t.energy;
      deltas = deltas;
      check30 = thirty;
      check16 = sixteen;
      paging = t.paging;
      traffic = t.traffic;
    } in
    let phase = phase_at plan plan.link.start in
    ap (λ (n : ℕ). of n t.phase t.deltas t.check30 t.check16) tuned.count
    ∙ ap (λ (n : ℕ). of plan.link.samples n t.deltas t.check30 t.check16) tuned.phase
    ∙ ap (λ (ds : List ℤ). of plan.link.samples phase ds t.check30 t.check16) tuned.alone
    ∙ ap (λ (form : CheckForm). of plan.link.samples phase (pos 0 ∷ []) form t.check16)
    tuned.checks_of_30
    ∙ ap (of plan.link.samples phase (pos 0 ∷ []) plan.cell.check30) tuned.checks_of_16

-- its events are those of the definition
sets_all : (plan : CellPlan) (t : Tuning) → IsOnPath plan t →
    flat_map (sets_events_at t (made_samples plan)) (places (plan.link.samples + 1))
    ≡ sets_heard plan t.energy t.paging t.traffic
unfolding sets_heard
sets_all plan t tuned =
    ap (λ (u : Tuning).
    flat_map (sets_events_at u (made_samples plan)) (places (plan.link.samples + 1)))
    (tuned_is plan t tuned)

-- ---- all channels

module _ (plan : CellPlan) (t : Tuning) (samples : List Sample)
    (sendings : flat_map (sync_events_at t samples) (places (plan.link.samples + 1)) ≡ sync_sent plan)
    (pages : flat_map (paging_events_at t samples) (places (plan.link.samples + 1))
    ≡ paging_sent plan t.paging)
    (frames : flat_map (frame_events_at t samples) (places (plan.link.samples + 1))
    ≡ traffic_sent plan t.traffic)
    (messages : flat_map (message_events_at t samples) (places (plan.link.samples + 1))
    ≡ signaling_sent plan t.traffic)
    (sets : flat_map (sets_events_at t samples) (places (plan.link.samples + 1))
    ≡ sets_heard plan t.energy t.paging t.traffic) where
  -- all that is known at each number of samples, in the order of the channels
  all_back : flat_map (events_at t samples) (places (plan.link.samples + 1))
      ≡ by_places plan.link.samples (sync_sent plan)
      (by_places plan.link.samples (paging_sent plan t.paging)
      (by_places plan.link.samples (traffic_sent plan t.traffic)
      (by_places plan.link.samples (signaling_sent plan t.traffic)
      (sets_heard plan t.energy t.paging t.traffic))))
  all_back =
      let count = plan.link.samples in
      let sync = sync_events_at t samples in
      let paging = paging_events_at t samples in
      let frame = frame_events_at t samples in
      let message = message_events_at t samples in
      let set = sets_events_at t samples in
      flat_map_ext_places (events_at t samples) _ (count + 1) (λ n below. events_at_all t samples n)
      ∙ gathered_by_places sync (λ n. paging n ++ (frame n ++ (message n ++ set n))) count _ _
      (λ n. subst (AreAt n) (events_at_all t samples n) (all_at t samples n)) sendings
      (λ of_pages. gathered_by_places paging (λ n. frame n ++ (message n ++ set n)) count _ _ of_pages pages
      (λ of_frames. gathered_by_places frame (λ n. message n ++ set n) count _ _ of_frames frames
      (λ of_messages. gathered_by_places message set count _ _ of_messages messages (λ of_sets. sets))))

  all_events : length samples ≡ plan.link.samples → IsOnPath plan t →
      events t samples ≡ sent_events plan t.energy t.paging t.traffic
  unfolding heard_within sent_events
  all_events long tuned =
      let heard : ℕ → List Event = λ n. flat_map (events_at t samples) (places (n + 1)) in
      ap (λ (phase : ℕ). Pilot phase t.energy ∷ heard (length samples)) tuned.phase
      ∙ ap (λ (es : List Event). Pilot (phase_at plan plan.link.start) t.energy ∷ es) (ap heard long ∙ all_back)

pub messages_back : WholeMessagesComeBack
messages_back width plan t is tuned follows not_directed =
    all_events plan t (made_samples plan) (sendings_in (clean_sync width plan is) tuned.path)
    (pages_all width plan t is tuned) (frames_all width plan t is tuned.path not_directed follows)
    (messages_all width plan t is tuned.path not_directed follows) (sets_all plan t tuned.path)
    (length-made plan) tuned.path

-- ---- where no traffic channel is followed

-- Neither its frames nor its messages nor pilot sets are heard or sent, and the other channels' frames
-- have the sent signs.
pub all_by_signs : AllComesBackBySigns
unfolding frame_events_at message_events_at sets_events_at traffic_sent signaling_sent sets_heard
    paging_sent
all_by_signs width plan samples t q is tuned none has numbered signs =
    let all = places (plan.link.samples + 1) in
    let shows = shows_sync is in
    all_events plan t samples (sendings_in shows tuned)
    (pages_shown samples tuned (signed_pages_shown samples q is.receivable tuned has numbered signs)
    (mark_told shows tuned (mark t samples t.count) refl))
    (none_followed t samples (λ n traffic m. frames_at t traffic m samples n) all none
    ∙ sym (ap (traffic_sent plan) none))
    (none_followed t samples (λ n traffic m. messages_at t traffic m samples n) all none
    ∙ sym (ap (signaling_sent plan) none))
    (none_followed t samples (λ n traffic m. sets_at t traffic m samples n) all none
    ∙ sym (ap (sets_heard plan t.energy t.paging) none ∙ none_known all))
    is.long tuned
    ∙ ap (sent_events plan t.energy t.paging) none
