-- What a handset's paging channel has still to give, as samples come.
use Rattle.mobile_core.proofs.Common.{◌≡◌, ℕ, ◌+◌, ◌^◌, ◌<◌, ◌≤◌, List, [], ◌++◌, length, map, refl, sym, ap, ◌∙◌, arith, inl, inr, Option}
use Rattle.mobile_core.proofs.Common.{Some, None, IfSome, is_some, nat_lt, ForSome, option_to_list, cases_lt, map-append, Sample, IsDueAt}
use Rattle.mobile_core.proofs.Common.{page_event, pages_if_marked, FollowsPages, HearsPages, IsUnpaged, paging_left, paging_events_left}
use Rattle.mobile_core.proofs.Common.{HearsBit, HearsPaging, IsSoundPaging, IsSomeAnd, bits_heard, subst, pages_left, Tuning, Event, Mark}
use Rattle.mobile_core.proofs.Common.{Paging, PagingReceiver, SpelledPage, told_after, before_next, from_next, none_between, GoesOn, mapped}
use Rattle.mobile_core.proofs.Common.{goes_as, never}
use Rattle.heard_events.proofs.PageGrowth.{page_frames, pages_none}
use Rattle.heard_events.proofs.PageGrowth as growth
use Rattle.mobile_core.proofs.PagesHeard as pages

-- the events of the messages that are known when just n samples have been taken
abbrev pub paged_after : Tuning → Option Mark → List Sample → ℕ → List Event
paged_after t mark samples n = map (page_event n) (pages_if_marked t t.paging mark samples n)

-- they are what is told of the channel
pub told_paged : (t : Tuning) (mark : Option Mark) (samples : List Sample) (n : ℕ) →
    told_after t (Some (Paging t.paging)) mark samples n ≡ paged_after t mark samples n
told_paged t None samples n = refl
told_paged t (Some m) samples n = refl

unpaged : (t : Tuning) (mark : Option Mark) → IsUnpaged mark → (samples : List Sample) (n : ℕ) →
    pages_if_marked t t.paging mark samples n ≡ []
unpaged t None h samples n = refl
unpaged t (Some m) h samples n = rw h refl

-- THE RECEIVER, AS IT GOES ON
module _ {t : Tuning} {mark : Option Mark} {r : PagingReceiver} {heard : List Sample}
    (st : FollowsPages t mark r heard) where
  pub follows_on : (after : PagingReceiver) (samples : List Sample) →
      HearsPaging t t.paging st.set after samples → FollowsPages t mark after samples
  follows_on after samples hears = record { set = st.set; set_is = st.set_is; rate = st.rate; hears = hears }

  -- soft values of a frame have come
  pub come_left : (after : PagingReceiver) → after.received.clock.next ≡ r.received.clock.next → after.place ≡ r.place →
      paging_left t mark heard after ≡ paging_left t mark heard r
  come_left after next place = rw (st.set_is, next, place) refl

  -- After a bit has been heard, its message and what is left give what was left before: hearing it
  -- says so of the messages, and the events are made of the messages one by one.
  pub bit_left : (after : PagingReceiver) (page : Option SpelledPage) → HearsBit t t.paging st.set heard r after page →
      map (page_event (length heard)) (option_to_list page) ++ paging_left t mark heard after
      ≡ paging_left t mark heard r
  bit_left after page bit =
      let event : SpelledPage → Event = page_event (length heard) in
      let later = pages_left t t.paging st.set heard after.received.clock.next after.place in
      rw st.set_is (sym (map-append event (option_to_list page) later) ∙ ap (map event) bit.left)

-- bits of a frame that is under way are left
within_frame : (r : PagingReceiver) → IsSoundPaging r → r.place < 192
within_frame r sound =
    elim (cases_lt 0 r.place) [
      | inl some ↦ omega (arith, sound.within some, sound.most)
      | inr none ↦ omega (arith, none)
    ]

-- what has been heard is a small number
pub bits_few : (r : PagingReceiver) → IsSoundPaging r → bits_heard r < 2 ^ 40
bits_few r sound =
    let clock = sound.channel.clocked in
    omega (arith, within_frame r sound, clock.next_have, clock.have_end, clock.end_most)

-- WHETHER THE CHANNEL IS HEARD OR NOT
module _ (t : Tuning) (mark : Option Mark) (heard : List Sample) where
  -- before the frame that comes next ends no message is known
  pub pages_quiet : (receiver : Option PagingReceiver) → HearsPages t mark receiver heard →
      ¬ IsSomeAnd receiver (λ r. IsDueAt t.count r.received.clock) →
      (samples : List Sample) (n end : ℕ) → length heard < n → n < end →
      ForSome receiver (λ r. end ≤ r.received.clock.end) → pages_if_marked t t.paging mark samples n ≡ []
  pages_quiet None following none samples n end past before ends = unpaged t mark following samples n
  pages_quiet (Some r) following none samples n end past before ends =
      let is = following.hears.receives.clocked in
      rw (following.set_is, following.rate)
      (pages_none t t.paging following.set samples n
      (none_between (page_frames t t.paging following.set) r.received.clock.next (length heard) end n
      (before_next is) (from_next is end none (ends r refl)) past before))

  -- The pages of a paging channel go on as those that its receiver has left, up to the end of its
  -- next frame: if no channel is open there are none; otherwise every bit of the frames so far has
  -- been taken.
  pub pages_go : (receiver : Option PagingReceiver) → HearsPages t mark receiver heard →
      ¬ IsSomeAnd receiver (λ r. IsDueAt t.count r.received.clock) → (end : ℕ) →
      ForSome receiver (λ r. end ≤ r.received.clock.end) →
      GoesOn (paged_after t mark) (λ samples. paging_events_left t mark samples receiver) heard end
  pages_go None following none end ends =
      never (paged_after t mark) (λ samples n. ap (map (page_event n)) (unpaged t mark following samples n)) heard end
  pages_go (Some r) following none end ends =
      let is = following.hears.receives.clocked in
      let start = pages.idle following.hears none in
      mapped page_event
      (goes_as
      (growth.pages_go t t.paging following.set r.received.clock.next heard end (before_next is)
      (from_next is end none (ends r refl))) (λ samples n. rw (following.set_is, following.rate) refl)
      (λ samples. rw (following.set_is, start) refl))

  -- more samples, up to the end of the frame that comes next
  pub pages_more : (receiver : Option PagingReceiver) → HearsPages t mark receiver heard →
      ¬ IsSomeAnd receiver (λ r. IsDueAt t.count r.received.clock) → (more : List Sample) →
      length heard + length more ≤ t.count → ForSome receiver (λ r. length heard + length more ≤ r.received.clock.end) →
      HearsPages t mark receiver (heard ++ more)
  pages_more None following none more within ends = following
  pages_more (Some r) following none more within ends =
      follows_on following r (heard ++ more) (pages.hears_more following.hears more none within (ends r refl))

-- A receiver that is opened now has heard nothing, with no message left to tell: none of its frames
-- is due, and the first one ends after the mark, which lies after all samples so far.
pub pages_opened : (t : Tuning) (heard : List Sample) (m : Mark) (channel : ℕ) →
    channel ≡ t.paging → length heard < m.sample → (opened : Option PagingReceiver) →
    is_some opened ≡ nat_lt m.prat 2 → IfSome opened (λ r. m.sample < r.received.clock.end) →
    IfSome opened (λ r. r.received.clock.have ≡ r.received.clock.next) →
    IfSome opened (λ r. HearsPaging t channel m r heard) →
    HearsPages t (Some m) opened heard × (paging_events_left t (Some m) heard opened ≡ [])
pages_opened t heard m channel same early None is begins fresh hears = (sym is, refl)
pages_opened t heard m channel same early (Some r) is begins fresh hears =
    let hears' = subst (λ (n : ℕ). HearsPaging t n m r heard) same hears in
    let following : HearsPages t (Some m) (Some r) heard =
    record { set = m; set_is = refl; rate = sym is; hears = hears' } in (
      following,
      (pages_go t (Some m) heard (Some r) following (λ d. omega (arith, fresh, d.0)) (length heard + 1)
          (λ x e.
          let same : r ≡ x = cc in
          let end = ap (λ (y : PagingReceiver). y.received.clock.end) same in
          omega (arith, end, begins, early))).given (omega arith),
    )
