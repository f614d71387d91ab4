-- What the channels after the mark have still to give, as samples come.
use Rattle.mobile_core.proofs.Common.{◌≡◌, ℕ, ◌+◌, ◌^◌, ◌<◌, ◌≤◌, List, [], ◌++◌, length, refl, sym, ap, subst, ◌∙◌, inl, inr, Option, Some}
use Rattle.mobile_core.proofs.Common.{None, ForSome, option_map_or, arith, length-append, Sample, HearsFollowed, HearsFrames, HearsPages}
use Rattle.mobile_core.proofs.Common.{IsFollowedDue, IsSoundFollowed, EndFrom, WaitFrom, followed_events_left, followed_heard, AreNear}
use Rattle.mobile_core.proofs.Common.{paging_events_left, Tuning, sync_stream, Event, Followed, Mark, PagingReceiver, SoftHandoff, IsDueAt}
use Rattle.mobile_core.proofs.Common.{IsSomeAnd, IsSoundPaging, IsSoundHandoff, IsUnheard, Traffic, append-nil, bits_heard, followed_after}
use Rattle.mobile_core.proofs.Common.{event_list, traffic_heard, traffic_events_left, GoesOn, both, goes_as, joined, pages_from_mark}
use Rattle.mobile_core.proofs.FramesFollowed.{frames_go, frames_more, told_few}
use Rattle.mobile_core.proofs.PagesFollowed.{bits_few, pages_go, pages_more, pages_quiet, told_paged}

-- what waits ends later
pub ends_later : (n : ℕ) (f : Followed) → WaitFrom n f → EndFrom (n + 1) f
ends_later n f waits = record {
  paging = λ r e. let w = waits.paging r e in omega (arith, w);
  traffic = λ r e. let w = (waits.traffic r e).before in omega (arith, w);
}

-- what has been heard is a small number
counted_few : {R : Type 0} (count : R → ℕ) (P : R → Type 0) →
    ((r : R) → P r → count r < 2 ^ 40) → (receiver : Option R) → ForSome receiver P →
    option_map_or count receiver 0 < 2 ^ 40
counted_few count P few None sound = omega arith
counted_few count P few (Some r) sound = few r (sound r refl)

pub followed_few : (f : Followed) → IsSoundFollowed f → followed_heard f < 2 ^ 41
followed_few f sound =
    let bits = counted_few bits_heard IsSoundPaging bits_few f.paging sound.paging in
    let frames = counted_few traffic_heard IsSoundHandoff told_few f.traffic sound.traffic in
    omega (arith, bits, frames)

module _ {t : Tuning} {f : Followed} {mark : Option Mark} {heard : List Sample}
    (st : HearsFollowed t f mark heard) where
  -- the receivers change
  pub moved : (paging : Option PagingReceiver) (traffic : Option SoftHandoff)
      (after : Option Mark) (samples : List Sample) (pages : List Event) →
      pages ≡ paging_events_left t after samples paging → HearsPages t after paging samples →
      HearsFrames t t.traffic after traffic samples pages →
      HearsFollowed t (record f { paging = paging; traffic = traffic }) after samples
  moved paging traffic after samples pages left hears tells = record {
    channel_is = st.channel_is;
    assigned_is = st.assigned_is;
    phase_is = st.phase_is;
    deltas_are = st.deltas_are;
    check_is = st.check_is;
    paging = hears;
    traffic = subst (HearsFrames t t.traffic after traffic samples) left tells;
  }

  -- receivers are opened that have heard nothing
  pub opened : (paging : Option PagingReceiver) (traffic : Option SoftHandoff) (m : Mark) →
      f.paging ≡ None → f.traffic ≡ None →
      HearsPages t (Some m) paging heard × (paging_events_left t (Some m) heard paging ≡ []) →
      HearsFrames t t.traffic (Some m) traffic heard []
      × (traffic_events_left t t.traffic (Some m) heard traffic ≡ []) →
      HearsFollowed t (record f { paging = paging; traffic = traffic }) (Some m) heard
      × (paging_events_left t (Some m) heard paging ++ traffic_events_left t t.traffic (Some m) heard traffic
      ≡ followed_events_left t mark heard f)
  opened paging traffic m unpaged unfollowed pages frames = (
    moved paging traffic (Some m) heard [] (sym pages.1) pages.0 frames.0,
    rw (pages.1, frames.1, unpaged, unfollowed) refl,
  )

  -- where no channel is assigned none is heard
  pub unassigned : (m : Mark) → f.traffic ≡ None → f.assigned ≡ None →
      HearsFrames t t.traffic (Some m) f.traffic heard []
      × (traffic_events_left t t.traffic (Some m) heard f.traffic ≡ [])
  unassigned m closed none = (
    subst (λ (x : Option SoftHandoff). HearsFrames t t.traffic (Some m) x heard []) (sym closed)
        (subst (λ (x : Option Traffic). IsUnheard x (Some m)) (sym none ∙ st.assigned_is) tt),
    ap (traffic_events_left t t.traffic (Some m) heard) closed,
  )

  -- where nothing is due of it, what was due of the traffic channel has been heard
  pub heard_other : {n : ℕ} → ¬ IsSomeAnd f.paging (λ r. IsDueAt t.count r.received.clock) → n ≡ length heard →
      WaitFrom n f → (traffic : Option SoftHandoff) (event : Option Event) →
      (HearsFrames t t.traffic mark f.traffic heard [] → HearsFrames t t.traffic mark traffic heard []
      × (event_list event ++ traffic_events_left t t.traffic mark heard traffic
      ≡ traffic_events_left t t.traffic mark heard f.traffic)) →
      HearsFollowed t (record f { traffic = traffic }) mark heard
      × (event_list event ++ (paging_events_left t mark heard f.paging
      ++ traffic_events_left t t.traffic mark heard traffic) ≡ followed_events_left t mark heard f)
  heard_other none here waits traffic event hears =
      let quiet = (pages_go t mark heard f.paging st.paging none (length heard + 1)
      (λ r e. omega (arith, waits.paging r e, here))).given (omega arith) in
      let on = hears (subst (HearsFrames t t.traffic mark f.traffic heard) quiet st.traffic) in (
        moved f.paging traffic mark heard [] (sym quiet) st.paging on.0,
        rw quiet on.1,
      )

  module _ (sound : IsSoundFollowed f) (idle : ¬ IsFollowedDue t.count f) where
    pub goes_on : (end : ℕ) → EndFrom end f →
        GoesOn (followed_after t mark) (λ samples. followed_events_left t mark samples f) heard end
    goes_on end ends =
        goes_as
        (both (pages_go t mark heard f.paging st.paging (λ d. idle (inl d)) end ends.paging)
        (frames_go t t.traffic mark heard (paging_events_left t mark heard f.paging) f.traffic st.traffic
        sound.traffic (λ d. idle (inr d)) end ends.traffic))
        (λ samples n. joined (told_paged t mark samples n) (append-nil _)) (λ samples. refl)

    -- The followed channels have heard more samples, up to the end of their next frame: the pages have, the
    -- traffic channel has, and only with the last sample is there a page to tell, which is what is left.
    pub followed_more : AreNear (sync_stream t).fingers → (more : List Sample) → 0 < length more →
        length heard + length more ≤ t.count → WaitFrom (length heard) f →
        EndFrom (length heard + length more) f → HearsFollowed t f mark (heard ++ more)
    followed_more near more some within waits ends =
        let end : ℕ = length heard + length more in
        let long = length-append heard more in
        let pages = pages_go t mark heard f.paging st.paging (λ d. idle (inl d)) end ends.paging in
        moved f.paging f.traffic mark (heard ++ more) _ (sym (pages.come more some (omega (arith, long))))
        (pages_more t mark heard f.paging st.paging (λ d. idle (inl d)) more within ends.paging)
        (frames_more t t.traffic mark heard (paging_events_left t mark heard f.paging) f.traffic st.traffic
        sound.traffic (λ d. idle (inr d)) more some within waits.traffic ends.traffic
        (pages.given (omega (arith, some)))
        (λ samples n past less.
        pages_quiet t mark heard f.paging st.paging (λ d. idle (inl d)) samples n end past less
        ends.paging)
        (λ m n. (pages_from_mark t near t.paging (heard ++ more) n).early m))
