-- A handset hears what a clean link's cell sends, channel by channel and frame by frame.
use Rattle.clean_link.proofs.Common.{FollowedHaveSigns, HasSyncSigns, ◌≡◌, ℕ, ◌+◌, ◌-◌, ◌*◌, ◌≤◌, true, false, Bool, List, [], ◌∷◌, length}
use Rattle.clean_link.proofs.Common.{map, refl, sym, ap, ◌∙◌, arith, subst, Option, None, Some, filter, All, Contains, Width, flat_map}
use Rattle.clean_link.proofs.Common.{All-contains, All-map, places, Sample, IsFreeOf, made_samples, frames_of, cycled_frame, mark, CellPlan}
use Rattle.clean_link.proofs.Common.{PagingPlan, TrafficPlan, SetOneFrame, events, events_at, frame_events_at, heard_within, Leg}
use Rattle.clean_link.proofs.Common.{message_events_at, paging_events_at, frames_at, messages_at, is_in_file, sync_events_at, power_bits_at}
use Rattle.clean_link.proofs.Common.{decoded_at, frame_event, frame_heard, Tuning, Event, Pilot, Mark, Traffic, IsNotDirected, IsOnPath}
use Rattle.clean_link.proofs.Common.{is_frame, is_message, is_page, is_sync, AreFramesAfter, AreMessagesAfter, EachChannelComesBack, ◌++◌}
use Rattle.clean_link.proofs.Common.{FollowsOne, IsEventOf, frame_ends, is_received, received_frames, AreDistinct, IsDistinctFrame, ◌≢◌}
use Rattle.clean_link.proofs.Common.{SendsSetOne, messages_of_channel, paging_sent, told_with_sync, HearsSentTraffic, IsHeardAs, All-weaker}
use Rattle.clean_link.proofs.Common.{All-append, All-cons, All-nil, All-same, sets_events_at, messages_sent, FollowsSent, NoEventIsDirected}
use Rattle.clean_link.proofs.Common.{signaling_sent, AreEventsBySigns, AreFramesBySigns, ChannelsComeBackBySigns, FromMark, HearsBySigns}
use Rattle.clean_link.proofs.Common.{MarkIsAt, IsReceivable, SyncTellsTheMark, TrafficFrameHasSigns, pages_after}
use Rattle.clean_link.proofs.traffic.Steady.{frames_from_mark, messages_from_mark, first_legs, first_pilot, events_at_all, gathered_all}
use Rattle.clean_link.proofs.traffic.Steady.{each_of_all, one_stream}
use Rattle.clean_link.proofs.frames.ChannelFrames.{clean_signs, shows_sync}
use Rattle.clean_link.proofs.traffic.Signs.{clean_sent, signed_power_bits}
use Rattle.clean_link.proofs.messages.Kinds.{frames_of_all, messages_of_all, pages_of_all, sync_of_all, IsKind, frame_kind, paging_kind}
use Rattle.clean_link.proofs.messages.Kinds.{sets_kind, sync_kind}
use Rattle.clean_link.proofs.messages.MessagesBack.{PagesShown, clean_pages, pages_shown, signed_pages_shown}
use Rattle.clean_link.proofs.sendings.Heard.{sendings_in}
use Rattle.clean_link.proofs.traffic.Back.{each_after, mark_told, none_followed, one_near, undirected, told_there}
use Rattle.clean_link.proofs.traffic.Frames.{each_heard, frame_there, heard_as, heard_there, inside_at, same_places, messages_heard}
use Rattle.clean_link.proofs.traffic.Frames.{signed_frame_back, signed_none_directed, signed_traffic}
use Rattle.heard_events.specs.declared.event.Event.TheVariants.{Traffic as OnTraffic}

-- ---- frames after a true mark

module _ {width : Width} {plan : CellPlan} {p : TrafficPlan} {t : Tuning} {traffic : Traffic}
    {m : Mark} {superframes : ℕ} (is : HearsSentTraffic width plan p t traffic m superframes)
    (samples : List Sample) where
  abbrev legs : ℕ → List Leg
  legs = first_legs traffic m

  abbrev event : ℕ → Event
  event frame = frame_heard t traffic m legs samples (frame_ends plan p frame) (frame - 4 * superframes)

  -- what is heard of one that is in the file, where it has the sent signs
  event_there : (k : ℕ) (f : SetOneFrame) → is_in_file t.count (one_stream t traffic m) k ≡ true →
      cycled_frame (frames_of plan p) (4 * superframes + k) ≡ f ∷ [] →
      TrafficFrameHasSigns plan p samples (4 * superframes + k) → IsEventOf plan p (4 * superframes + k)
      (frame_heard t traffic m legs samples (frame_ends plan p (4 * superframes + k)) k)
  event_there k f there frame has =
      let heard : IsHeardAs plan p t traffic m legs superframes k f =
      heard_there is legs (first_pilot traffic m) k f there frame in
      let number = 4 * superframes + k in
      let ends = frame_ends plan p number in
      let decoded = decoded_at t traffic m legs samples k in
      let power_bits = signed_power_bits samples is heard has in (
        f,
        frame,
        record {
          decoded = decoded;
          powered = ap (frame_event ends decoded) power_bits;
          back = λ distinct.
              let back = signed_frame_back samples is heard has
              (subst (λ (ps : List ℕ). IsDistinctFrame ps f) (same_places is k) distinct) in
              heard_as ends f back.score decoded (power_bits_at t traffic m legs samples k) back.same
              power_bits;
        },
      )

  -- of one that is received
  event_of : SendsSetOne p → (frame : ℕ) → is_received plan p (plan.link.start + m.sample) frame ≡ true →
      TrafficFrameHasSigns plan p samples frame → IsEventOf plan p frame (event frame)
  event_of some frame received has =
      let k : ℕ = frame - 4 * superframes in
      let (here, there) = inside_at is frame received in
      let (f, sent) = frame_there is some k in
      subst (λ (n : ℕ). IsEventOf plan p n (frame_heard t traffic m legs samples (frame_ends plan p n) k)) here
      (event_there k f there sent (subst (TrafficFrameHasSigns plan p samples) (sym here) has))

-- ---- a handset that follows a channel

module _ {width : Width} {plan : CellPlan} {t : Tuning} (all_samples : List Sample) (at : Option ℕ)
    (is : IsReceivable width plan) (tuned : IsOnPath plan t) (long : length all_samples ≡ plan.link.samples)
    (marked : MarkIsAt plan (mark t all_samples t.count) at) (not_directed : All IsNotDirected (events t all_samples))
    (p : TrafficPlan) (f : FollowsOne plan t.traffic p) where
  -- its frames
  frames_after : (m : Mark) (superframes : ℕ) → mark t all_samples t.count ≡ Some m → at ≡ Some superframes →
      HearsSentTraffic width plan p t f.traffic m superframes → AreEventsBySigns plan p all_samples superframes
      (flat_map (frames_at t f.traffic m all_samples) (places (plan.link.samples + 1)))
  frames_after m superframes set told hears =
      let place = hears.marked.place in
      record {
        event = event hears all_samples;
        each = each_heard hears (first_legs f.traffic m) (first_pilot f.traffic m) all_samples long
            (undirected plan t all_samples tuned long not_directed f.traffic m f.follows set)
            ∙ ap (λ (chip : ℕ). map (event hears all_samples) (received_frames plan p chip)) place;
        are = λ frame received.
            event_of hears all_samples f.one frame
            (ap (λ (chip : ℕ). is_received plan p chip frame) place ∙ received);
      }

  pub frames_each : AreFramesBySigns plan p all_samples at
      (flat_map (frame_events_at t all_samples) (places (plan.link.samples + 1)))
  unfolding frame_events_at
  frames_each =
      each_after all_samples is tuned marked f (AreFramesBySigns plan p all_samples)
      (λ n traffic m. frames_at t traffic m all_samples n)
      (frames_from_mark t (one_near t plan tuned) t.traffic all_samples) (λ es none. none) frames_after

  -- and its messages
  messages_after : FromMark (TrafficFrameHasSigns plan p all_samples) at → (m : Mark)
      (superframes : ℕ) → mark t all_samples t.count ≡ Some m → at ≡ Some superframes →
      HearsSentTraffic width plan p t f.traffic m superframes → AreDistinct plan p (98304 * superframes) →
      flat_map (messages_at t f.traffic m all_samples) (places (plan.link.samples + 1))
      ≡ messages_of_channel plan p (98304 * superframes)
  messages_after signs m superframes set told hears distinct =
      let place = hears.marked.place in
      messages_heard hears f.one (subst (AreDistinct plan p) (sym place) distinct) (first_legs f.traffic m)
      (first_pilot f.traffic m) all_samples (signed_traffic hears long (λ k. signs superframes k told))
      (undirected plan t all_samples tuned long not_directed f.traffic m f.follows set)
      ∙ ap (messages_of_channel plan p) place

  pub messages_each : FromMark (TrafficFrameHasSigns plan p all_samples) at → AreMessagesAfter plan p at
      (flat_map (message_events_at t all_samples) (places (plan.link.samples + 1)))
  unfolding message_events_at
  messages_each signs =
      each_after all_samples is tuned marked f (AreMessagesAfter plan p)
      (λ n traffic m. messages_at t traffic m all_samples n)
      (messages_from_mark t (one_near t plan tuned) t.traffic all_samples) (λ es none. none) (messages_after signs)

-- ---- all channels

-- no traffic channel has the row of a paging channel that is sent
free_where_sent : (traffic : List TrafficPlan) (paging : List PagingPlan) (number : ℕ) →
    All (λ (q : PagingPlan). IsFreeOf traffic q.number) paging →
    Contains (map (λ (q : PagingPlan). q.number) paging) number → IsFreeOf traffic number
free_where_sent traffic paging number free sent =
    All-contains (IsFreeOf traffic) (map (λ (q : PagingPlan). q.number) paging) number
    (All-map (IsFreeOf traffic) (λ (q : PagingPlan). q.number) paging free) sent

-- the events of one kind are those of all numbers of samples, where the pilot's isn't of it
gathered : (plan : CellPlan) (t : Tuning) (samples : List Sample) →
    length samples ≡ plan.link.samples → (test : Event → Bool) (g : ℕ → List Event) →
    test (Pilot t.phase t.energy) ≡ false →
    filter test (flat_map (events_at t samples) (places (plan.link.samples + 1)))
    ≡ flat_map g (places (plan.link.samples + 1)) →
    filter test (events t samples) ≡ flat_map g (places (plan.link.samples + 1))
unfolding heard_within
gathered plan t samples long test g apart left =
    let first : filter test (events t samples)
    ≡ filter test (flat_map (events_at t samples) (places (length samples + 1))) = rw apart refl in
    first
    ∙ ap (λ (n : ℕ). filter test (flat_map (events_at t samples) (places (n + 1)))) long
    ∙ left

module _ {width : Width} {plan : CellPlan} {t : Tuning} (samples : List Sample) {at : Option ℕ}
    (is : IsReceivable width plan) (long : length samples ≡ plan.link.samples)
    (tuned : IsOnPath plan t) (marked : MarkIsAt plan (mark t samples t.count) at) where
  pages_back : PagesShown plan t samples at → filter is_page (events t samples) ≡ pages_after plan t.paging at plan.sync
  pages_back shown =
      gathered plan t samples long is_page (paging_events_at t samples) refl
      (pages_of_all t samples (places (plan.link.samples + 1)))
      ∙ pages_shown samples tuned shown marked

  hears_by_signs : All IsNotDirected (events t samples) →
      HearsBySigns width plan samples at t.paging t.traffic (events t samples)
  hears_by_signs not_directed = record {
    sync = λ signs.
        gathered plan t samples long is_sync (sync_events_at t samples) refl
        (sync_of_all t samples (places (plan.link.samples + 1)))
        ∙ sendings_in (shows_sync signs) tuned;
    pages = λ q has numbered signs. pages_back (signed_pages_shown samples q is tuned has numbered signs);
    frames = λ p follows.
        subst (AreFramesBySigns plan p samples at)
        (sym (gathered plan t samples long is_frame (frame_events_at t samples) refl
        (frames_of_all t samples (places (plan.link.samples + 1)))))
        (frames_each samples at is tuned long marked not_directed p follows);
    messages = λ p follows signs.
        subst (AreMessagesAfter plan p at)
        (sym (gathered plan t samples long is_message (message_events_at t samples) refl
        (messages_of_all t samples (places (plan.link.samples + 1)))))
        (messages_each samples at is tuned long marked not_directed p follows signs);
  }

-- ---- by signs

pub tells_the_mark : SyncTellsTheMark
tells_the_mark width plan samples is t tuned =
    subst (λ (n : ℕ). MarkIsAt plan (mark t samples n) (told_with_sync plan plan.sync)) tuned.count
    (mark_told (shows_sync is) tuned (mark t samples t.count) refl)

pub channels_by_signs : ChannelsComeBackBySigns
channels_by_signs width plan samples t at is long tuned marked =
    hears_by_signs samples is long tuned
    (subst (λ (n : ℕ). MarkIsAt plan (mark t samples n) at) (sym tuned.count) marked)

-- what is heard where each frame of a traffic channel has the sent signs
pub frames_after_all : (plan : CellPlan) (p : TrafficPlan) (samples : List Sample) (at : Option ℕ)
    (frames : List Event) → ((frame : ℕ) → TrafficFrameHasSigns plan p samples frame) →
    AreFramesBySigns plan p samples at frames → AreFramesAfter plan p at frames
frames_after_all plan p samples None frames signs none = none
frames_after_all plan p samples (Some superframes) frames signs are = record {
  event = are.event;
  each = are.each;
  are = λ frame received. are.are frame received (signs frame);
}

-- ---- the laws

-- Each channel of a clean link comes back, since the made samples show the frames of the sync
-- channel, of the paging channel and of the traffic channel as they are sent. The number of a
-- paging channel that is sent is no traffic channel's row, so it is heard as a free one is.
pub each_channel : EachChannelComesBack
unfolding paging_sent
each_channel width plan t is tuned least most not_directed =
    let samples = made_samples plan in
    let signs = clean_signs width plan is in
    let marked = mark_told (shows_sync signs) tuned (mark t samples t.count) refl in
    let hears = hears_by_signs samples is signs.long tuned marked not_directed in
    let free = λ (none : IsFreeOf plan.traffic t.paging). pages_back samples is signs.long tuned marked
    (clean_pages width plan t _ is (record {
      path = tuned;
      first_channel = least;
      last_channel = most;
      free = none;
    })) in
    record {
      sync = hears.sync signs;
      pages = λ sent.
          free (free_where_sent plan.traffic plan.paging t.paging is.lawful.traffic.free sent);
      free = free;
      frames = λ p follows.
          frames_after_all plan p samples _ _ (clean_sent is p follows.sent) (hears.frames p follows);
      messages = λ p follows.
          hears.messages p follows
          (λ superframes k told. clean_sent is p follows.sent (4 * superframes + k));
    }

-- ---- channel by channel

-- an event that isn't a traffic channel's message directs no handoff
other_kind : (kind : ℕ) → kind ≢ 4 → (e : Event) → IsKind kind e → IsNotDirected e
other_kind kind other (OnTraffic n capsule message) is = absurd (other (sym is))
other_kind kind other e is = tt

none_of_kind : (kind : ℕ) (es : List Event) → kind ≢ 4 → All (IsKind kind) es → All IsNotDirected es
none_of_kind kind es other are = All-weaker (IsKind kind) IsNotDirected (other_kind kind other) es are

-- ---- all of them

module _ {width : Width} {plan : CellPlan} {t : Tuning} (samples : List Sample)
    (is : HasSyncSigns width plan samples) (tuned : IsOnPath plan t)
    (signs : FollowedHaveSigns plan samples t.traffic) where
  -- the messages of all numbers of samples
  messages_none : (followed : Option Traffic) → t.traffic ≡ followed → FollowsSent plan followed →
      All IsNotDirected (signaling_sent plan followed) →
      All IsNotDirected (flat_map (message_events_at t samples) (places (plan.link.samples + 1)))
  unfolding signaling_sent messages_sent message_events_at places
  messages_none None chosen follows none =
      All-same IsNotDirected _ []
      (none_followed t samples (λ n traffic m. messages_at t traffic m samples n) _ chosen) (All-nil IsNotDirected)
  messages_none (Some traffic) chosen (p, follows) none =
      each_after samples is.receivable tuned (mark_told (shows_sync is) tuned (mark t samples t.count) refl)
      (record { traffic = traffic; follows = chosen; sent = follows.sent; assigned = follows.assigned; one = follows.one })
      (λ at es. All IsNotDirected es) (λ n traffic m. messages_at t traffic m samples n)
      (messages_from_mark t (one_near t plan tuned) t.traffic samples)
      (λ es gone. All-same IsNotDirected es [] gone (All-nil IsNotDirected))
      (λ m superframes set told hears.
      gathered_all IsNotDirected (messages_at t traffic m samples) 0 (plan.link.samples + 1)
      (λ n low below.
      signed_none_directed hears follows.one
      (subst (AreDistinct plan p) (sym hears.marked.place) (follows.distinct superframes told))
      (All-same IsNotDirected (messages_of_channel plan p (plan.link.start + m.sample)) _
      (told_there (messages_of_channel plan) _ told hears) none) samples
      (signed_traffic hears is.long
      (λ k. signs p traffic chosen hears.sent hears.assigned superframes k told)) n (omega (arith, below))))

  module _ (follows : FollowsSent plan t.traffic)
      (none : All IsNotDirected (signaling_sent plan t.traffic)) where
    -- No event of any number of samples directs a handoff: only a message of the traffic channel
    -- can, the other four kinds of events never do, and of the messages it is given.
    all_undirected : (n : ℕ) → n ≤ plan.link.samples → All IsNotDirected (events_at t samples n)
    unfolding places
    all_undirected n most =
        let sync = sync_events_at t samples n in
        let paging = paging_events_at t samples n in
        let frames = frame_events_at t samples n in
        let messages = message_events_at t samples n in
        let sets = sets_events_at t samples n in
        All-same IsNotDirected (events_at t samples n) _ (events_at_all t samples n)
        (All-append IsNotDirected sync (paging ++ (frames ++ (messages ++ sets)))
        (none_of_kind 1 sync (omega arith) (sync_kind t samples n))
        (All-append IsNotDirected paging (frames ++ (messages ++ sets))
        (none_of_kind 2 paging (omega arith) (paging_kind t samples n))
        (All-append IsNotDirected frames (messages ++ sets)
        (none_of_kind 3 frames (omega arith) (frame_kind t samples n))
        (All-append IsNotDirected messages sets (each_of_all IsNotDirected
        (message_events_at t samples) 0 (plan.link.samples + 1) n (omega arith) (omega (arith, most))
        (messages_none t.traffic refl follows none))
        (none_of_kind 5 sets (omega arith) (sets_kind t samples n))))))

-- so no event does
pub no_event_directed : NoEventIsDirected
unfolding heard_within places
no_event_directed width plan samples t is tuned follows signs none =
    let long = is.long in
    All-cons IsNotDirected (Pilot t.phase t.energy) (heard_within t samples (length samples)) tt
    (gathered_all IsNotDirected (events_at t samples) 0 (length samples + 1)
    (λ n low below.
    all_undirected samples is tuned signs follows none n (omega (arith, below, long))))
