-- What a handset hears of the traffic channel that it follows: the frames that the cell sends from
-- its mark on, and the messages in them.
use Rattle.clean_link.proofs.Common.{◌≡◌, ℕ, zero, suc, ◌+◌, ◌*◌, ◌<◌, List, [], ◌∷◌, length, get_or, refl, sym, ap, ◌∙◌, arith, subst, ◌≢◌}
use Rattle.clean_link.proofs.Common.{Option, None, Some, All, Contains, flat_map, eq-eqb, ne_eqb, All-contains, places, Width, made_samples}
use Rattle.clean_link.proofs.Common.{HaveOwnTrafficRows, told_superframes, CellPlan, SyncPlan, TrafficPlan, events, frame_events_at, mark}
use Rattle.clean_link.proofs.Common.{message_events_at, AreNear, frames_at, messages_at, if_followed, Tuning, sync_stream, Event, Mark}
use Rattle.clean_link.proofs.Common.{Traffic, by_one_mark, flat_map_ext_places, IsNotDirected, IsOnPath, IsReceivable, frames_of_channel}
use Rattle.clean_link.proofs.Common.{frames_sent, told_on_row, AreDistinct, messages_of_channel, messages_sent, signaling_sent, MarkIsAt}
use Rattle.clean_link.proofs.Common.{told_by_first, told_followed, told_with_sync, traffic_sent, FollowsSent, HearsSentTraffic, Sample}
use Rattle.clean_link.proofs.Common.{IsUndirected, ShowsSync, FollowsOne, OpensAfter, HoldsOfDistinct, length-made}
use Rattle.clean_link.proofs.traffic.Steady.{frames_from_mark, messages_from_mark, undirected_after}
use Rattle.clean_link.proofs.marks.MarksTrue.{first_in, unset_in, marks_in, message_tells, rate_in, unmarked_in}
use Rattle.clean_link.proofs.frames.ChannelFrames.{clean_sync}
use Rattle.clean_link.proofs.traffic.Frames.{sent_frames_back, sent_messages_back}
use Rattle.clean_link.proofs.traffic.Signs.{clean_sent}
use Rattle.clean_link.proofs.sendings.Heard.{none_known}

pub one_near : (t : Tuning) (plan : CellPlan) → IsOnPath plan t → AreNear (sync_stream t).fingers
one_near t plan tuned = rw tuned.alone refl

-- ---- the channel on a row

-- no other channel has the row of the one that stands at a place
row_at : (told : TrafficPlan → List Event) (traffic : List TrafficPlan) (p : TrafficPlan)
    (row i : ℕ) → HaveOwnTrafficRows traffic → i < length traffic → get_or traffic i p ≡ p →
    p.row ≡ row → told_on_row told traffic row ≡ told p
row_at told [] p row i own below is on = absurd (omega (arith, below))
row_at told (q ∷ traffic) p row zero own below is on =
    let here = eq-eqb q.row row (ap (λ (x : TrafficPlan). x.row) is ∙ on) in
    rw here (ap told is)
row_at told (q ∷ traffic) p row (suc i) own below is on =
    let there : Contains traffic p = (i, omega (arith, below), is) in
    let apart : p.row ≢ q.row = All-contains (λ (u : TrafficPlan). u.row ≢ q.row) traffic p own.0 there in
    let other = ne_eqb q.row row (λ e. apart (on ∙ sym e)) in
    rw other (row_at told traffic p row i own.1 (omega (arith, below)) is on)

on_row : (width : Width) (plan : CellPlan) (p : TrafficPlan) (row : ℕ)
    (told : TrafficPlan → List Event) → IsReceivable width plan → Contains plan.traffic p →
    p.row ≡ row → told_on_row told plan.traffic row ≡ told p
on_row width plan p row told is has on = row_at told plan.traffic p row has.0 is.lawful.traffic.apart has.1 has.2 on

-- ---- after the mark

-- what the channel on a row tells after a local chip
abbrev told_after : CellPlan → (TrafficPlan → ℕ → List Event) → ℕ → ℕ → List Event
told_after plan told row chip = told_on_row (λ (p : TrafficPlan). told p chip) plan.traffic row

-- what is told of a channel that is heard after a mark is told of the one on its row
pub told_there : {width : Width} {plan : CellPlan} {p : TrafficPlan} {t : Tuning} {traffic : Traffic} {m : Mark}
    {superframes : ℕ} (told : TrafficPlan → ℕ → List Event) (at : Option ℕ) → at ≡ Some superframes →
    HearsSentTraffic width plan p t traffic m superframes →
    told p (plan.link.start + m.sample) ≡ told_followed (told_after plan told) (Some traffic) at
told_there {width} {plan} {p} {traffic = traffic} {superframes = superframes} told at is hears =
    ap (told p) hears.marked.place
    ∙ sym
    (on_row width plan p traffic.row (λ (q : TrafficPlan). told q (98304 * superframes)) hears.receivable hears.sent
    hears.assigned.row)
    ∙ sym (ap (told_followed (told_after plan told) (Some traffic)) is)

module _ {width : Width} {plan : CellPlan} {t : Tuning} {samples : List Sample}
    (is : ShowsSync width plan samples) (tuned : IsOnPath plan t) where
  -- the superframes of the mark are those that the first whole transmission tells
  told_so : (sync : SyncPlan) (m : Mark) → plan.sync ≡ Some sync → mark t samples t.count ≡ Some m → (superframes : ℕ) →
      m.time ≡ plan.cell.time + superframes → told_with_sync plan (Some sync) ≡ Some superframes
  told_so sync m sends set superframes time =
      let first = first_in is tuned sync sends m set in
      let first_time = ap (λ (x : Mark). x.time) (sym first.same) in
      let told : told_superframes plan.cell sync.message first.sending ≡ superframes =
      omega (arith, time, first_time, (message_tells plan sync.message first.sending).1) in
      ap (told_by_first plan sync.message) first.first ∙ ap (λ (n : ℕ). Some n) told

  -- where no mark is set none is told
  pub untold_in : (channel : Option SyncPlan) → plan.sync ≡ channel →
      mark t samples t.count ≡ None → told_with_sync plan channel ≡ None
  untold_in None silent unset = refl
  untold_in (Some sync) sends unset = ap (told_by_first plan sync.message) (unset_in is tuned sync sends unset)

  -- so the mark is the one that it tells
  pub mark_told : (set : Option Mark) → mark t samples t.count ≡ set → MarkIsAt plan set (told_with_sync plan plan.sync)
  mark_told None unset = untold_in plan.sync refl unset
  mark_told (Some m) set = by_channel plan.sync refl
    where
      by_channel : (channel : Option SyncPlan) → plan.sync ≡ channel →
          MarkIsAt plan (Some m) (told_with_sync plan plan.sync)
      by_channel None silent =
          let unset = unmarked_in is tuned t.count silent in absurd (cc)
      by_channel (Some sync) sends =
          let (superframes, marked) = marks_in is tuned t.count m set in (
            superframes,
            ap (told_with_sync plan) sends ∙ told_so sync m sends set superframes marked.time,
            record { marked = marked; sync = sync; sends = sends; rate = rate_in is tuned sync t.count m sends set },
          )

-- What is heard of a channel that is followed comes back where the mark of all samples tells it:
-- nothing if none is set, otherwise what is true of what is heard after that mark.
pub each_after : {width : Width} {plan : CellPlan} {t : Tuning} (samples : List Sample) {at : Option ℕ} →
    IsReceivable width plan → IsOnPath plan t → MarkIsAt plan (mark t samples t.count) at →
    {p : TrafficPlan} (f : FollowsOne plan t.traffic p) (Are : Option ℕ → List Event → Type 0)
    (heard : ℕ → Traffic → Mark → List Event) → ((n : ℕ) → OpensAfter n (if_followed (heard n) t.traffic)) →
    ((es : List Event) → es ≡ [] → Are None es) →
    ((m : Mark) (superframes : ℕ) → mark t samples t.count ≡ Some m → at ≡ Some superframes →
    HearsSentTraffic width plan p t f.traffic m superframes →
    Are (Some superframes) (flat_map (λ n. heard n f.traffic m) (places (plan.link.samples + 1)))) →
    Are at (flat_map (λ n. if_followed (heard n) t.traffic (mark t samples n)) (places (plan.link.samples + 1)))
each_after {plan = plan} {t} samples {at} is tuned marked {p} f Are heard opens none following =
    let all = places (plan.link.samples + 1) in
    let count = tuned.count in
    let last = mark t samples t.count in
    let by_last : flat_map (λ n. if_followed (heard n) t.traffic (mark t samples n)) all
    ≡ flat_map (λ n. if_followed (heard n) (Some f.traffic) last) all =
    flat_map_ext_places (λ n. if_followed (heard n) t.traffic (mark t samples n))
    (λ n. if_followed (heard n) t.traffic last) (plan.link.samples + 1)
    (λ n below.
    by_one_mark t (one_near t plan tuned) samples n t.count n _ (omega (arith, below, count)) (omega arith) (opens n))
    ∙ ap (λ (followed : Option Traffic). flat_map (λ n. if_followed (heard n) followed last) all) f.follows in
    subst (Are at) (sym by_last) (by_mark last refl marked)
  where
    by_mark : (m : Option Mark) → mark t samples t.count ≡ m → MarkIsAt plan m at →
        Are at (flat_map (λ n. if_followed (heard n) (Some f.traffic) m) (places (plan.link.samples + 1)))
    by_mark None unset untold =
        subst (λ (told : Option ℕ). Are told
        (flat_map (λ (n : ℕ). let none : List Event = [] in none) (places (plan.link.samples + 1)))) (sym untold)
        (none _ (none_known (places (plan.link.samples + 1))))
    by_mark (Some m) set (superframes, told, cell) =
        subst (λ (o : Option ℕ). Are o
        (flat_map (λ n. heard n f.traffic m) (places (plan.link.samples + 1)))) (sym told)
        (following m superframes set told
        (record { receivable = is; sent = f.sent; assigned = f.assigned; tuned = tuned; marked = cell.marked }))

-- where no channel is followed, nothing is heard of one
pub none_followed : (t : Tuning) (samples : List Sample) (heard : ℕ → Traffic → Mark → List Event)
    (ns : List ℕ) → t.traffic ≡ None → flat_map (λ n. if_followed (heard n) t.traffic (mark t samples n)) ns ≡ []
none_followed t samples heard ns none =
    ap (λ (followed : Option Traffic).
    flat_map (λ n. if_followed (heard n) followed (mark t samples n)) ns) none
    ∙ none_known ns

-- no handoff is directed after the mark of all samples
pub undirected : (plan : CellPlan) (t : Tuning) (samples : List Sample) → IsOnPath plan t →
    length samples ≡ plan.link.samples → All IsNotDirected (events t samples) →
    (traffic : Traffic) (m : Mark) → t.traffic ≡ Some traffic → mark t samples t.count ≡ Some m →
    IsUndirected t traffic m samples plan.link.samples
undirected plan t samples tuned long not_directed traffic m followed set =
    let last : mark t samples (length samples) ≡ Some m = ap (mark t samples) (long ∙ sym tuned.count) ∙ set in
    subst (IsUndirected t traffic m samples) long
    (undirected_after t (one_near t plan tuned) samples not_directed traffic m followed last)

module _ (width : Width) (plan : CellPlan) (t : Tuning) (is : IsReceivable width plan)
    (tuned : IsOnPath plan t)
    (not_directed : All IsNotDirected (events t (made_samples plan))) where
  abbrev samples : List Sample
  samples = made_samples plan

  -- what each channel with distinct frames gives back, the one that is followed does
  followed_back : (heard : Tuning → Traffic → Mark → List Sample → ℕ → List Event)
      (told : CellPlan → TrafficPlan → ℕ → List Event) →
      ((n : ℕ) → OpensAfter n (if_followed (λ traffic m. heard t traffic m samples n) t.traffic)) →
      HoldsOfDistinct (λ plan p t traffic m samples. IsUndirected t traffic m samples plan.link.samples →
      flat_map (heard t traffic m samples) (places (plan.link.samples + 1)) ≡
      told plan p (plan.link.start + m.sample)) → (followed : Option Traffic) → t.traffic ≡ followed →
      FollowsSent plan followed →
      flat_map (λ n. if_followed (λ traffic m. heard t traffic m samples n) t.traffic (mark t samples n))
      (places (plan.link.samples + 1))
      ≡ told_followed (told_after plan (told plan)) followed (told_with_sync plan plan.sync)
  followed_back heard told opens back None none follows =
      none_followed t samples (λ n traffic m. heard t traffic m samples n) (places (plan.link.samples + 1)) none
  followed_back heard told opens back (Some traffic) chosen (p, follows) =
      each_after samples is tuned (mark_told (clean_sync width plan is) tuned (mark t samples t.count) refl)
      (record { traffic = traffic; follows = chosen; sent = follows.sent; assigned = follows.assigned; one = follows.one })
      (λ at es. es ≡ told_followed (told_after plan (told plan)) (Some traffic) at)
      (λ n traffic m. heard t traffic m samples n) opens (λ es none. none)
      (λ m superframes set at hears.
      back width plan p t traffic m superframes samples hears (length-made plan)
      (λ k. clean_sent is p hears.sent (4 * superframes + k)) follows.one
      (subst (AreDistinct plan p) (sym hears.marked.place) (follows.distinct superframes at))
      (undirected plan t samples tuned (length-made plan) not_directed traffic m chosen set)
      ∙ told_there (told plan) (Some superframes) refl hears)

  -- its events are the frames that are sent
  pub frames_all : FollowsSent plan t.traffic →
      flat_map (frame_events_at t samples) (places (plan.link.samples + 1)) ≡ traffic_sent plan t.traffic
  unfolding traffic_sent frames_sent frame_events_at
  frames_all =
      followed_back frames_at frames_of_channel (frames_from_mark t (one_near t plan tuned) t.traffic samples)
      sent_frames_back t.traffic refl

  -- and the messages that their signaling spells
  pub messages_all : FollowsSent plan t.traffic →
      flat_map (message_events_at t samples) (places (plan.link.samples + 1)) ≡ signaling_sent plan t.traffic
  unfolding signaling_sent messages_sent message_events_at
  messages_all =
      followed_back messages_at messages_of_channel
      (messages_from_mark t (one_near t plan tuned) t.traffic samples) sent_messages_back t.traffic refl
