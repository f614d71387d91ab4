-- The frames of a traffic channel come back: each received one is heard at its own end, as it was
-- sent where it is distinct.
use Rattle.clean_link.proofs.Common.{SignedFramesAreDecoded, ◌≡◌, ℕ, zero, suc, ◌+◌, ◌-◌, ◌*◌, ◌/◌, ◌%◌, ◌<◌, ◌≤◌, ⊎_elim, Bool, true, List}
use Rattle.clean_link.proofs.Common.{false, [], ◌∷◌, length, cases_lt, inl, inr, map, filter, take, drop, refl, sym, ap, ◌∙◌, arith, subst}
use Rattle.clean_link.proofs.Common.{nat_le, cond, All, flat_map, and_from, and_parts, cases_Bool, false_from_ne_true, le-leb, leb-true, ℤ}
use Rattle.clean_link.proofs.Common.{All-head, All-tail, places, Sample, Width, traffic_mask, power_places, Decoded, sent_frame, Data, Leg}
use Rattle.clean_link.proofs.Common.{made_samples, frames_of, IsTrafficFrame, SetOne, planned, one_in_turn, cycled_frame, set_one, CellPlan}
use Rattle.clean_link.proofs.Common.{IsSetOneFrame, TrafficPlan, SetOneFrame, frame_softs, is_in_file, known_at, known_now, Stream, Tuning}
use Rattle.clean_link.proofs.Common.{frames_at, power_bits_at, decoded_at, frame_event, frame_heard, frames_by, frame_state, frames_bound}
use Rattle.clean_link.proofs.Common.{frames_now, replaced_in, stream_of, Event, Mark, Traffic, filter_enough, flat_map_ext_filter_places}
use Rattle.clean_link.proofs.Common.{flat_map_ext_places, soft_strength, frame_chip, frame_ends, frame_told, frames_of_channel, is_received}
use Rattle.clean_link.proofs.Common.{received_frames, replaced_of, sent_power_bits, sent_frame_event, AreDistinct, IsDistinctFrame, Option}
use Rattle.clean_link.proofs.Common.{IsOnePilot, SendsSetOne, end_chip, EachFrameIsHeard, HearsSentTraffic, IsHeardAs, IsUndirected}
use Rattle.clean_link.proofs.Common.{SentFramesComeBack, TrafficFramesComeBack, signs_frame, ShowsTraffic, option_to_list, append-nil}
use Rattle.clean_link.proofs.Common.{CheckForm, messages_at, capsule_with, signaling_message_at, message_events, message_heard, messages_by}
use Rattle.clean_link.proofs.Common.{signal_at, signal_in, signal_of, signals_before, has_frame, filter_ext_places, message_told, HasSign}
use Rattle.clean_link.proofs.Common.{messages_of_channel, signal_sent, signals_in, signals_received, SentMessagesComeBack, IsNotDirected}
use Rattle.clean_link.proofs.Common.{TrafficFrameHasSigns, NoneIsDirected, IsDecodedAs, IsSigned, signed_turn, signs_turn}
use Rattle.clean_link.proofs.traffic.Signs.{traffic_clean, traffic_strong, heard_related, power_pairs, lawful_traffic, same_state}
use Rattle.clean_link.proofs.traffic.Signs.{signed_power_bits}
use Rattle.clean_link.proofs.sendings.Order.{flat_map-filter, given_in_order, given_where, moved_up, one_each, IsBound}
use Rattle.clean_signal.proofs.frames.Times.{timed_alone}
use Rattle.clean_link.proofs.traffic.Steady.{one_now, one_stream, one_stream_is, traffic_file_from, traffic_file_to, traffic_known_is}
use Rattle.clean_link.proofs.traffic.Steady.{traffic_alone, one_pilot_heard, first_legs, first_pilot, frames_of_one, each_of_all}
use Rattle.clean_link.proofs.traffic.Steady.{one_pilot_before, messages_of_one}

-- ---- one of a list

-- what is true of all is true of the one that is taken
pub one_taken : {A : Type 0} (P : A → Type 0) (xs : List A) (j : ℕ) (x : A) → All P xs →
    take 1 (drop j xs) ≡ x ∷ [] → P x
one_taken P [] zero x all is = absurd (cc)
one_taken P [] (suc j) x all is = absurd (cc)
one_taken P (y ∷ xs) zero x all is =
    let same : y ≡ x = cc in
    subst P same (All-head P y xs all)
one_taken P (y ∷ xs) (suc j) x all is = one_taken P xs j x (All-tail P y xs all) is

-- there is one at each place
pub one_there : {A : Type 0} (xs : List A) (j : ℕ) → j < length xs → (x : A) × (take 1 (drop j xs) ≡ x ∷ [])
one_there [] j below = absurd (omega (arith, below))
one_there (x ∷ xs) zero below = (x, refl)
one_there (x ∷ xs) (suc j) below = one_there xs j (omega (arith, below))

-- ---- one frame

-- it has as many information bits as its rate
pub sized : {width : Width} {plan : CellPlan} {p : TrafficPlan} {t : Tuning} {traffic : Traffic}
    {m : Mark} {legs : ℕ → List Leg} {superframes k : ℕ} {f : SetOneFrame} →
    HearsSentTraffic width plan p t traffic m superframes →
    IsHeardAs plan p t traffic m legs superframes k f → IsSetOneFrame f
sized {width} {plan} {p} {superframes = superframes} {k = k} {f = f} is heard =
    one_taken IsTrafficFrame p.frames ((4 * superframes + k) % length p.frames) (planned SetOne f)
    (lawful_traffic width plan p is.receivable.lawful is.sent).sized
    (one_in_turn p.frames (4 * superframes + k) f heard.frame)

-- it is decoded
pub frame_back : TrafficFramesComeBack
unfolding decoded_at
frame_back width plan p t traffic m legs superframes k f is heard distinct =
    let few = (power_pairs (frame_state traffic m k) (traffic_mask traffic.esn)).long in
    let strength = soft_strength plan Data p.gain in
    let signs = heard_related is heard (IsSigned strength) (signed_turn strength) (made_samples plan)
    (traffic_clean is (4 * superframes + k)) in
    sent_frame (soft_strength plan Data p.gain) (replaced_in traffic m k) f.rate f.information
    (frame_softs (made_samples plan) (stream_of t traffic m legs k) k) (traffic_strong is)
    (omega (arith, few)) signs.0 (sized is heard) signs.1 distinct

-- what is heard of it
pub heard_as : (n : ℕ) (f : SetOneFrame) (score : ℤ) (frame : Decoded) (power_bits : List Bool) →
    frame ≡ record { rate = f.rate; good = true; bits = f.information; score = score } →
    power_bits ≡ sent_power_bits f → frame_event n frame power_bits ≡ sent_frame_event n f
heard_as n f score frame power_bits is sent =
    ap (λ (d : Decoded). frame_event n d power_bits) is
    ∙ ap (λ (bits : List Bool).
    frame_event n (record {
      rate = f.rate;
      good = true;
      bits = f.information;
      score = score;
    }) bits) sent

-- ---- in a file

-- a frame that is received begins at the mark or later, and ends in the file
pub received_lies : (plan : CellPlan) (p : TrafficPlan) (chip frame : ℕ) → is_received plan p chip frame ≡ true →
    (chip ≤ frame_chip p frame) × (frame_chip p (frame + 1) ≤ end_chip plan)
received_lies plan p chip frame kept =
    let both = and_parts (nat_le chip (frame_chip p frame)) (nat_le (frame_chip p (frame + 1)) (end_chip plan)) kept in
    (leb-true chip (frame_chip p frame) both.0, leb-true (frame_chip p (frame + 1)) (end_chip plan) both.1)

-- the bound holds for the frames that end within n samples
pub bound_enough : (t : Tuning) (traffic : Traffic) (m : Mark) → IsBound (one_stream t traffic m) frames_bound
bound_enough t traffic m n k ends = omega (arith, ends)

module _ {width : Width} {plan : CellPlan} {p : TrafficPlan} {t : Tuning} {traffic : Traffic}
    {m : Mark} {superframes : ℕ} (is : HearsSentTraffic width plan p t traffic m superframes) where
  latest : p.offset ≤ 15
  latest = (lawful_traffic width plan p is.receivable.lawful is.sent).latest

  abbrev stream : Stream
  stream = one_stream t traffic m

  abbrev inside : ℕ → Bool
  inside = is_in_file t.count stream

  abbrev mark_chip : ℕ
  mark_chip = plan.link.start + m.sample

  abbrev received : ℕ → Bool
  received = is_received plan p mark_chip

  -- the channel's frames that are received are those that the file holds after the mark
  pub received_is : (k : ℕ) → received (4 * superframes + k) ≡ inside k
  received_is k =
      let frame = 4 * superframes + k in
      let place = is.marked.place in
      let count = is.tuned.count in
      let offset = is.assigned.offset in
      ⊎_elim
      (λ (there : inside k ≡ true).
      let ends = traffic_file_to t traffic m is.tuned.alone k there in
      and_from (nat_le mark_chip (frame_chip p frame)) (nat_le (frame_chip p (frame + 1)) (end_chip plan))
      (le-leb mark_chip (frame_chip p frame) (omega (arith, place)))
      (le-leb (frame_chip p (frame + 1)) (end_chip plan) (omega (arith, place, count, offset, ends)))
      ∙ sym there)
      (λ (gone : inside k ≡ false).
      false_from_ne_true (received frame)
      (λ kept.
      let ends = (received_lies plan p mark_chip frame kept).1 in
      let there = traffic_file_from t traffic m is.tuned.alone k (omega (arith, place, count, offset, ends)) in
      absurd (cc))
      ∙ sym gone)
      (cases_Bool (inside k))

  -- an earlier frame begins before the mark
  pub early : (i : ℕ) → i < 4 * superframes → received i ≡ false
  early i low =
      let place = is.marked.place in
      false_from_ne_true (received i)
      (λ kept.
      let begun = (received_lies plan p mark_chip i kept).0 in
      omega (arith, low, begun, place, latest))

  -- so the number of a received frame counts frames after the mark, and it lies in the file
  pub inside_at : (frame : ℕ) → received frame ≡ true → (4 * superframes + (frame - 4 * superframes) ≡ frame)
      × (inside (frame - 4 * superframes) ≡ true)
  inside_at frame kept =
      elim (cases_lt frame (4 * superframes)) [
        | inl less ↦ let before = early frame less in absurd (cc)
        | inr most ↦
            let here : 4 * superframes + (frame - 4 * superframes) ≡ frame = omega (arith, most) in
            (here, sym (received_is (frame - 4 * superframes)) ∙ ap received here ∙ kept)
      ]

  -- and a late one ends after the file
  past_end : (i : ℕ) → end_chip plan / 24576 + 1 ≤ i → received i ≡ false
  past_end i high =
      false_from_ne_true (received i)
      (λ kept.
      let ends = (received_lies plan p mark_chip i kept).1 in
      omega (arith, high, ends))

  past_bound : (i : ℕ) → 4 * superframes + frames_bound t.count ≤ i → received i ≡ false
  past_bound i high =
      let place = is.marked.place in
      let count = is.tuned.count in
      past_end i (omega (arith, high, place, count))

  -- what the received ones among the first frames give, by their numbers after the mark
  pub by_marks_numbers : {X : Type 0} (g : ℕ → List X) (bound : ℕ) →
      flat_map g (filter received (places (4 * superframes + bound)))
      ≡ flat_map (λ k. g (4 * superframes + k)) (filter inside (places bound))
  by_marks_numbers {X} g bound =
      let first = 4 * superframes in
      let following : ℕ → List X = λ k. g (first + k) in
      flat_map-filter received g (places (first + bound))
      ∙ moved_up (given_where inside following) (given_where received g) first bound
      (λ i low. ap (λ (b : Bool). cond b (g i) []) (early i low))
      (λ k. ap (λ (b : Bool). cond b (g (first + k)) []) (received_is k))
      ∙ sym (flat_map-filter inside following (places bound))

  -- and what all of them give
  pub by_marks_frames : {X : Type 0} (g : ℕ → List X) → flat_map g (received_frames plan p mark_chip)
      ≡ flat_map (λ k. g (4 * superframes + k)) (filter inside (places (frames_bound t.count)))
  by_marks_frames g =
      let bound = frames_bound t.count in
      ap (flat_map g)
      (filter_enough received (end_chip plan / 24576 + 1) (4 * superframes + bound) past_end
      past_bound)
      ∙ by_marks_numbers g bound

  -- when it is heard
  pub known_is : (k : ℕ) → known_at t.count stream k ≡ frame_ends plan p (4 * superframes + k)
  known_is k =
      let place = is.marked.place in
      let offset = is.assigned.offset in
      traffic_known_is t traffic m is.tuned.alone k ∙ omega (arith, place, offset)

  -- So what the channel's frames give, number of samples by number of samples, comes in their order.
  pub in_channel_order : {X : Type 0} (f : ℕ → List X) (g : ℕ → ℕ → List X) (told : ℕ → List X) →
      ((n : ℕ) → n < t.count + 1 →
      f n ≡ flat_map (g n) (known_now t.count stream n (frames_bound n))) →
      ((k : ℕ) → inside k ≡ true → g (known_at t.count stream k) k ≡ told (4 * superframes + k)) →
      flat_map f (places (plan.link.samples + 1)) ≡ flat_map told (received_frames plan p mark_chip)
  in_channel_order f g told given each =
      ap (λ (n : ℕ). flat_map f (places (n + 1))) (sym is.tuned.count)
      ∙ flat_map_ext_places f (λ n. flat_map (g n) (known_now t.count stream n (frames_bound n))) (t.count + 1) given
      ∙ given_in_order stream (timed_alone t.count stream (traffic_alone t traffic m is.tuned.alone)) frames_bound
      (bound_enough t traffic m) g
      ∙ flat_map_ext_filter_places inside (λ k. g (known_at t.count stream k) k)
      (λ k. told (4 * superframes + k)) (frames_bound t.count) (λ k below there. each k there)
      ∙ sym (by_marks_frames told)

  -- the power control bits replace the same places
  pub same_places : (k : ℕ) → replaced_of plan p (4 * superframes + k) ≡ replaced_in traffic m k
  same_places k =
      ap (λ (s : ℕ). power_places s (traffic_mask p.esn))
      (sym (same_state plan p traffic m superframes k is.marked is.assigned))
      ∙ ap (λ (e : ℕ). power_places (frame_state traffic m k) (traffic_mask e)) is.assigned.esn

  -- as the channel's frames are
  pub distinct_there : AreDistinct plan p mark_chip → (k : ℕ) (f : SetOneFrame) → inside k ≡ true →
      cycled_frame (frames_of plan p) (4 * superframes + k) ≡ f ∷ [] → IsDistinctFrame (replaced_in traffic m k) f
  distinct_there distinct k f there frame =
      let frames = distinct (4 * superframes + k) (received_is k ∙ there) in
      let Distinct : SetOneFrame → Type 0 =
      λ (x : SetOneFrame). IsDistinctFrame (replaced_of plan p (4 * superframes + k)) x in
      let only : All Distinct (f ∷ []) = subst (λ (fs : List SetOneFrame). All Distinct fs) frame frames in
      subst (λ (replaced : List ℕ). IsDistinctFrame replaced f) (same_places k) (All-head Distinct f [] only)

  -- one frame is sent at each number
  pub frame_there : SendsSetOne p → (k : ℕ) →
      (f : SetOneFrame) × (cycled_frame (frames_of plan p) (4 * superframes + k) ≡ f ∷ [])
  frame_there some k =
      let frames = set_one p.frames in
      one_there frames ((4 * superframes + k) % length frames) (omega (arith, some))

  module _ (legs : ℕ → List Leg) (one : (k : ℕ) → IsOnePilot traffic (legs k)) where
    -- a frame in the file is heard as what is sent
    pub heard_there : (k : ℕ) (f : SetOneFrame) → inside k ≡ true →
        cycled_frame (frames_of plan p) (4 * superframes + k) ≡ f ∷ [] →
        IsHeardAs plan p t traffic m legs superframes k f
    heard_there k f there frame = record {
      pilot = one k;
      here = ap (λ (s : Stream). is_in_file t.count s k)
          (one_stream_is t traffic m legs k (one k)) ∙ there;
      frame = frame;
    }

    module _ (samples : List Sample) (long : length samples ≡ plan.link.samples) where
      -- a distinct frame is told as it was sent
      told_is : ShowsTraffic plan p t traffic m superframes samples → (k : ℕ) (f : SetOneFrame) → inside k ≡ true →
          cycled_frame (frames_of plan p) (4 * superframes + k) ≡ f ∷ [] → IsDistinctFrame (replaced_in traffic m k) f →
          frame_heard t traffic m legs samples (known_at t.count stream k) k ∷ []
          ≡ frame_told plan p (4 * superframes + k)
      told_is shows k f there frame distinct =
          let heard = heard_there k f there frame in
          let decoded = shows.decoded legs k f heard distinct in
          let ends = frame_ends plan p (4 * superframes + k) in
          ap (λ (n : ℕ). frame_heard t traffic m legs samples n k ∷ []) (known_is k)
          ∙ ap (λ (e : Event). e ∷ [])
          (heard_as ends f decoded.score (decoded_at t traffic m legs samples k)
          (power_bits_at t traffic m legs samples k)
          decoded.same (shows.power_bits legs k f heard))
          ∙ sym (ap (map (sent_frame_event ends)) frame)

      module _ (undirected : IsUndirected t traffic m samples plan.link.samples) where
        -- what is heard at a number of samples
        heard_at_once : (n : ℕ) → n < t.count + 1 → frames_at t traffic m samples n
            ≡ flat_map (λ k. frame_heard t traffic m legs samples n k ∷ [])
            (known_now t.count stream n (frames_bound n))
        unfolding frames_by
        heard_at_once n below =
            let count = is.tuned.count in
            frames_of_one t traffic m legs samples one n (omega (arith, below, count, long))
            (λ k. one_pilot_heard t traffic m samples n k (λ i most. undirected i (omega (arith, most, below, count))))
            ∙ one_each (frame_heard t traffic m legs samples n) (frames_now t traffic m legs n)
            ∙ ap (flat_map (λ k. frame_heard t traffic m legs samples n k ∷ [])) (one_now t traffic m legs one n)

        -- so one event is heard for each received frame
        pub each_heard : flat_map (frames_at t traffic m samples) (places (plan.link.samples + 1)) ≡
            map (λ frame. frame_heard t traffic m legs samples (frame_ends plan p frame)
            (frame - 4 * superframes)) (received_frames plan p mark_chip)
        each_heard =
            let told : ℕ → Event =
            λ frame. frame_heard t traffic m legs samples (frame_ends plan p frame) (frame - 4 * superframes) in
            in_channel_order (frames_at t traffic m samples)
            (λ n k. frame_heard t traffic m legs samples n k ∷ []) (λ frame. told frame ∷ []) heard_at_once
            (λ k there.
            let following : k ≡ 4 * superframes + k - 4 * superframes = omega arith in
            ap (λ (n : ℕ). frame_heard t traffic m legs samples n k ∷ []) (known_is k)
            ∙ ap (λ (j : ℕ).
            frame_heard t traffic m legs samples (frame_ends plan p (4 * superframes + k)) j ∷ [])
            following)
            ∙ sym (one_each told (received_frames plan p mark_chip))

        -- and where all of them are distinct, what was sent
        pub sent_heard : ShowsTraffic plan p t traffic m superframes samples → SendsSetOne p →
            AreDistinct plan p mark_chip → flat_map (frames_at t traffic m samples) (places (plan.link.samples + 1)) ≡
            frames_of_channel plan p mark_chip
        sent_heard shows some distinct =
            in_channel_order (frames_at t traffic m samples)
            (λ n k. frame_heard t traffic m legs samples n k ∷ []) (frame_told plan p) heard_at_once
            (λ k there.
            let (f, frame) = frame_there some k in
            told_is shows k f there frame (distinct_there distinct k f there frame))

-- ---- samples whose frames have the sent signs

pub signed_frame_back : {width : Width} {plan : CellPlan} {p : TrafficPlan} {t : Tuning}
    {traffic : Traffic} {m : Mark} {legs : ℕ → List Leg} {superframes k : ℕ} {f : SetOneFrame}
    (samples : List Sample) → HearsSentTraffic width plan p t traffic m superframes →
    IsHeardAs plan p t traffic m legs superframes k f → TrafficFrameHasSigns plan p samples (4 * superframes + k) →
    IsDistinctFrame (replaced_in traffic m k) f → IsDecodedAs f (decoded_at t traffic m legs samples k)
unfolding decoded_at
signed_frame_back {t = t} {traffic} {m} {legs} {k = k} {f} samples is heard has distinct =
    let few = (power_pairs (frame_state traffic m k) (traffic_mask traffic.esn)).long in
    let signs = heard_related is heard HasSign signs_turn samples has in
    record {
      score = _;
      same = signs_frame (replaced_in traffic m k) f.rate f.information
          (frame_softs samples (stream_of t traffic m legs k) k) (omega (arith, few)) signs.0
          (sized is heard) signs.1 distinct;
    }

pub frames_decoded : SignedFramesAreDecoded
frames_decoded width plan p t traffic m legs superframes k f samples is heard signs =
    signed_frame_back samples is heard signs

-- where each frame from the mark on has the sent signs, the samples show the channel
pub signed_traffic : {width : Width} {plan : CellPlan} {p : TrafficPlan} {t : Tuning}
    {traffic : Traffic} {m : Mark} {superframes : ℕ} {samples : List Sample} →
    HearsSentTraffic width plan p t traffic m superframes → length samples ≡ plan.link.samples →
    ((k : ℕ) → TrafficFrameHasSigns plan p samples (4 * superframes + k)) →
    ShowsTraffic plan p t traffic m superframes samples
signed_traffic {samples = samples} is long signs = record {
  long = long;
  decoded = λ legs k f heard. signed_frame_back samples is heard (signs k);
  power_bits = λ legs k f heard. signed_power_bits samples is heard (signs k);
}

-- ---- the laws

pub each_frame_heard : EachFrameIsHeard
each_frame_heard width plan p t traffic m superframes legs samples is long undirected one =
    each_heard is legs one samples long undirected

pub sent_frames_back : SentFramesComeBack
sent_frames_back width plan p t traffic m superframes samples is long signs some distinct undirected =
    sent_heard is (first_legs traffic m) (first_pilot traffic m) samples long undirected
    (signed_traffic is long signs) some distinct

-- ---- messages

-- what one thing gives, of a list that holds it alone
of_one : {A B : Type 0} (f : A → List B) (xs : List A) (x : A) → xs ≡ x ∷ [] → flat_map f xs ≡ f x
of_one f xs x is = ap (flat_map f) is ∙ append-nil (f x)

module _ {width : Width} {plan : CellPlan} {p : TrafficPlan} {t : Tuning} {traffic : Traffic}
    {m : Mark} {superframes : ℕ} (is : HearsSentTraffic width plan p t traffic m superframes) (some : SendsSetOne p)
    (distinct : AreDistinct plan p (plan.link.start + m.sample)) (legs : ℕ → List Leg)
    (one : (k : ℕ) → IsOnePilot traffic (legs k)) (samples : List Sample)
    (shows : ShowsTraffic plan p t traffic m superframes samples) where
  abbrev channel : Stream
  channel = one_stream t traffic m

  abbrev first_chip : ℕ
  first_chip = plan.link.start + m.sample

  -- the signaling of a frame is what was sent in it
  signal_is : (k : ℕ) (f : SetOneFrame) → is_in_file t.count channel k ≡ true →
      cycled_frame (frames_of plan p) (4 * superframes + k) ≡ f ∷ [] →
      signal_at t traffic m legs samples k ≡ signal_sent f
  unfolding signal_at
  signal_is k f there frame =
      let apart = distinct_there is distinct k f there frame in
      let heard : IsHeardAs plan p t traffic m legs superframes k f = heard_there is legs one k f there frame in
      ap signal_of (shows.decoded legs k f heard apart).same

  signals_is : (k : ℕ) → is_in_file t.count channel k ≡ true → option_to_list (signal_at t traffic m legs samples k)
      ≡ signals_in plan p (4 * superframes + k)
  signals_is k there =
      let (f, frame) = frame_there is some k in
      ap option_to_list (signal_is k f there frame)
      ∙ sym
      (of_one (λ (x : SetOneFrame). option_to_list (signal_sent x))
      (cycled_frame (frames_of plan p) (4 * superframes + k)) f frame)

  -- and so is that of the frames before it
  before_is : (k : ℕ) → signals_before t traffic m legs samples k
      ≡ signals_received plan p first_chip (4 * superframes + k)
  unfolding signals_before
  before_is k =
      ap (flat_map (λ j. option_to_list (signal_at t traffic m legs samples j)))
      (filter_ext_places (has_frame t traffic m legs) (is_in_file t.count channel) k
      (λ j below.
      ap (λ (s : Stream). is_in_file t.count s j) (one_stream_is t traffic m legs j (one j))))
      ∙ flat_map_ext_filter_places (is_in_file t.count channel)
      (λ j. option_to_list (signal_at t traffic m legs samples j)) (λ j. signals_in plan p (4 * superframes + j)) k
      (λ j below there. signals_is j there)
      ∙ sym (by_marks_numbers is (signals_in plan p) k)

  -- so a message is told as the sent frames spell it
  message_is : (k : ℕ) → is_in_file t.count channel k ≡ true →
      message_heard t traffic m legs samples (known_at t.count channel k) k
      ≡ message_told plan p first_chip (4 * superframes + k)
  unfolding signaling_message_at
  message_is k there =
      let number = 4 * superframes + k in
      let (f, frame) = frame_there is some k in
      let told : ℕ → CheckForm → List (List Bool) → Option (List Bool) → List Event =
      λ n form before signal. message_events n (signal_in form (capsule_with before signal)) in
      let before = signals_before t traffic m legs samples k in
      let signal = signal_at t traffic m legs samples k in
      let known = known_at t.count channel k in
      let ends = frame_ends plan p number in
      ap (λ (n : ℕ). told n t.check16 before signal) (known_is is k)
      ∙ ap (λ (form : CheckForm). told ends form before signal) is.tuned.checks_of_16
      ∙ ap (λ (parts : List (List Bool)). told ends plan.cell.check16 parts signal) (before_is k)
      ∙ ap (told ends plan.cell.check16 (signals_received plan p first_chip number)) (signal_is k f there frame)
      ∙ sym
      (of_one
      (λ (x : SetOneFrame). told ends plan.cell.check16 (signals_received plan p first_chip number)
      (signal_sent x)) (cycled_frame (frames_of plan p) number) f frame)

  -- the messages that are known at all numbers of samples
  pub messages_by_one :
      flat_map (messages_by t traffic m legs samples) (places (plan.link.samples + 1))
      ≡ messages_of_channel plan p first_chip
  unfolding messages_by
  messages_by_one =
      let heard : ℕ → ℕ → List Event = message_heard t traffic m legs samples in
      in_channel_order is (messages_by t traffic m legs samples) heard (message_told plan p first_chip)
      (λ n below. ap (flat_map (heard n)) (one_now t traffic m legs one n)) (λ k there. message_is k there)

  -- as they are heard where no handoff is directed
  pub messages_heard : IsUndirected t traffic m samples plan.link.samples →
      flat_map (messages_at t traffic m samples) (places (plan.link.samples + 1))
      ≡ messages_of_channel plan p first_chip
  messages_heard undirected =
      let made = shows.long in
      flat_map_ext_places (messages_at t traffic m samples) (messages_by t traffic m legs samples)
      (plan.link.samples + 1)
      (λ n below.
      messages_of_one t traffic m legs samples one n (omega (arith, below, made))
      (λ k. one_pilot_heard t traffic m samples n k
      (λ i most. undirected i (omega (arith, most, below)))) is.tuned.alone)
      ∙ messages_by_one

-- ---- the law

pub sent_messages_back : SentMessagesComeBack
sent_messages_back width plan p t traffic m superframes samples is long signs some distinct =
    messages_heard is some distinct (first_legs traffic m) (first_pilot traffic m) samples
    (signed_traffic is long signs)

module _ {width : Width} {plan : CellPlan} {p : TrafficPlan} {t : Tuning} {traffic : Traffic}
    {m : Mark} {superframes : ℕ} (is : HearsSentTraffic width plan p t traffic m superframes) (some : SendsSetOne p)
    (distinct : AreDistinct plan p (plan.link.start + m.sample))
    (none : All IsNotDirected (messages_of_channel plan p (plan.link.start + m.sample)))
    (samples : List Sample) (shows : ShowsTraffic plan p t traffic m superframes samples) where
  abbrev legs : ℕ → List Leg
  legs = first_legs traffic m

  -- the one pilot gives what is sent
  none_of_one : (n : ℕ) → n ≤ plan.link.samples → All IsNotDirected (messages_by t traffic m legs samples n)
  unfolding places
  none_of_one n most =
      let sent = messages_by_one is some distinct legs (first_pilot traffic m) samples shows in
      each_of_all IsNotDirected (messages_by t traffic m legs samples) 0 (plan.link.samples + 1) n
      (omega arith) (omega (arith, most)) (subst (All IsNotDirected) (sym sent) none)

  -- and it is heard alone at a number of samples where no message before it is a direction
  none_before : (n : ℕ) → n ≤ plan.link.samples + 1 → (i : ℕ) → i < n →
      All IsNotDirected (messages_at t traffic m samples i)
  none_before zero most i less = absurd (omega (arith, less))
  none_before (suc n) most i less =
      let before = none_before n (omega (arith, most)) in
      elim (cases_lt i n) [
        | inl earlier ↦ before i earlier
        | inr last ↦
            let here : n ≡ i = omega (arith, less, last) in
            let made = shows.long in
            let heard = messages_of_one t traffic m legs samples (first_pilot traffic m) n (omega (arith, most, made))
            (λ k. one_pilot_before t traffic m samples n k before) is.tuned.alone in
            subst (λ (j : ℕ). All IsNotDirected (messages_at t traffic m samples j)) here
            (subst (All IsNotDirected) (sym heard) (none_of_one n (omega (arith, most))))
      ]

  pub signed_none_directed : IsUndirected t traffic m samples plan.link.samples
  signed_none_directed i most = none_before (plan.link.samples + 1) (omega arith) i (omega (arith, most))

-- ---- the law

pub none_directed : NoneIsDirected
none_directed width plan p t traffic m superframes samples is long signs some distinct none =
    signed_none_directed is some distinct none samples (signed_traffic is long signs)
