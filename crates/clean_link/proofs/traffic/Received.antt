-- The frames of a traffic channel, as they are received of the reference base station alone.
use Rattle.clean_link.proofs.Common.{SignedFramesAreReceived, SignedSetTwoFramesComeBack, ◌≡◌, ℕ, ◌+◌, ◌-◌, ◌*◌, ◌%◌, ◌&&◌, Bool, true, []}
use Rattle.clean_link.proofs.Common.{List, ◌∷◌, length, map, filter, refl, sym, ap, ℤ, frame_ends, ◌∙◌, arith, subst, nat_le, inl, inr}
use Rattle.clean_link.proofs.Common.{Option, Some, Contains, and_from, cases_Bool, le-leb, places, Sample, filter_ext_places, Width, Data}
use Rattle.clean_link.proofs.Common.{flat_map_ext_filter_places, traffic_mask, made_samples, IsTrafficFrame, SetTwo, planned, two_in_turn}
use Rattle.clean_link.proofs.Common.{frames_of, set_two, IsSetTwoFrame, CellPlan, TrafficPlan, SetTwoFrame, traffic_channel, frames_within}
use Rattle.clean_link.proofs.Common.{soft_frame, soft_frames, raw_at, is_in_file, known_at, known_by, Stream, frames_bound, replaced_in}
use Rattle.clean_link.proofs.Common.{Tuning, Mark, Traffic, PowerControl, SoftFrame, soft_strength, IsOnPath, IsReceivable, is_received}
use Rattle.clean_link.proofs.Common.{received_frames, replaced_of, sent_bits, IsAssigned, SendsSetTwo, SendsSymbols, ShowFrame, MarkIsAt}
use Rattle.clean_link.proofs.Common.{ShowPowerBits, cycled_frame2, codeword_symbols2, EachFrameIsReceived, FramesAfterMark, SetTwoAfterMark}
use Rattle.clean_link.proofs.Common.{FramesShowPowerBits, FramesShowSymbols, HearsSentTraffic, SetTwoFramesComeBack, AreReceivedFrom, ◌<ℤ◌}
use Rattle.clean_link.proofs.Common.{TrafficFrameHasSigns, HavePowerSigns, NoisyFrame, IsReceived, correlation, AgreeElsewhere, unreplaced}
use Rattle.clean_link.proofs.Common.{frame_softs, stream_of, HeardAreTheOnlyBest, ReceivedAreTheOnlyBest, SetTwoAreTheOnlyBest, by_lt_z}
use Rattle.clean_link.proofs.Common.{KeepSigns, agree_left, sent_frame_state, IsOnlyBestIn, IsUnsharedIn, sent_codeword}
use Rattle.clean_link.proofs.traffic.Signs.{clean_sent, traffic_shows, heard_power_bits, power_pairs, frame_powered, frame_shown}
use Rattle.clean_link.proofs.traffic.Signs.{lawful_traffic, signed_powered, signed_shown, set_two_sends}
use Rattle.clean_link.proofs.traffic.Frames.{by_marks_frames, inside_at, known_is, one_taken, one_there, same_places, sized}
use Rattle.clean_link.proofs.sendings.Order.{one_each}
use Rattle.clean_link.proofs.traffic.Steady.{one_stream, traffic_file_to, traffic_known_is}
use Rattle.frame_decoder.proofs.FormatCodewords.{length-symbols_in}
use Rattle.frame_decoder.proofs.SentFormats.{codeword_allowed}
use Rattle.frame_decoder.specs.Formats.{format_of, symbols_in}
use Rattle.quality_bits.specs.declared.format.FrameFormat.{FrameFormat}
use Rattle.rate_set_two.proofs.SentFrames as second_back
use Rattle.heard_events.specs.TrafficStreams as heard
use Rattle.rate_set_two.specs.TrafficFrames as second

-- ---- any symbols

-- Symbols that differ somewhere at the places that are left agree less.
pub others_less : (replaced : List ℕ) (xs ys : List Bool) (softs : List ℤ) → length softs ≡ 384 →
    length xs ≡ 384 → length ys ≡ 384 → KeepSigns replaced xs softs → ¬ (AgreeElsewhere replaced xs ys) →
    correlation (unreplaced replaced softs) ys <ℤ correlation (unreplaced replaced softs) xs
others_less replaced xs ys softs long size size' keep apart =
    let kept = unreplaced replaced softs in
    by_lt_z (correlation kept ys) (correlation kept xs) (λ less. less)
    (λ reaches. absurd (apart (agree_left replaced xs ys softs long size size' keep reaches)))

-- ---- codewords

-- so the codeword of a frame that no other shares is the only one of greatest score, at any rate
signs_only_best : {R : Type 0} (format_of : R → FrameFormat R) (replaced : List ℕ) (softs : List ℤ) (rate : R)
    (information : List Bool) →
    let w = sent_codeword (format_of rate) information in
    length information ≡ (format_of rate).information →
    NoisyFrame replaced (symbols_in (format_of rate) w) softs → IsUnsharedIn format_of replaced rate w →
    IsOnlyBestIn format_of replaced softs rate w
signs_only_best format_of replaced softs rate information size is unshared =
    let w = sent_codeword (format_of rate) information in
    record {
      allowed = codeword_allowed (format_of rate) information size;
      lesser = λ r v allowed other.
          others_less replaced (symbols_in (format_of rate) w) (symbols_in (format_of r) v) softs is.long
          (length-symbols_in (format_of rate) w) (length-symbols_in (format_of r) v) is.keeps
          (λ agree. other (unshared r v allowed agree));
    }

-- ---- the laws

pub heard_only_best : HeardAreTheOnlyBest
heard_only_best width plan p t traffic m legs superframes k f samples is heard has distinct =
    let signs = traffic_shows width plan p t traffic m legs superframes k f samples is heard has in
    signs_only_best format_of (replaced_in traffic m k) (frame_softs samples (stream_of t traffic m legs k) k)
    f.rate f.information (sized is heard) (record { long = signs.0; keeps = signs.1 }) distinct

-- of frames that are received by the signs of their symbols
pub received_only_best : ReceivedAreTheOnlyBest
received_only_best plan p frame f soft size received distinct =
    signs_only_best format_of (replaced_of plan p frame) soft.descrambled f.rate f.information size received.shown
    distinct

pub set_two_only_best : SetTwoAreTheOnlyBest
set_two_only_best plan p frame f soft size received distinct =
    signs_only_best second.format_of2 (replaced_of plan p frame) soft.descrambled f.rate f.information size received.shown
    distinct

-- ---- after a true mark

module _ {width : Width} {plan : CellPlan} {p : TrafficPlan} {t : Tuning} {traffic : Traffic}
    {m : Mark} {superframes : ℕ} (is : HearsSentTraffic width plan p t traffic m superframes) where
  abbrev stream : Stream
  stream = one_stream t traffic m

  -- a frame in the file ends within it
  ends_inside : (k : ℕ) → (is_in_file t.count stream k && nat_le (known_at t.count stream k) t.count)
      ≡ is_in_file t.count stream k
  ends_inside k =
      let ends = nat_le (known_at t.count stream k) t.count in
      elim (cases_Bool (is_in_file t.count stream k)) [
        | inl there ↦
            let known = traffic_known_is t traffic m is.tuned.alone k in
            let room = traffic_file_to t traffic m is.tuned.alone k there in
            and_from (is_in_file t.count stream k) ends there
            (le-leb (known_at t.count stream k) t.count (omega (arith, known, room)))
            ∙ sym there
        | inr gone ↦ ap (λ (b : Bool). b && ends) gone ∙ sym gone
      ]

  -- What is so of each frame in the file that sends this, by its number after the mark, is so by
  -- the channel's number: with the places of its power control bits, and its end.
  by_channel : (Is : List ℕ → ℕ → ℕ → Type 0) (frame : ℕ) (symbols power_bits : List Bool) →
      ((k : ℕ) → 4 * superframes + k ≡ frame → is_in_file t.count stream k ≡ true →
      SendsSymbols plan p (4 * superframes + k) symbols power_bits →
      Is (replaced_in traffic m k) (known_at t.count stream k) k) →
      is_received plan p (plan.link.start + m.sample) frame ≡ true → SendsSymbols plan p frame symbols power_bits →
      Is (replaced_of plan p frame) (frame_ends plan p frame) (frame - 4 * superframes)
  by_channel Is frame symbols power_bits each received sent =
      let k : ℕ = frame - 4 * superframes in
      let (here, there) = inside_at is frame received in
      let places = same_places is k in
      let ends = known_is is k in
      let following = each k here there (subst (λ (n : ℕ). SendsSymbols plan p n symbols power_bits) (sym here) sent) in
      subst (λ (n : ℕ). Is (replaced_of plan p n) (frame_ends plan p n) k) here
      (subst (λ (n : ℕ). Is (replaced_of plan p (4 * superframes + k)) n k) ends
      (subst (λ (replaced : List ℕ). Is replaced (known_at t.count stream k) k) (sym places)
      following))

  module _ (samples : List Sample) where
    abbrev soft : ℕ → SoftFrame
    soft = soft_frame t (traffic_channel traffic) m samples

    abbrev raw : ℕ → List ℤ
    raw = raw_at t (traffic_channel traffic) m samples

    -- those that are received are those in the file
    in_file : length samples ≡ plan.link.samples → soft_frames t (traffic_channel traffic) m samples
        ≡ map soft (filter (is_in_file t.count stream) (places (frames_bound t.count)))
    unfolding frames_within
    in_file long =
        let count : length samples ≡ t.count = long ∙ sym is.tuned.count in
        ap (λ (n : ℕ). map soft (known_by t.count stream n (frames_bound n))) count
        ∙ ap (map soft) (filter_ext_places
        (λ k. is_in_file t.count stream k && nat_le (known_at t.count stream k) t.count)
        (is_in_file t.count stream) (frames_bound t.count) (λ k below. ends_inside k))

    -- by the channel's numbers
    pub each_received : length samples ≡ plan.link.samples → soft_frames t (traffic_channel traffic) m samples
        ≡ map (λ frame. soft (frame - 4 * superframes)) (received_frames plan p (plan.link.start + m.sample))
    each_received long =
        let following : ℕ → SoftFrame = λ frame. soft (frame - 4 * superframes) in
        in_file long
        ∙ one_each soft (filter (is_in_file t.count stream) (places (frames_bound t.count)))
        ∙ flat_map_ext_filter_places (is_in_file t.count stream) (λ k. soft k ∷ [])
        (λ k. following (4 * superframes + k) ∷ []) (frames_bound t.count)
        (λ k below there.
        let same : k ≡ 4 * superframes + k - 4 * superframes = omega arith in
        ap (λ (j : ℕ). soft j ∷ []) same)
        ∙ sym (by_marks_frames is (λ frame. following frame ∷ []))
        ∙ sym (one_each following (received_frames plan p (plan.link.start + m.sample)))

    -- The raw soft values of one with the sent signs have those of its power control bits, so these
    -- come back, whatever its descrambled soft values show.
    pub received_by : (Show : List ℕ → List ℤ → Type 0) (frame : ℕ) (symbols power_bits : List Bool) →
        TrafficFrameHasSigns plan p samples frame →
        ((k : ℕ) → is_in_file t.count stream k ≡ true →
        SendsSymbols plan p (4 * superframes + k) symbols power_bits →
        TrafficFrameHasSigns plan p samples (4 * superframes + k) →
        Show (replaced_in traffic m k) (soft k).descrambled) →
        is_received plan p (plan.link.start + m.sample) frame ≡ true → SendsSymbols plan p frame symbols power_bits →
        IsReceived plan p frame power_bits (Show (replaced_of plan p frame)) (soft (frame - 4 * superframes))
        × HavePowerSigns (replaced_of plan p frame) power_bits (raw (frame - 4 * superframes))
    received_by Show frame symbols power_bits has shown received sent =
        let power : List ℕ → List Bool → Option PowerControl =
        λ replaced bits. Some (record { replaced = replaced; power_bits = bits }) in
        let (ends, powered, shows, signs) =
        by_channel
        (λ replaced ends k. ((soft k).end ≡ ends)
        × ((soft k).power ≡ power replaced (sent_bits power_bits))
        × Show replaced (soft k).descrambled × HavePowerSigns replaced power_bits (raw k))
        frame symbols power_bits
        (λ k same there sends.
        let own = subst (TrafficFrameHasSigns plan p samples) (sym same) has in
        let signs = signed_powered is k sends there samples own in (
          refl,
          ap (power (replaced_in traffic m k))
              (heard_power_bits (heard.frame_state traffic m k) (traffic_mask traffic.esn) power_bits
              (raw k) signs),
          shown k there sends own,
          signs,
        )) received sent in
        (record { ends = ends; powered = powered; shown = shows }, signs)

-- ---- one frame

pub each_frame_received : EachFrameIsReceived
each_frame_received width plan p t traffic m superframes samples is long = each_received is samples long

-- where it has the sent signs, whatever it sends
pub signed_received : SignedFramesAreReceived
signed_received width plan p t traffic m superframes frame samples symbols power_bits is has =
    received_by is samples (λ replaced. NoisyFrame replaced symbols) frame symbols power_bits has
    (λ k there sent own. signed_shown is k sent there samples own)

-- of a clean link, where the soft values are known
pub frames_show_symbols : FramesShowSymbols
frames_show_symbols width plan p t traffic m superframes frame symbols power_bits is received sent =
    (received_by is (made_samples plan)
    (λ replaced. ShowFrame replaced (soft_strength plan Data p.gain) symbols) frame symbols power_bits
    (clean_sent is.receivable p is.sent frame) (λ k there sends own. frame_shown is k sends there) received sent).0

pub frames_show_power_bits : FramesShowPowerBits
frames_show_power_bits width plan p t traffic m superframes frame symbols power_bits is =
    let strength = soft_strength plan Data p.gain in
    by_channel is
    (λ replaced ends k. ShowPowerBits replaced strength power_bits
    (raw_at t (traffic_channel traffic) m (made_samples plan) k)) frame symbols power_bits
    (λ k same there sent. frame_powered is k sent there)

-- ---- frames of rate set 2

pub set_two_back : SetTwoFramesComeBack
set_two_back plan p frame f soft sized received =
    let few = (power_pairs (sent_frame_state (frames_of plan p) frame) (traffic_mask p.esn)).long in
    let shown = received.shown in
    record {
      received = received;
      decoded = λ distinct.
          second_back.sent_frame (soft_strength plan Data p.gain) (replaced_of plan p frame) f.rate
          f.information soft.descrambled shown.strong (omega (arith, few)) shown.long sized shown.shows
          distinct;
    }

-- by the signs of their symbols alone
pub signed_set_two_back : SignedSetTwoFramesComeBack
signed_set_two_back plan p frame f soft sized received =
    let few = (power_pairs (sent_frame_state (frames_of plan p) frame) (traffic_mask p.esn)).long in
    let shown = received.shown in
    record {
      received = received;
      decoded = λ distinct. record {
        score = _;
        same = second_back.signs_frame (replaced_of plan p frame) f.rate f.information soft.descrambled
            (omega (arith, few)) shown.long sized shown.keeps distinct;
      };
    }

-- ---- in a file

module _ {width : Width} {plan : CellPlan} {p : TrafficPlan} {t : Tuning} {traffic : Traffic}
    (samples : List Sample) (receivable : IsReceivable width plan) (tuned : IsOnPath plan t)
    (sent : Contains plan.traffic p) (assigned : IsAssigned p traffic)
    (long : length samples ≡ plan.link.samples) {at : Option ℕ} (m : Mark)
    (set : MarkIsAt plan (Some m) at) where
  -- What is so of each frame after a true mark is so of those after the mark that is set.
  after_mark : (Is : ℕ → SoftFrame → Type 0) →
      ((superframes : ℕ) → HearsSentTraffic width plan p t traffic m superframes → (frame : ℕ) →
      is_received plan p (plan.link.start + m.sample) frame ≡ true →
      Is frame (soft_frame t (traffic_channel traffic) m samples (frame - 4 * superframes))) →
      AreReceivedFrom plan p at Is (soft_frames t (traffic_channel traffic) m samples)
  after_mark Is each =
      let (superframes, told, cell) = set in
      let hears : HearsSentTraffic width plan p t traffic m superframes =
      record { receivable = receivable; sent = sent; assigned = assigned; tuned = tuned; marked = cell.marked } in
      let soft : ℕ → SoftFrame = λ frame.
      soft_frame t (traffic_channel traffic) m samples (frame - 4 * superframes) in
      let chip = cell.marked.place in
      record {
        superframes = superframes;
        told = told;
        soft = soft;
        each = each_received hears samples long
            ∙ ap (λ (c : ℕ). map soft (received_frames plan p c)) chip;
        are = λ frame received.
            each superframes hears frame
            (ap (λ (c : ℕ). is_received plan p c frame) chip ∙ received);
      }

-- one of the frames of rate set 2 is sent at each number
frame2_there : (width : Width) (plan : CellPlan) (p : TrafficPlan) → IsReceivable width plan →
    Contains plan.traffic p → SendsSetTwo p → (frame : ℕ) → (f : SetTwoFrame)
    × (cycled_frame2 (frames_of plan p) frame ≡ f ∷ []) × IsSetTwoFrame f
frame2_there width plan p is sent some frame =
    let frames = set_two p.frames in
    let (f, here) = one_there frames (frame % length frames) (omega (arith, some)) in (
      f,
      here,
      one_taken IsTrafficFrame p.frames (frame % length p.frames) (planned SetTwo f)
          (lawful_traffic width plan p is.lawful sent).sized (two_in_turn p.frames frame f here),
    )

-- ---- the laws

pub frames_after_mark : FramesAfterMark
frames_after_mark width plan p t traffic m at samples is long tuned sent assigned set =
    after_mark samples is tuned sent assigned long m set _
    (λ superframes hears frame received has symbols power_bits sends.
    (signed_received width plan p t traffic m superframes frame samples symbols power_bits hears has received sends).0)

-- One of rate set 2 comes back by what it sends.
pub set_two_after_mark : SetTwoAfterMark
set_two_after_mark width plan p t traffic m at samples is long tuned sent assigned set some =
    let all = frames_after_mark width plan p t traffic m at samples is long tuned sent assigned set in
    record {
      superframes = all.superframes;
      told = all.told;
      soft = all.soft;
      each = all.each;
      are = λ frame received has.
          let (f, here, sized) = frame2_there width plan p is sent some frame in (
            f,
            here,
            signed_set_two_back plan p frame f (all.soft frame) sized
                (all.are frame received has (codeword_symbols2 f) f.power_bits
                (set_two_sends plan p frame f here)),
          );
    }
