-- The lines of a traffic channel's frames come back.
use Rattle.reply_laws.proofs.Common.{◌≡◌, ◌≤◌, ℕ, ◌*◌, refl, sym, ap, ◌∙◌, subst, arith, List, [], ◌∷◌, length, Option, ℤ, None, Some, mark}
use Rattle.reply_laws.proofs.Common.{Contains, flat_map, Sample, Width, decoded2, sent_frame_state, Header, CellPlan, TrafficPlan, Tuning}
use Rattle.reply_laws.proofs.Common.{event_line, frame2_line, traffic_channel, Mark, Traffic, IsReceivable, HoldsAfterMark, MarkIsAt, Bears}
use Rattle.reply_laws.proofs.Common.{TrafficFrameHasSigns, frames_after_mark, near_frame, set_two_after_mark, SendsSetOne, SendsSetTwo}
use Rattle.reply_laws.proofs.Common.{power_pairs, one_taken, one_there, lawful_traffic, set_one_sends, listed_texts, rate2_texts, TunedText}
use Rattle.reply_laws.proofs.Common.{decoded_line, frames_text, listed_text, rate2_text, text_if_marked, tuned_text, Listed, RateSetTwo}
use Rattle.reply_laws.proofs.Common.{IsLineOfSetOne, IsLineOfSetTwo, LinesComeBack, Decoded2, signs_frame_listed, good_frame2, traffic_sent}
use Rattle.reply_laws.proofs.Common.{listed, IsBorneFile, long, nat_le, places, decoded_by_one_codeword, channel_stream, reference_alone}
use Rattle.reply_laws.proofs.Common.{decoded_alone, power_alone, text_from}
use Rattle.clean_link.proofs.Common.{◌%◌, Bool, flat_map-map, CheckForm, traffic_mask, IsTrafficFrame, SetOne, planned, one_in_turn, Data}
use Rattle.clean_link.proofs.Common.{frames_of, cycled_frame, set_one, IsSetOneFrame, SetOneFrame, SetTwoFrame, soft_frames, frame_event}
use Rattle.clean_link.proofs.Common.{SoftFrame, frame_ends, received_frames, replaced_of, sent_bits, sent_power_bits, codeword_symbols}
use Rattle.clean_link.proofs.Common.{AreReceivedFrom, traffic_carrier, SendsSymbols, cycled_frame2, Decoded, IsReceivedBySigns, ◌&&◌}
use Rattle.clean_link.proofs.Common.{IsSentFrame2BySigns, flat_map_ext_filter, paging_bound, frames_within, soft_frame, is_in_file}
use Rattle.clean_link.proofs.Common.{known_at, known_by, power_bits_at, decoded_at, replaced_in}
use Rattle.reply_laws.specs.SentLines.{AreSentLines, IsSentLine, IsSentLine2, IsSentText, ListedLinesComeBack, SetTwoLinesComeBack}
use Rattle.reply_laws.specs.SentLines.{followed_frame_line, OneCodewordFollows, OneCodewordFollowsFrame}

-- ---- any frames

-- what is written of frames one after the other is this line of each, whatever their slots
abbrev IsLineByLine : TunedText → (SoftFrame → List ℕ) → Type 0
IsLineByLine form line = (check : CheckForm) (m : Mark) (frames : List SoftFrame) →
    frames_text form check m [] frames ≡ flat_map line frames

-- Where a mark is the cell's, the frames after it are those of which this is true, and the line of one
-- of them is one of which that is true, the text is of such lines.
module _ {plan : CellPlan} {p : TrafficPlan} (t : Tuning) (traffic : Traffic) (samples : List Sample)
    (at : Option ℕ) (form : TunedText) (line : SoftFrame → List ℕ) (lines : IsLineByLine form line)
    (Says : ℕ → SoftFrame → Type 0) (Is : ℕ → List ℕ → Type 0)
    (all : (m : Mark) → MarkIsAt plan (Some m) at →
    AreReceivedFrom plan p at Says (soft_frames t (traffic_channel traffic) m samples))
    (back : (frame : ℕ) (soft : SoftFrame) → Says frame soft → Is frame (line soft))
  where
    -- after the mark that is set, and where none is
    after_last : (last : Option Mark) → MarkIsAt plan last at →
        IsSentText plan p Is at (text_if_marked form t (traffic_channel traffic) samples last)
    after_last None none = subst (λ (o : Option ℕ). IsSentText plan p Is o []) (sym none) refl
    after_last (Some m) set =
        let some = all m set in
        let text = text_if_marked form t (traffic_channel traffic) samples (Some m) in
        let sent : AreSentLines plan p Is some.superframes text = record {
          line = λ frame. line (some.soft frame);
          each = lines t.check30 m (soft_frames t (traffic_channel traffic) m samples)
              ∙ ap (flat_map line) some.each
              ∙ flat_map-map line some.soft
              (received_frames plan p (98304 * some.superframes));
          are = λ frame received. back frame (some.soft frame) (some.are frame received);
        } in
        subst (λ (o : Option ℕ). IsSentText plan p Is o text) (sym some.told) sent

    text_back : MarkIsAt plan (mark t samples (length samples)) at →
        IsSentText plan p Is at (tuned_text form t (traffic_channel traffic) samples)
    unfolding tuned_text
    text_back set = after_last (mark t samples (length samples)) set

signed_lines : (form : TunedText) (line : SoftFrame → List ℕ) → IsLineByLine form line →
    (Sends : TrafficPlan → Type 0) (Is : CellPlan → TrafficPlan → ℕ → List ℕ → Type 0)
    (Says : CellPlan → TrafficPlan → ℕ → SoftFrame → Type 0) →
    HoldsAfterMark (λ plan p at samples frames. Sends p → AreReceivedFrom plan p at
    (λ frame soft. TrafficFrameHasSigns plan p samples frame → Says plan p frame soft) frames) →
    ((width : Width) (plan : CellPlan) (p : TrafficPlan) (frame : ℕ) (soft : SoftFrame) →
    IsReceivable width plan → Contains plan.traffic p → Sends p → Says plan p frame soft →
    Is plan p frame (line soft)) →
    LinesComeBack form Sends Is
signed_lines form line lines Sends Is Says following back width plan p t traffic samples at is long on set
    has assigned some =
    text_back t traffic samples at form line lines
    (λ frame soft. TrafficFrameHasSigns plan p samples frame → Says plan p frame soft)
    (λ frame line. TrafficFrameHasSigns plan p samples frame → Is plan p frame line)
    (λ m here. following width plan p t traffic m at samples is long on has assigned here some)
    (λ frame soft says signs. back width plan p frame soft is has some (says signs)) set

-- all lines are so where all frames have something
pub all_lines : (plan : CellPlan) (p : TrafficPlan) (Has : ℕ → Type 0) (Is : ℕ → List ℕ → Type 0) →
    ((frame : ℕ) → Has frame) → (at : Option ℕ) (text : List ℕ) →
    IsSentText plan p (λ frame line. Has frame → Is frame line) at text → IsSentText plan p Is at text
all_lines plan p Has Is have None text none = none
all_lines plan p Has Is have (Some superframes) text sent = record {
  line = sent.line;
  each = sent.each;
  are = λ frame received. sent.are frame received (have frame);
}

-- and those of a channel that bears the noise of a file
pub borne_signs : {e : ℕ} {width : Width} {plan : CellPlan} {p : TrafficPlan} {span fingers : ℕ}
    {header : Header} (samples : List Sample) → IsBorneFile e width plan span fingers header samples →
    Contains plan.traffic p → Bears plan p.gain e → (frame : ℕ) → TrafficFrameHasSigns plan p samples frame
borne_signs {e} {plan = plan} {p} samples file has bears =
    near_frame (traffic_carrier plan p) Data e samples file.near.receivable (traffic_sent plan p has)
    file.near.near bears

-- ---- frames of rate set 1

-- one of them is sent at each number
frame_there : (width : Width) (plan : CellPlan) (p : TrafficPlan) (frame : ℕ) →
    IsReceivable width plan → Contains plan.traffic p → SendsSetOne p → (f : SetOneFrame)
    × (cycled_frame (frames_of plan p) frame ≡ f ∷ []) × IsSetOneFrame f
frame_there width plan p frame is has some =
    let frames = set_one p.frames in
    let (f, here) = one_there frames (frame % length frames) (omega (arith, some)) in (
      f,
      here,
      one_taken IsTrafficFrame p.frames (frame % length p.frames) (planned SetOne f)
          (lawful_traffic width plan p is.lawful has).sized (one_in_turn p.frames frame f here),
    )

-- what it shows by its signs is shown of whatever is sent
abbrev ShowsSent : CellPlan → TrafficPlan → ℕ → SoftFrame → Type 0
ShowsSent plan p frame soft = (symbols power_bits : List Bool) →
    SendsSymbols plan p frame symbols power_bits →
    IsReceivedBySigns plan p frame symbols power_bits soft

-- the line of what is decoded is that of its event
pub line_of_event : (n : ℕ) (decoded : Decoded) (power_bits : List Bool) →
    decoded_line n decoded power_bits ≡ event_line (frame_event n decoded power_bits)
unfolding event_line
line_of_event n decoded power_bits = refl

-- what is listed of a frame
abbrev pub listed_of : ℕ → SoftFrame → List ℕ
listed_of k soft = listed_text k soft.end soft.descrambled soft.power

-- the line of one that comes back
listed_back : (k : ℕ) → 1 ≤ k → (plan : CellPlan) (p : TrafficPlan) (frame : ℕ) (f : SetOneFrame)
    (soft : SoftFrame) → IsSetOneFrame f → IsReceivedBySigns plan p frame (codeword_symbols f) f.power_bits soft →
    IsSentLine plan p frame f (listed_of k soft)
listed_back k most plan p frame f soft sized received =
    let few = (power_pairs (sent_frame_state (frames_of plan p) frame) (traffic_mask p.esn)).long in
    let shown = received.shown in
    let replaced = replaced_of plan p frame in
    let ends = frame_ends plan p frame in
    let spelled : listed_of k soft ≡
    event_line (frame_event ends (listed k replaced soft.descrambled) (sent_power_bits f)) =
    ap (listed_text k soft.end soft.descrambled) received.powered
    ∙ ap (λ (n : ℕ). decoded_line n (listed k replaced soft.descrambled) (sent_bits f.power_bits))
    received.ends
    ∙ line_of_event ends (listed k replaced soft.descrambled) (sent_bits f.power_bits) in
    record {
      decoded = listed k replaced soft.descrambled;
      spelled = spelled;
      back = λ distinct.
          spelled
          ∙ ap (λ (d : Decoded). event_line (frame_event ends d (sent_power_bits f)))
          (signs_frame_listed k replaced f.rate f.information soft.descrambled most
          (omega (arith, few)) shown.long sized shown.keeps distinct);
    }

-- ---- frames of rate set 2

-- what is received of one
abbrev IsSent2 : CellPlan → TrafficPlan → ℕ → SoftFrame → Type 0
IsSent2 plan p frame soft = (f : SetTwoFrame)
    × (cycled_frame2 (frames_of plan p) frame ≡ f ∷ []) × IsSentFrame2BySigns plan p frame f soft

-- what is written of a frame
abbrev rate2_of : SoftFrame → List ℕ
rate2_of soft = rate2_text soft.end soft.descrambled soft.power

-- the line of what is decoded has no score
of_any_score : (place : ℕ) (f : SetTwoFrame) (score other : ℤ) (power_bits : List Bool) →
    frame2_line place (good_frame2 f.rate f.information score) power_bits
    ≡ frame2_line place (good_frame2 f.rate f.information other) power_bits
unfolding frame2_line
of_any_score place f score other power_bits = refl

-- the line of one that comes back
line_back : (plan : CellPlan) (p : TrafficPlan) (frame : ℕ) (f : SetTwoFrame)
    (soft : SoftFrame) → IsSentFrame2BySigns plan p frame f soft → IsSentLine2 plan p frame f (rate2_of soft)
line_back plan p frame f soft sent =
    let decoded = decoded2 (replaced_of plan p frame) soft.descrambled in
    let ends = frame_ends plan p frame in
    let spelled : rate2_of soft ≡ frame2_line ends decoded (sent_bits f.power_bits) =
    ap (rate2_text soft.end soft.descrambled) sent.received.powered
    ∙ ap (λ (n : ℕ). frame2_line n decoded (sent_bits f.power_bits)) sent.received.ends in
    record {
      decoded = decoded;
      spelled = spelled;
      back = λ distinct.
          let back = sent.decoded distinct in
          spelled
          ∙ ap (λ (d : Decoded2). frame2_line ends d (sent_bits f.power_bits)) back.same
          ∙ of_any_score ends f back.score _ (sent_bits f.power_bits);
    }

-- ---- the laws

pub listed_lines : ListedLinesComeBack
listed_lines k most =
    signed_lines (Listed k) (listed_of k) (λ check m frames. listed_texts check m [] frames k)
    SendsSetOne IsLineOfSetOne ShowsSent
    (λ width plan p t traffic m at samples is long on has assigned set some.
    frames_after_mark width plan p t traffic m at samples is long on has assigned set)
    (λ width plan p frame soft is has some shows.
    let (f, here, sized) = frame_there width plan p frame is has some in (
      f,
      here,
      listed_back k most plan p frame f soft sized
          (shows (codeword_symbols f) f.power_bits (set_one_sends plan p frame f here)),
    ))

pub set_two_lines : SetTwoLinesComeBack
set_two_lines =
    signed_lines RateSetTwo rate2_of (λ check m frames. rate2_texts check m [] frames) SendsSetTwo
    IsLineOfSetTwo IsSent2 set_two_after_mark
    (λ width plan p frame soft is has some sent. (sent.0, sent.1, line_back plan p frame sent.0 soft sent.2))

-- ---- one codeword of each rate

-- of one frame
pub one_frame : OneCodewordFollowsFrame
one_frame t traffic m samples slot k =
    let soft = soft_frame t (traffic_channel traffic) m samples k in
    let heard = decoded_at t traffic m (reference_alone traffic m) samples k in
    let power_bits = power_bits_at t traffic m (reference_alone traffic m) samples k in
    ap (listed_text 1 soft.end soft.descrambled) (sym (power_alone t traffic m samples k))
    ∙ ap (λ (d : Decoded). decoded_line soft.end d power_bits)
    (decoded_by_one_codeword (replaced_in traffic m k) soft.descrambled
    ∙ sym (decoded_alone t traffic m samples k))
    ∙ line_of_event soft.end heard power_bits

-- of those that end within these samples
each_frame : (t : Tuning) (traffic : Traffic) (m : Mark) (samples : List Sample) →
    text_from (Listed 1) t (traffic_channel traffic) m samples ≡ flat_map (followed_frame_line t traffic m samples)
    (soft_frames t (traffic_channel traffic) m samples)
unfolding frames_within
each_frame t traffic m samples =
    let n = length samples in
    let stream = channel_stream t (traffic_channel traffic) m in
    let soft : ℕ → SoftFrame = soft_frame t (traffic_channel traffic) m samples in
    let within : List ℕ = known_by t.count stream n (paging_bound n) in
    listed_texts t.check30 m [] (soft_frames t (traffic_channel traffic) m samples) 1
    ∙ flat_map-map (listed_of 1) soft within
    ∙ flat_map_ext_filter (λ k. is_in_file t.count stream k && nat_le (known_at t.count stream k) n)
    (λ k. listed_of 1 (soft k)) (λ k. followed_frame_line t traffic m samples (soft k))
    (places (paging_bound n)) (λ k kept. one_frame t traffic m samples [] k)
    ∙ sym (flat_map-map (followed_frame_line t traffic m samples) soft within)

pub one_codeword_follows : OneCodewordFollows
unfolding tuned_text
one_codeword_follows t traffic m samples set =
    ap (λ (last : Option Mark). text_if_marked (Listed 1) t (traffic_channel traffic) samples last) set
    ∙ each_frame t traffic m samples
