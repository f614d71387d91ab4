-- What is written of a file, slot by slot.
use Rattle.clean_frames.proofs.Common.{take_at, flat_map-add, size_large, is_between}
use Rattle.clean_link.proofs.Common.{◌≡◌, ℕ, ◌+◌, ◌-◌, ◌*◌, ◌<◌, ◌≤◌, ◌&&◌, Bool, true, false, List, [], length, filter, refl, sym, ap, ◌∙◌}
use Rattle.clean_link.proofs.Common.{arith, inl, inr, Option, None, Some, subst, zero, suc, ◌++◌, take, drop, ℤ, ◌∷◌, map, if◌then◌else◌}
use Rattle.clean_link.proofs.Common.{Contains, flat_map, and_from, cases_Bool, false_from_ne_true, le-leb, places, filter_enough, Sample}
use Rattle.clean_link.proofs.Common.{filter_ext_places, filter_none_places, flat_map_ext_filter_places, flat_map_ext_places, Width, mark}
use Rattle.clean_link.proofs.Common.{sent_paging_rate, page_cycle, CellPlan, PagingPlan, SyncPlan, is_in_file, frame_softs, Stream, Tuning}
use Rattle.clean_link.proofs.Common.{Mark, IsOnPath, IsTrueMark, FromMark, MarkIsAt, PagingFrameHasSigns, IsReceivable, IsStatedPaging, M30}
use Rattle.clean_link.proofs.Common.{All-contains, CheckForm, Rate, HasSign, cycle_frame_bits, cycled, paging_frame_size, cycle_of, drop_at}
use Rattle.clean_link.proofs.Common.{flat_map-next, flat_map-zero, data_shape, sent, repeats_of, length-sent, IsAllowed, continued_symbols}
use Rattle.clean_link.proofs.Common.{option_to_list, flat_map-map, capsule, half_frame_body, half_frame_capsule_ending, paging_reading}
use Rattle.clean_link.proofs.Common.{PagingMessage, as_spelled_page, ReadPage, capsules_with_frames, cycle_half_frames, frame_capsules}
use Rattle.clean_link.proofs.Common.{placed, sending_of, Placed}
use Rattle.clean_signal.proofs.Common.{HaveSigns, Free, own_bits, Channel, length-frames, span_codeword, mul-le-mul_right}
use Rattle.heard_events.proofs.Common.{channel_stream}
use Rattle.paging_message.proofs.Common.{capsules_in}
use Rattle.std.proofs.Common.{nat_le, nat_lt}
use Rattle.std.proofs.Math.Bool.{and-false, and-true}
use Rattle.std.proofs.lemmas.Bool.{and_parts}
use Rattle.paging_message.proofs.Scans.{ended_by-append}
use Rattle.clean_frames.proofs.pages.CyclesBack.{stated_pages, cycle_some, page_sendings_back}
use Rattle.clean_link.proofs.frames.ChannelFrames.{paging_frame_shown, read_after}
use Rattle.clean_link.proofs.frames.Times.{paging_alone, paging_file_from, paging_file_to, known_at_once}
use Rattle.clean_link.proofs.pages.Back.{flat_map-flat_map, pages_placed, told_each, IsPlaced, page_read}
use Rattle.clean_signal.proofs.frames.Heard.{order_of}
use Rattle.clean_signal.proofs.frames.Scores.{ShowCodeword, shown_codeword_own, whole_frames, frame_at, length-before, sent_as_one}
use Rattle.clean_signal.proofs.frames.Times.{IsAlone}
use Rattle.clean_signal.proofs.noise.Near.{zipped_frames}
use Rattle.event_tap.specs.SlotLines.{frame_of_slot, frame_of_slot_end, is_heard, is_slot_within, lines_if_marked, lines_by_times}
use Rattle.event_tap.specs.SlotLines.{lines_of_slot, slot_bound, slot_lines, slot_softs, slot_pages}
use Rattle.frame_decoder.specs.Spans.{paging_channel}
use Rattle.heard_events.specs.declared.channel.CodeChannel.TheVariants.{Paging}
use Rattle.slot_mode.specs.Frames.{slot_bits, slot_frame_bits}
use Rattle.slot_mode.specs.Slots.{is_monitored}
use Rattle.slot_link.specs.Laws.{HearsSlots, SlotTextsComeBack, AreSlotPages, SlotsComeBack, SlotBitsComeBackBySigns, SpansComeBackBySigns}
use Rattle.slot_link.specs.Laws.{SlotPagesComeBack, monitored_slots, sent_slot, slots_after_mark, slots_after, slots_to_end, sent_in_span}
use Rattle.slot_link.specs.Laws.{pages_in_slot, bits_in_slot, placed_message, round_in_slot}
use Rattle.heard_events.specs.PagingStreams as streams
use Rattle.frame_decoder.specs.declared.span_format.FrameKind.TheVariants as kinds

-- ---- any span

-- the codeword of a span has the span's length
codeword_allowed : (c : Channel) (bits_of : ℕ → List Bool) (first frames : ℕ) → 8 ≤ c.bits →
    ((k : ℕ) → length (bits_of k) ≡ c.bits) → IsAllowed Free (c.bits * frames) (span_codeword bits_of first frames)
codeword_allowed c bits_of first frames enough each = record {
  start_long = length-before bits_of c.bits first enough each;
  bits_long = length-frames (λ j. bits_of (first + j)) c.bits frames (λ j. each (first + j));
  begins = tt;
  closes = tt;
}

pub signed_spans_back : SpansComeBackBySigns
signed_spans_back c symbols bits_of first frames own softs whole each inside have =
    let codeword = span_codeword bits_of first frames in
    let shown : ShowCodeword c frames codeword softs =
    subst (λ (order : List Bool). HaveSigns order softs)
    (sym (sent_as_one c bits_of first frames whole.enough each)) have in
    shown_codeword_own c symbols frames own codeword softs whole shown inside
    (codeword_allowed c bits_of first frames whole.enough each)
    ∙ frame_at (λ j. bits_of (first + j)) c.bits frames own (λ j. each (first + j)) inside

-- ---- parts of soft values have the signs of parts of the symbols

signs-take : (n : ℕ) (bits : List Bool) (zs : List ℤ) → HaveSigns bits zs → HaveSigns (take n bits) (take n zs)
signs-take zero bits zs have = tt
signs-take (suc n) [] [] have = tt
signs-take (suc n) [] (z ∷ zs) have = absurd have
signs-take (suc n) (b ∷ bits) [] have = absurd have
signs-take (suc n) (b ∷ bits) (z ∷ zs) have = (have.0, signs-take n bits zs have.1)

signs-drop : (n : ℕ) (bits : List Bool) (zs : List ℤ) → HaveSigns bits zs → HaveSigns (drop n bits) (drop n zs)
signs-drop zero bits zs have = have
signs-drop (suc n) [] [] have = tt
signs-drop (suc n) [] (z ∷ zs) have = absurd have
signs-drop (suc n) (b ∷ bits) [] have = absurd have
signs-drop (suc n) (b ∷ bits) (z ∷ zs) have = signs-drop n bits zs have.1

-- ---- a slot

-- n frames after the first a of them
frames_within : {A : Type 0} (f : ℕ → List A) (size a n b : ℕ) → ((k : ℕ) → length (f k) ≡ size) →
    take (size * n) (drop (size * a) (flat_map f (places (a + (n + b))))) ≡ flat_map (λ j. f (a + j)) (places n)
frames_within {A} f size a n b each =
    let front = flat_map f (places a) in
    let own = flat_map (λ j. f (a + j)) (places n) in
    let rest = flat_map (λ j. f (a + (n + j))) (places b) in
    ap (λ (xs : List A). take (size * n) (drop (size * a) xs))
    (flat_map-add f a (n + b)
    ∙ ap (λ (xs : List A). front ++ xs) (flat_map-add (λ j. f (a + j)) n b))
    ∙ ap (take (size * n)) (drop_at front (own ++ rest) (size * a) (length-frames f size a each))
    ∙ take_at own rest (size * n) (length-frames (λ j. f (a + j)) size n (λ j. each (a + j)))

module _ (rate : Rate) (bits_of : ℕ → List Bool) (first : ℕ) (softs : List ℤ)
    (each : (k : ℕ) → length (bits_of k) ≡ (paging_channel rate).bits)
    (have : HaveSigns (sent_in_span (paging_channel rate) bits_of first 4) softs) where
  -- the symbols of frame k of the slot
  abbrev order : ℕ → List Bool
  order k = sent data_shape (repeats_of rate) (continued_symbols bits_of (first + k))

  order_long : (k : ℕ) → length (order k) ≡ 384
  order_long k = length-sent data_shape (repeats_of rate) (continued_symbols bits_of (first + k))

  -- those of n frames after the first a of them
  span_order : (a n b : ℕ) → a + (n + b) ≡ 4 →
      take (384 * n) (drop (384 * a) (sent_in_span (paging_channel rate) bits_of first 4)) ≡
      sent_in_span (paging_channel rate) bits_of (first + a) n
  span_order a n b all =
      ap (λ (m : ℕ). take (384 * n) (drop (384 * a) (flat_map order (places m)))) (sym all)
      ∙ frames_within order 384 a n b order_long
      ∙ flat_map_ext_places (λ j. order (a + j))
      (λ j. sent data_shape (repeats_of rate) (continued_symbols bits_of (first + a + j))) n
      (λ j lt.
      let following : first + (a + j) ≡ first + a + j = omega arith in
      ap (λ (k : ℕ). sent data_shape (repeats_of rate) (continued_symbols bits_of k)) following)

  -- a frame of the slot, by the span of these
  frame_of_span : (a n b own : ℕ) → a + (n + b) ≡ 4 → own < n →
      own_bits (paging_channel rate) n own (take (384 * n) (drop (384 * a) softs)) ≡ bits_of (first + (a + own))
  frame_of_span a n b own all inside =
      let part = take (384 * n) (drop (384 * a) softs) in
      let whole = sent_in_span (paging_channel rate) bits_of first 4 in
      let place : first + a + own ≡ first + (a + own) = omega arith in
      signed_spans_back (paging_channel rate) 384 bits_of (first + a) n own part
      (whole_frames (kinds.Paging rate)) each inside
      (subst (λ (xs : List Bool). HaveSigns xs part) (span_order a n b all)
      (signs-take (384 * n) (drop (384 * a) whole) (drop (384 * a) softs) (signs-drop (384 * a) whole softs have)))
      ∙ ap bits_of place

  frame_of_four : (k : ℕ) → k < 4 → slot_frame_bits rate softs k ≡ bits_of (first + k)
  frame_of_four zero inside = frame_of_span 0 2 2 0 refl (omega arith)
  frame_of_four (suc zero) inside = frame_of_span 0 3 1 1 refl (omega arith)
  frame_of_four (suc (suc zero)) inside = frame_of_span 1 3 0 1 refl (omega arith)
  frame_of_four (suc (suc (suc zero))) inside = frame_of_span 2 2 0 1 refl (omega arith)
  frame_of_four (suc (suc (suc (suc k)))) inside = absurd (omega (arith, inside))

pub signed_slot_bits_back : SlotBitsComeBackBySigns
unfolding slot_bits
signed_slot_bits_back rate bits_of first softs each have =
    flat_map_ext_places (slot_frame_bits rate softs) (λ k. bits_of (first + k)) 4
    (λ k inside. frame_of_four rate bits_of first softs each have k inside)

-- ---- capsules frame by frame

capsules_of_frames : (size : ℕ) (own : ℕ → List Bool) (n : ℕ) →
    capsules_in size (flat_map own (places n)) ≡ flat_map (frame_capsules size own) (places n)
unfolding capsules_in
capsules_of_frames size own zero =
    let none = flat_map-zero own in
    ap (capsules_in size) none
    ∙ flat_map-zero (λ i. option_to_list (half_frame_capsule_ending size (take (i + 1) [])))
    ∙ sym (flat_map-zero (frame_capsules size own))
capsules_of_frames size own (suc n) =
    ap (capsules_in size) (flat_map-next own n)
    ∙ ended_by-append size [] (flat_map own (places n)) (own n)
    ∙ ap (λ (l : List (List Bool)). l ++ frame_capsules size own n) (capsules_of_frames size own n)
    ∙ sym (flat_map-next (frame_capsules size own) n)

-- ---- their messages

-- the messages of a capsule: one, or none where it has a fault
abbrev messages_of : CheckForm → List Bool → List PagingMessage
messages_of form c = option_to_list (paging_reading form c)

abbrev messages_with : CheckForm → ℕ × List Bool → List PagingMessage
messages_with form sending = messages_of form sending.1

-- those of frames are those of their capsules
pages_of_frames : (form : CheckForm) (rate : Rate) (own : ℕ → List Bool) (n : ℕ) →
    slot_pages form rate (flat_map own (places n)) ≡
    flat_map (messages_with form) (capsules_with_frames (half_frame_body rate) own n)
unfolding slot_pages
pages_of_frames form rate own n =
    let size = half_frame_body rate in
    let capsules : ℕ → List (List Bool) = frame_capsules size own in
    let each : ℕ → List (ℕ × List Bool) = λ k. map (λ (c : List Bool). (k, c)) (capsules k) in
    ap (flat_map (messages_of form)) (capsules_of_frames size own n)
    ∙ flat_map-flat_map (messages_of form) capsules (places n)
    ∙ flat_map_ext_places (λ k. flat_map (messages_of form) (capsules k))
    (λ k. flat_map (messages_with form) (each k)) n
    (λ k lt. sym (flat_map-map (messages_with form) (λ (c : List Bool). (k, c)) (capsules k)))
    ∙ sym (flat_map-flat_map (messages_with form) each (places n))

-- the message of a page that is told, where one is
abbrev message_told : Option ReadPage → List PagingMessage
message_told None = []
message_told (Some page) = page.message ∷ []

told_is : (c : List Bool) (o : Option PagingMessage) → message_told (as_spelled_page c o) ≡ option_to_list o
told_is c None = refl
told_is c (Some m) = refl

-- the capsule of a page is read as its message
page_told : (form : CheckForm) (first half_frames : ℕ) (p : Placed) → IsPlaced p →
    messages_with form (sending_of form first half_frames p) ≡ placed_message p ∷ []
page_told form first half_frames p there =
    let c = capsule M30 form p.page.body in
    sym (told_is c (paging_reading form c))
    ∙ ap message_told (page_read form p.page.body there.message)

-- ---- the law

-- In a slot that lies whole in a file, a handset hears just the pages that the cycle has there: the
-- slot's four frames hold eight half-frames, whose capsules are those of the pages that begin and
-- end within them, in the rounds of the cycle up to there.
pub slot_pages_back : SlotPagesComeBack
unfolding pages_in_slot
slot_pages_back rate form pages first whole =
    let size = half_frame_body rate in
    let own : ℕ → List Bool = λ k.
    cycled (page_cycle rate form pages) (paging_frame_size rate) (first + k) in
    let cycle = cycle_half_frames rate form pages in
    let rounds = 2 * (first + 4) in
    let laid = placed size form 0 0 pages in
    let kept : ℕ → Placed → Bool = λ r. is_between (2 * first) (2 * (first + 4)) (cycle * r) in
    let sendings : ℕ → List (ℕ × List Bool) = λ r.
    map (sending_of form first (cycle * r)) (filter (kept r) laid) in
    let room : 1 * rounds ≤ cycle * rounds = mul-le-mul_right rounds (cycle_some rate form pages whole) in
    let large = size_large rate in
    pages_of_frames form rate own 4
    ∙ ap (flat_map (messages_with form)) (page_sendings_back rate form pages first 4 rounds whole (omega (arith, room)))
    ∙ flat_map-flat_map (messages_with form) sendings (places rounds)
    ∙ flat_map_ext_places (λ r. flat_map (messages_with form) (sendings r))
    (λ r. round_in_slot first (cycle * r) laid) rounds
    (λ r lt.
    told_each IsPlaced (messages_with form) (sending_of form first (cycle * r)) placed_message
    (kept r) laid (pages_placed size form 0 0 0 pages large (omega arith) whole.heard)
    (λ p there is. page_told form first (cycle * r) p there))

module _ (width : Width) (plan : CellPlan) (p : PagingPlan) (t : Tuning)
    (m : Mark) (superframes : ℕ) (is : HearsSlots width plan p t m superframes) where
  -- the handset takes the channel to have the cell's rate
  same_rate : streams.paging_rate m.prat ≡ sent_paging_rate plan.sync
  same_rate = ap streams.paging_rate is.cell.rate ∙ sym (ap sent_paging_rate is.cell.sends)

  -- the frames of a slot that ends in the file lie in it
  slot_is_in_file : (i k : ℕ) → i < slots_to_end plan superframes → k < 4 →
      is_in_file t.count (streams.paging_stream t p.number m) (4 * i + k) ≡ true
  slot_is_in_file i k inside low =
      let place = is.cell.marked.place in
      paging_file_from t p.number m is.tuned.alone (4 * i + k) (omega (arith, inside, low, place, is.tuned.count))

  -- So where their soft values have the signs of what is sent, the pages come back.
  pub slot_back : (samples : List Sample) (i : ℕ) → i < slots_to_end plan superframes →
      ((k : ℕ) → k < 4 → PagingFrameHasSigns plan p samples (4 * (superframes + i) + k)) →
      AreSlotPages plan p t m superframes i samples
  slot_back samples i inside signs =
      let rate = sent_paging_rate plan.sync in
      let bits_of = cycle_frame_bits (cycle_of plan p) in
      let first : ℕ = 4 * (superframes + i) in
      let s = streams.paging_stream t p.number m in
      let form = plan.cell.check30 in
      let read = read_after plan p t m superframes samples is.tuned is.cell in
      ap (λ (c : CheckForm). slot_pages c (streams.paging_rate m.prat)
      (slot_bits (streams.paging_rate m.prat) (slot_softs samples s i))) is.tuned.checks_of_30
      ∙ ap (slot_pages form (streams.paging_rate m.prat))
      (signed_slot_bits_back (streams.paging_rate m.prat) bits_of first (slot_softs samples s i) read.each
      (zipped_frames HasSign (λ k. order_of s bits_of (first + k)) (λ k. frame_softs samples s (4 * i + k)) 4
      (λ k low.
      let same : 4 * superframes + (4 * i + k) ≡ first + k = omega arith in
      subst (λ (n : ℕ). HaveSigns (order_of s bits_of n) (frame_softs samples s (4 * i + k))) same
      (paging_frame_shown plan p t m superframes samples is.tuned is.cell (4 * i + k)
      (subst (PagingFrameHasSigns plan p samples) (sym same) (signs k low)) (slot_is_in_file i k inside low)))))
      ∙ ap (λ (r : Rate). slot_pages form r (bits_in_slot bits_of first)) same_rate
      ∙ slot_pages_back rate form p.pages first
      (stated_pages rate p (All-contains (IsStatedPaging rate) plan.paging p is.receivable.pages is.sent))

pub slots_back : SlotsComeBack
slots_back width plan p t m superframes i samples is = slot_back width plan p t m superframes is samples i

-- ---- the slots in the file

module _ (plan : CellPlan) (t : Tuning) (number : ℕ) (m : Mark) (superframes : ℕ)
    (tuned : IsOnPath plan t) (marked : IsTrueMark plan m superframes) (samples : List Sample)
    (long : length samples ≡ plan.link.samples) where
  abbrev stream : Stream
  stream = channel_stream t (Paging number) m

  alone : IsAlone stream
  alone =
      let same = paging_alone t number m tuned.alone in
      record { phase = same.phase; row = same.row; fingers = same.fingers }

  -- the number of samples after the mark at which each of their frames ends
  end_is : (slot i : ℕ) → frame_of_slot_end stream slot i ≡ m.sample + 24576 * (4 * slot + i + 1)
  end_is slot i = known_at_once t.count stream (frame_of_slot slot i) alone refl ∙ omega arith

  -- whether a frame lies in the file and ends within it
  abbrev is_there : ℕ → ℕ → Bool
  is_there slot i =
      is_in_file t.count stream (frame_of_slot slot i)
      && nat_le (frame_of_slot_end stream slot i) (length samples)

  frame_there : (slot i : ℕ) → slot < slots_to_end plan superframes → i < 4 → is_there slot i ≡ true
  frame_there slot i inside low =
      let place = marked.place in
      let room : m.sample + 24576 * (4 * slot + i + 1) ≤ plan.link.samples = omega (arith, inside, low, place) in
      and_from (is_in_file t.count stream (frame_of_slot slot i))
      (nat_le (frame_of_slot_end stream slot i) (length samples))
      (paging_file_from t number m tuned.alone (frame_of_slot slot i)
      (omega (arith, room, tuned.count))) (le-leb (frame_of_slot_end stream slot i) (length samples)
      (omega (arith, room, end_is slot i, long)))

  slot_within : (slot : ℕ) → slot < slots_to_end plan superframes →
      is_slot_within t.count stream (length samples) slot ≡ true
  unfolding places
  slot_within slot inside =
      rw (
        frame_there slot 0 inside (omega arith),
        frame_there slot 1 inside (omega arith),
        frame_there slot 2 inside (omega arith),
        frame_there slot 3 inside (omega arith),
      ) refl

  -- A slot after the last one that ends in the file isn't in it: all four of its frames would have
  -- to be, but the last of them ends after the file does.
  slot_outside : (slot : ℕ) → slots_to_end plan superframes ≤ slot →
      is_slot_within t.count stream (length samples) slot ≡ false
  unfolding places
  slot_outside slot past =
      let there = is_there slot in
      false_from_ne_true (there 0 && (there 1 && (there 2 && (there 3 && true))))
      (λ all.
      let some = and_parts (there 0) (there 1 && (there 2 && (there 3 && true))) all in
      let last = and_parts (there 1) (there 2 && (there 3 && true)) some.1 in
      let two = and_parts (there 2) (there 3 && true) last.1 in
      let one = and_parts (there 3) true two.1 in
      let inside = and_parts (is_in_file t.count stream (frame_of_slot slot 3))
      (nat_le (frame_of_slot_end stream slot 3) (length samples)) one.0 in
      let room = paging_file_to t number m tuned.alone (frame_of_slot slot 3) inside.0 in
      let place = marked.place in
      omega (arith, room, past, place, tuned.count))

  -- those that are heard are the monitored ones of them, at a rate of a paging channel
  module _ (key cycle : ℕ) where
    abbrev heard : ℕ → Bool
    heard = is_heard key cycle t.count stream m (length samples)

    heard_past : (slot : ℕ) → slots_to_end plan superframes ≤ slot → heard slot ≡ false
    heard_past slot past =
        let others = is_monitored (m.time + slot) key cycle && nat_lt m.prat 2 in
        rw (slot_outside slot past, and-false others) refl

    heard_low : nat_lt m.prat 2 ≡ true → (slot : ℕ) → slot < slots_to_end plan superframes →
        heard slot ≡ is_monitored (plan.cell.time + (superframes + slot)) key cycle
    heard_low low slot inside =
        let monitored = is_monitored (plan.cell.time + (superframes + slot)) key cycle in
        let time : m.time + slot ≡ plan.cell.time + (superframes + slot) = omega (arith, marked.time) in
        rw (low, slot_within slot inside, time, and-true monitored, and-true monitored) refl

    heard_high : nat_lt m.prat 2 ≡ false → (slot : ℕ) → heard slot ≡ false
    heard_high high slot = rw (high, and-false (is_monitored (m.time + slot) key cycle)) refl

    -- no slot ends after the file
    slots_low : nat_lt m.prat 2 ≡ true → filter heard (places (slot_bound (length samples))) ≡
        monitored_slots key cycle plan superframes
    slots_low low =
        let place = marked.place in
        filter_enough heard (slot_bound (length samples)) (slots_to_end plan superframes)
        (λ slot past. heard_past slot (omega (arith, past, place, long))) heard_past
        ∙ filter_ext_places heard (λ i. is_monitored (plan.cell.time + (superframes + i)) key cycle)
        (slots_to_end plan superframes) (λ slot inside. heard_low low slot inside)

    slots_high : nat_lt m.prat 2 ≡ false → filter heard (places (slot_bound (length samples))) ≡ []
    slots_high high = filter_none_places heard (slot_bound (length samples)) (λ slot below. heard_high high slot)

-- ---- their lines

module _ (width : Width) (plan : CellPlan) (p : PagingPlan) (t : Tuning)
    (m : Mark) (superframes : ℕ) (is : HearsSlots width plan p t m superframes)
    (samples : List Sample) (long : length samples ≡ plan.link.samples)
    (signs : (k : ℕ) → PagingFrameHasSigns plan p samples (4 * superframes + k)) where
  -- the lines of a slot are those that are sent
  lines_back : (slot : ℕ) → slot < slots_to_end plan superframes →
      lines_of_slot t.check30 m samples (channel_stream t (Paging p.number) m) slot ≡
      sent_slot plan p (superframes + slot)
  lines_back slot inside =
      let s = channel_stream t (Paging p.number) m in
      let pages = pages_in_slot (sent_paging_rate plan.sync) plan.cell.check30 p.pages (4 * (superframes + slot)) in
      let marked = is.cell.marked in
      let place = marked.place in
      let ends : frame_of_slot_end s slot 3 ≡
      98304 * (superframes + slot + 1) - plan.link.start =
      omega (arith, place, end_is plan t p.number m superframes is.tuned marked samples long slot 3) in
      let time : m.time + slot ≡ plan.cell.time + (superframes + slot) = omega (arith, marked.time) in
      ap (slot_lines (frame_of_slot_end s slot 3) (m.time + slot))
      (slot_back width plan p t m superframes is samples slot inside
      (λ k low.
      let same : 4 * superframes + (4 * slot + k) ≡ 4 * (superframes + slot) + k = omega arith in
      subst (PagingFrameHasSigns plan p samples) same (signs (4 * slot + k))))
      ∙ ap (λ (at : ℕ). slot_lines at (m.time + slot) pages) ends
      ∙ ap (λ (now : ℕ). slot_lines (98304 * (superframes + slot + 1) - plan.link.start) now pages)
      time

  -- so is the whole text, at either rate of a paging channel, and none at another one
  text_low : (key cycle : ℕ) → nat_lt m.prat 2 ≡ true → lines_by_times key cycle t p.number m samples ≡
      slots_after_mark key cycle plan p (Some superframes)
  text_low key cycle low =
      let lines = lines_of_slot t.check30 m samples (channel_stream t (Paging p.number) m) in
      ap (flat_map lines) (slots_low plan t p.number m superframes is.tuned is.cell.marked samples long key cycle low)
      ∙ flat_map_ext_filter_places (λ i. is_monitored (plan.cell.time + (superframes + i)) key cycle) lines
      (λ i. sent_slot plan p (superframes + i)) (slots_to_end plan superframes)
      (λ slot inside kept. lines_back slot inside)

  text_high : (key cycle : ℕ) → nat_lt m.prat 2 ≡ false → lines_by_times key cycle t p.number m samples ≡ []
  text_high key cycle high =
      ap (flat_map (lines_of_slot t.check30 m samples (channel_stream t (Paging p.number) m)))
      (slots_high plan t p.number m superframes is.tuned is.cell.marked samples long key cycle high)

  text_back : (key cycle : ℕ) (at : Option ℕ) → at ≡ Some superframes →
      lines_by_times key cycle t p.number m samples ≡ slots_after key cycle plan p at plan.sync
  text_back key cycle at told =
      let sync = is.cell.sync in
      let same : nat_lt m.prat 2 ≡ nat_lt sync.message.prat 2 = ap (λ (n : ℕ). nat_lt n 2) is.cell.rate in
      let text : Bool → List ℕ = λ rated. if rated then slots_after_mark key cycle plan p (Some superframes) else [] in
      let sent : slots_after key cycle plan p at plan.sync ≡ text (nat_lt sync.message.prat 2) =
      ap (slots_after key cycle plan p at) is.cell.sends
      ∙ ap (λ (o : Option ℕ). slots_after key cycle plan p o (Some sync)) told in
      elim (cases_Bool (nat_lt sync.message.prat 2)) [
        | inl low ↦ text_low key cycle (same ∙ low) ∙ sym (sent ∙ ap text low)
        | inr high ↦ text_high key cycle (same ∙ high) ∙ sym (sent ∙ ap text high)
      ]

-- ---- the law

none_after : (key cycle : ℕ) (plan : CellPlan) (p : PagingPlan) (at : Option ℕ)
    (sync : Option SyncPlan) → at ≡ None → slots_after key cycle plan p at sync ≡ []
none_after key cycle plan p at None none = refl
none_after key cycle plan p at (Some sync) none =
    either_none (nat_lt sync.message.prat 2) (ap (slots_after_mark key cycle plan p) none)
  where
    either_none : (b : Bool) {xs : List ℕ} → xs ≡ [] → (if b then xs else []) ≡ []
    either_none true none = none
    either_none false none = refl

-- Of samples in which each of the channel's frames from a mark on has the sent signs.
module _ {width : Width} {plan : CellPlan} {p : PagingPlan} {t : Tuning} (key cycle : ℕ)
    (samples : List Sample) (at : Option ℕ) (receivable : IsReceivable width plan)
    (long : length samples ≡ plan.link.samples) (tuned : IsOnPath plan t)
    (sent : Contains plan.paging p) (signs : FromMark (PagingFrameHasSigns plan p samples) at) where
  by_mark : (set : Option Mark) → MarkIsAt plan set at →
      lines_if_marked key cycle t p.number samples set ≡ slots_after key cycle plan p at plan.sync
  by_mark None none = sym (none_after key cycle plan p at plan.sync none)
  by_mark (Some m) (superframes, told, cell) =
      text_back width plan p t m superframes
      (record { receivable = receivable; tuned = tuned; sent = sent; cell = cell }) samples long
      (λ k. signs superframes k told) key cycle at told

pub slot_texts_back : SlotTextsComeBack
slot_texts_back width plan p t key cycle at samples is long tuned sent marked signs =
    by_mark key cycle samples at is long tuned sent signs (mark t samples (length samples))
    (subst (λ (n : ℕ). MarkIsAt plan (mark t samples n) at) (sym long) marked)
