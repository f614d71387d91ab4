-- What is written of a sleeping handset's slots depends only on the samples of these slots.
use Rattle.tuned_listener.proofs.Common.{◌≡◌, ℕ, ◌+◌, ◌-◌, ◌*◌, ◌<◌, ◌≤◌, true, List, [], ◌∷◌, length, refl, sym, ap, ◌∙◌, subst, arith, ℤ}
use Rattle.tuned_listener.proofs.Common.{inl, inr, pos, ◌-ℤ◌, Option, Some, None, take, drop, filter, length-take-le, int_le, unsigned_abs}
use Rattle.tuned_listener.proofs.Common.{and_parts, cases_lt, ints, drop-drop, drop-take, take-append-drop, take-take, take_all, places}
use Rattle.tuned_listener.proofs.Common.{Sample, Data, channel_stream, AgreeIn, mark, AreNear, all_near, has_reference, low_of, paging_rate}
use Rattle.tuned_listener.proofs.Common.{Stream, frame_softs, frame_start, Tuning, finger_of, fingers_of, sync_stream, Paging, Mark}
use Rattle.tuned_listener.proofs.Common.{SoftFrame, near_parts, timed_of, frame_same, mark_after, mark_sooner, mark_stays, paging_near}
use Rattle.tuned_listener.proofs.Common.{slot_bits, frame_of_slot, frame_of_slot_end, is_heard, lines_of_slot, slot_bound, slot_lines}
use Rattle.tuned_listener.proofs.Common.{slot_pages, AgreeInSlot, SleepsThroughTheRest}
use Rattle.std.specs.List.{flat_map}
use Rattle.tuned_listener.proofs.SlotTimes.{mark_is_late, written_by_times}
use Rattle.chip_core.proofs.Ranges as ranges

-- ---- the samples of a slot, and of its frames
-- lists that agree in a part do so in a part of that
parts_agree : {A : Type 0} (one other : List A) (place off count rest : ℕ) →
    take (off + (count + rest)) (drop place one) ≡ take (off + (count + rest)) (drop place other) →
    take count (drop (place + off) one) ≡ take count (drop (place + off) other)
parts_agree {A} one other place off count rest same =
    sym (cut one) ∙ ap (λ (xs : List A). take count (drop off xs)) same ∙ cut other
  where
    cut : (xs : List A) → take count (drop off (take (off + (count + rest)) (drop place xs)))
        ≡ take count (drop (place + off) xs)
    cut xs =
        ap (take count) (drop-take off (count + rest) (drop place xs))
        ∙ take-take count (count + rest) (drop off (drop place xs)) (omega arith)
        ∙ ap (take count) (drop-drop off place xs)

-- a finger reads the slot's frames as far after one another as the reference path does
place_on : (u n : ℕ) (d : ℤ) → int_le d (pos 127) ≡ true → 127 ≤ u →
    unsigned_abs (pos u -ℤ d) + n ≡ unsigned_abs (pos (u + n) -ℤ d)
place_on u n d near late = grind (arith, ints)

-- two files that agree in the samples of a slot do so in those of one of its frames
frame_agrees : (one other : List Sample) (row phase u i : ℕ) → 127 ≤ u → i < 4 → (deltas : List ℤ) →
    all_near (fingers_of row phase deltas) ≡ true → AgreeInSlot one other u deltas →
    AgreeIn one other Data (u + 24576 * i) (fingers_of row phase deltas)
frame_agrees one other row phase u i late few [] near agree = tt
frame_agrees one other row phase u i late few (d ∷ deltas) near agree =
    let is = near_parts (finger_of row phase d) (fingers_of row phase deltas) near in
    let place : ℕ = unsigned_abs (pos u -ℤ d) in
    let off : ℕ = 24576 * i in
    let rest : ℕ = 73728 - 24576 * i in
    let whole : 98304 ≡ off + (24576 + rest) = omega (arith, few) in
    let same = subst (λ (n : ℕ). take n (drop place one) ≡ take n (drop place other)) whole agree.0 in (
      subst (λ (at' : ℕ). take 24576 (drop at' one) ≡ take 24576 (drop at' other))
          (place_on u off d is.1 late) (parts_agree one other place off 24576 rest same),
      frame_agrees one other row phase u i late few deltas is.2 agree.1,
    )

module _ (t : Tuning) (near : AreNear (sync_stream t).fingers) (m : Mark) (one other : List Sample) where
  -- ---- a slot's lines
  module _ (late : 127 ≤ m.sample) (number slot : ℕ)
      (agree : AgreeInSlot one other (m.sample + 98304 * slot) t.deltas) where
    abbrev stream : Stream
    stream = channel_stream t (Paging number) m

    -- Two files that agree in the samples of a slot give the same soft values for each of its four
    -- frames: the frame begins a whole number of frames after the slot does, and each finger reads
    -- it as far after the slot's beginning as the reference path does.
    softs_same : (i : ℕ) → i < 4 →
        frame_softs one stream (frame_of_slot slot i) ≡ frame_softs other stream (frame_of_slot slot i)
    softs_same i few =
        let close = (and_parts (all_near stream.fingers) (has_reference stream.fingers)
        (paging_near t near number m)).0 in
        let start : m.sample + 98304 * slot + 24576 * i ≡ frame_start stream (frame_of_slot slot i) = omega arith in
        ap (λ (f : SoftFrame). f.descrambled)
        (frame_same t (Paging number) m one other (frame_of_slot slot i)
        (subst (λ (u : ℕ). AgreeIn one other Data u stream.fingers) start
        (frame_agrees one other number t.phase (m.sample + 98304 * slot) i (omega (arith, late)) few
        t.deltas close agree)))

    lines_same : lines_of_slot t.check30 m one stream slot ≡ lines_of_slot t.check30 m other stream slot
    lines_same =
        ap
        (λ (softs : List ℤ). slot_lines (frame_of_slot_end stream slot 3) (m.time + slot)
        (slot_pages t.check30 (paging_rate m.prat) (slot_bits (paging_rate m.prat) softs)))
        (ranges.flat_map_ext_places (λ i. frame_softs one stream (frame_of_slot slot i))
        (λ i. frame_softs other stream (frame_of_slot slot i)) 4 softs_same)

  -- ---- the mark
  -- it is set by samples before it
  set_before : mark t one (length one) ≡ Some m → m.sample ≤ length one → mark t one m.sample ≡ Some m
  set_before marked few = by_mark (mark t one m.sample) refl
    where
      by_mark : (found : Option Mark) → mark t one m.sample ≡ found → found ≡ Some m
      by_mark None none =
          let less = mark_after t (low_of t) (timed_of t near) near one m.sample (length one) m
          none marked in
          absurd (omega (arith, less))
      by_mark (Some found) is =
          sym (mark_stays t (low_of t) (timed_of t near) one m.sample (length one) found few is)
          ∙ marked

  -- and depends only on these
  set_by_first : (samples : List Sample) → m.sample ≤ length samples →
      mark t samples m.sample ≡ mark t (take m.sample samples) m.sample
  set_by_first samples few =
      let first = take m.sample samples in
      ap (λ (xs : List Sample). mark t xs m.sample) (sym (take-append-drop m.sample samples))
      ∙ mark_sooner t (low_of t) (timed_of t near) first (drop m.sample samples) m.sample
      (omega (arith, length-take-le m.sample samples few))

  pub same_mark : length one ≡ length other → mark t one (length one) ≡ Some m →
      take m.sample one ≡ take m.sample other → mark t other (length other) ≡ Some m
  same_mark long marked same =
      elim (cases_lt (length one) m.sample) [
        | inl less ↦
            let all : one ≡ other =
            sym (take_all m.sample one (omega (arith, less)))
            ∙ same
            ∙ take_all m.sample other (omega (arith, less, long)) in
            subst (λ (xs : List Sample). mark t xs (length xs) ≡ Some m) all marked
        | inr few ↦
            let few' : m.sample ≤ length other = omega (arith, few, long) in
            let set = set_by_first other few'
            ∙ ap (λ (xs : List Sample). mark t xs m.sample) (sym same)
            ∙ sym (set_by_first one few)
            ∙ set_before marked few in
            mark_stays t (low_of t) (timed_of t near) other m.sample (length other) m few' set
      ]

-- Two files that agree up to the mark and in the slots that are heard have the same text: the mark
-- depends only on the samples before it, so both set the same one, and the text is the lines of the
-- slots that are heard after it, each of which depends on its own slot's samples.
pub sleeps : SleepsThroughTheRest
sleeps key cycle t number m one other near long marked same agree =
    let s = channel_stream t (Paging number) m in
    let late : 127 ≤ m.sample = omega (arith, mark_is_late t near one m marked) in
    let heard = is_heard key cycle t.count s m (length one) in
    let told = same_mark t near m one other long marked same in
    written_by_times key cycle t number m one near marked
    ∙ ranges.flat_map_ext_filter heard (lines_of_slot t.check30 m one s)
    (lines_of_slot t.check30 m other s) (places (slot_bound (length one)))
    (λ slot is. lines_same t near m one other late number slot (agree slot is))
    ∙ ap
    (λ (n : ℕ). flat_map (lines_of_slot t.check30 m other s)
    (filter (is_heard key cycle t.count s m n) (places (slot_bound n)))) long
    ∙ sym (written_by_times key cycle t number m other near told)
