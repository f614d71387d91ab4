-- What is written of a sleeping handset's slots, slot by slot.
use Rattle.tuned_listener.proofs.Common.{false_from_ne_true, frame_of_slot_end, IsWrittenByTimes, lines_if_marked, range_with_len, and_from}
use Rattle.tuned_listener.proofs.Common.{channel_stream, near_are_close, is_slot_within, lines_by_times, lines_of_slots, text_if_marked, []}
use Rattle.tuned_listener.proofs.Common.{if◌then◌else◌, frames_within, known_between, frame_of_slot, lines_of_slot, paging_bound, and_parts}
use Rattle.tuned_listener.proofs.Common.{is_monitored, paging_rate, soft_frames, sync_stream, close_begun, inside_from, paging_near, length}
use Rattle.tuned_listener.proofs.Common.{frames_text, cases_Bool, soft_frame, is_in_file, stream_end, mark_later, slot_bound, slot_lines, ℕ}
use Rattle.tuned_listener.proofs.Common.{slot_pages, tuned_text, and_right, CheckForm, all_begun, SoftFrame, inside_to, known_own, cases_lt}
use Rattle.tuned_listener.proofs.Common.{slot_bits, NeedsMark, slot_more, slot_text, leb-true, known_at, timed_in, timed_of, mark_set, zero}
use Rattle.tuned_listener.proofs.Common.{is_heard, AreNear, IsTimed, ends_lt, filter, nat_le, Option, nat_lt, le-leb, lt-leb, places, false}
use Rattle.tuned_listener.proofs.Common.{Sample, low_in, Stream, Tuning, Paging, subst, arith, Slots, ◌&&◌, Bool, true, List, ◌++◌, refl}
use Rattle.tuned_listener.proofs.Common.{Some, None, mark, Mark, ◌≡◌, suc, ◌+◌, ◌*◌, ◌/◌, ◌%◌, ◌<◌, ◌≤◌, ◌∷◌, map, sym, ◌∙◌, inl, inr, ap}
use Rattle.std.specs.List.{flat_map}
use Rattle.chip_core.proofs.Ranges as ranges

-- the pieces of what a filter keeps, with one number more
kept_more : {A : Type 0} (f : ℕ → List A) (p : ℕ → Bool) (x : ℕ) (xs : List ℕ) →
    (if p x then f x else []) ++ flat_map f (filter p xs) ≡ flat_map f (filter p (x ∷ xs))
kept_more f p x xs =
    elim (cases_Bool (p x)) [
      | inl e ↦ rw e refl
      | inr e ↦ rw e refl
    ]

-- ---- frames numbered in a row
-- whether a slot is one that may be heard: the handset monitors it, and the mark's data rate is one
-- of the two
abbrev is_awake : ℕ → ℕ → Mark → ℕ → Bool
is_awake key cycle m slot = is_monitored (m.time + slot) key cycle && nat_lt m.prat 2

module _ (key cycle : ℕ) (check : CheckForm) (m : Mark) where
  abbrev texts : List SoftFrame → List SoftFrame → List ℕ
  texts kept frames = frames_text (Slots key cycle) check m kept frames

  -- the lines of a slot that has these four frames
  abbrev lines_of_four : ℕ → SoftFrame → SoftFrame → SoftFrame → SoftFrame → List ℕ
  lines_of_four slot a b c d =
      slot_lines d.end (m.time + slot)
      (slot_pages check (paging_rate m.prat)
      (slot_bits (paging_rate m.prat) (flat_map (λ (f : SoftFrame). f.descrambled) (a ∷ b ∷ c ∷ d ∷ []))))

  -- one frame more
  text_of_next : (kept slot : List SoftFrame) (frame : SoftFrame) (frames : List SoftFrame) →
      slot_more kept frame ≡ slot →
      texts kept (frame ∷ frames) ≡ slot_text key cycle check m slot frame ++ texts slot frames
  unfolding frames_text
  text_of_next kept slot frame frames more =
      ap
      (λ (s : List SoftFrame). slot_text key cycle check m s frame
      ++ frames_text (Slots key cycle) check m s frames) more

  -- a slot's first frames, and its last
  more_first : (kept : List SoftFrame) (a : SoftFrame) (slot : ℕ) → a.number ≡ 4 * slot → slot_more kept a ≡ a ∷ []
  more_first kept a slot is =
      let rest : a.number % 4 ≡ 0 = omega (arith, is) in
      rw rest refl

  more_second : (a b : SoftFrame) (slot : ℕ) → b.number ≡ 4 * slot + 1 → slot_more (a ∷ []) b ≡ a ∷ b ∷ []
  more_second a b slot is =
      let rest : b.number % 4 ≡ 1 = omega (arith, is) in
      rw rest refl

  more_third : (a b c : SoftFrame) (slot : ℕ) → c.number ≡ 4 * slot + 2 → slot_more (a ∷ b ∷ []) c ≡ a ∷ b ∷ c ∷ []
  more_third a b c slot is =
      let rest : c.number % 4 ≡ 2 = omega (arith, is) in
      rw rest refl

  more_last : (a b c d : SoftFrame) (slot : ℕ) → d.number ≡ 4 * slot + 3 →
      slot_more (a ∷ b ∷ c ∷ []) d ≡ a ∷ b ∷ c ∷ d ∷ []
  more_last a b c d slot is =
      let rest : d.number % 4 ≡ 3 = omega (arith, is) in
      rw rest refl

  text_of_last : (a b c d : SoftFrame) (slot : ℕ) → d.number ≡ 4 * slot + 3 →
      slot_text key cycle check m (a ∷ b ∷ c ∷ d ∷ []) d
      ≡ (if is_awake key cycle m slot then lines_of_four slot a b c d else [])
  text_of_last a b c d slot is =
      let here : d.number / 4 ≡ slot = omega (arith, is) in
      rw here refl

  -- the text of a slot, whatever was kept, and of what lies after it
  text_of_four : (kept : List SoftFrame) (a b c d : SoftFrame) (frames : List SoftFrame) (slot : ℕ) →
      a.number ≡ 4 * slot → b.number ≡ 4 * slot + 1 → c.number ≡ 4 * slot + 2 → d.number ≡ 4 * slot + 3 →
      texts kept (a ∷ b ∷ c ∷ d ∷ frames)
      ≡ (if is_awake key cycle m slot then lines_of_four slot a b c d else []) ++ texts (a ∷ b ∷ c ∷ d ∷ []) frames
  text_of_four kept a b c d frames slot first second third last =
      text_of_next kept (a ∷ []) a (b ∷ c ∷ d ∷ frames) (more_first kept a slot first)
      ∙ text_of_next (a ∷ []) (a ∷ b ∷ []) b (c ∷ d ∷ frames) (more_second a b slot second)
      ∙ text_of_next (a ∷ b ∷ []) (a ∷ b ∷ c ∷ []) c (d ∷ frames) (more_third a b c slot third)
      ∙ text_of_next (a ∷ b ∷ c ∷ []) (a ∷ b ∷ c ∷ d ∷ []) d frames (more_last a b c d slot last)
      ∙ ap (λ (xs : List ℕ). xs ++ texts (a ∷ b ∷ c ∷ d ∷ []) frames) (text_of_last a b c d slot last)

  -- a slot whose last frame is missing has none
  text_of_none : (kept : List SoftFrame) → texts kept [] ≡ []
  unfolding frames_text
  text_of_none kept = refl

  text_of_one : (kept : List SoftFrame) (a : SoftFrame) (slot : ℕ) → a.number ≡ 4 * slot → texts kept (a ∷ []) ≡ []
  unfolding frames_text
  text_of_one kept a slot first = text_of_next kept (a ∷ []) a [] (more_first kept a slot first)

  text_of_two : (kept : List SoftFrame) (a b : SoftFrame) (slot : ℕ) → a.number ≡ 4 * slot →
      b.number ≡ 4 * slot + 1 → texts kept (a ∷ b ∷ []) ≡ []
  unfolding frames_text
  text_of_two kept a b slot first second =
      text_of_next kept (a ∷ []) a (b ∷ []) (more_first kept a slot first)
      ∙ text_of_next (a ∷ []) (a ∷ b ∷ []) b [] (more_second a b slot second)

  text_of_three : (kept : List SoftFrame) (a b c : SoftFrame) (slot : ℕ) → a.number ≡ 4 * slot →
      b.number ≡ 4 * slot + 1 → c.number ≡ 4 * slot + 2 → texts kept (a ∷ b ∷ c ∷ []) ≡ []
  unfolding frames_text
  text_of_three kept a b c slot first second third =
      text_of_next kept (a ∷ []) a (b ∷ c ∷ []) (more_first kept a slot first)
      ∙ text_of_next (a ∷ []) (a ∷ b ∷ []) b (c ∷ []) (more_second a b slot second)
      ∙ text_of_next (a ∷ b ∷ []) (a ∷ b ∷ c ∷ []) c [] (more_third a b c slot third)

  -- Frames numbered in a row from a slot's first on: those of whole slots, and a few more.
  module _ (frame : ℕ → SoftFrame) (numbered : (k : ℕ) → (frame k).number ≡ k) where
    abbrev lines_at : ℕ → List ℕ
    lines_at slot =
        lines_of_four slot (frame (4 * slot + 0)) (frame (4 * slot + 1)) (frame (4 * slot + 2)) (frame (4 * slot + 3))

    -- The text of frames in a row, from the first one of a slot on, is that of the whole slots in
    -- which the handset is awake. By induction over the slots: the fourth frame completes a slot,
    -- and the one to three frames that may be left at the end complete none.
    slot_by_slot : (kept : List SoftFrame) (k n slot slots more : ℕ) → k ≡ 4 * slot → n ≡ 4 * slots + more → more < 4 →
        texts kept (map frame (range_with_len k n))
        ≡ flat_map lines_at (filter (is_awake key cycle m) (range_with_len slot slots))
    slot_by_slot kept k zero slot zero more is long few = text_of_none kept
    slot_by_slot kept k (suc zero) slot zero more is long few = text_of_one kept (frame k) slot (numbered k ∙ is)
    slot_by_slot kept k (suc (suc zero)) slot zero more is long few =
        text_of_two kept (frame k) (frame (k + 1)) slot (numbered k ∙ is) (omega (arith, numbered (k + 1), is))
    slot_by_slot kept k (suc (suc (suc zero))) slot zero more is long few =
        text_of_three kept (frame k) (frame (k + 1)) (frame (k + 1 + 1)) slot (numbered k ∙ is)
        (omega (arith, numbered (k + 1), is)) (omega (arith, numbered (k + 1 + 1), is))
    slot_by_slot kept k (suc (suc (suc (suc n)))) slot zero more is long few = absurd (omega (arith, long, few))
    slot_by_slot kept k (suc (suc (suc (suc n)))) slot (suc slots) more is long few =
        let first : frame k ≡ frame (4 * slot + 0) = ap frame (omega (arith, is)) in
        let second : frame (k + 1) ≡ frame (4 * slot + 1) = ap frame (omega (arith, is)) in
        let third : frame (k + 1 + 1) ≡ frame (4 * slot + 2) = ap frame (omega (arith, is)) in
        let last : frame (k + 1 + 1 + 1) ≡ frame (4 * slot + 3) = ap frame (omega (arith, is)) in
        let following = range_with_len (k + 1 + 1 + 1 + 1) n in
        let a = frame (4 * slot + 0) in
        let b = frame (4 * slot + 1) in
        let c = frame (4 * slot + 2) in
        let d = frame (4 * slot + 3) in
        let rest = slot_by_slot (a ∷ b ∷ c ∷ d ∷ []) (k + 1 + 1 + 1 + 1) n (slot + 1) slots more
        (omega (arith, is)) (omega (arith, long)) few in
        rw (first, second, third, last)
        (text_of_four kept a b c d (map frame following) slot (omega (arith, numbered (4 * slot + 0)))
        (numbered (4 * slot + 1)) (numbered (4 * slot + 2)) (numbered (4 * slot + 3))
        ∙ ap (λ (xs : List ℕ). (if is_awake key cycle m slot then lines_at slot else []) ++ xs) rest
        ∙ kept_more lines_at (is_awake key cycle m) slot (range_with_len (slot + 1) slots))
    slot_by_slot kept k n slot (suc slots) more is long few = absurd (omega (arith, long))

    -- from the first of all on
    frames_by_slots : (n : ℕ) →
        texts [] (map frame (places n)) ≡ flat_map lines_at (filter (is_awake key cycle m) (places (n / 4)))
    unfolding places
    frames_by_slots n = slot_by_slot [] 0 n 0 (n / 4) (n % 4) (omega arith) (omega arith) (omega arith)

-- ---- frames within n samples
-- A test that passes with a number each smaller one, and is passed by none from some number on, is
-- passed by the numbers below one.
pub record IsFront (p : ℕ → Bool) (bound count : ℕ) : Type 0 where
  pub passes : (k : ℕ) → p k ≡ nat_le (k + 1) count
  pub kept : filter p (places bound) ≡ places count

module _ (p : ℕ → Bool) (down : (j k : ℕ) → j < k → p k ≡ true → p j ≡ true) where
  front : (bound : ℕ) → ((k : ℕ) → bound ≤ k → p k ≡ false) → (count : ℕ) × IsFront p bound count
  unfolding places
  front zero past = (
    zero,
    record {
      passes = λ k. past k (omega arith) ∙ sym (lt-leb (k + 1) 0 (omega arith));
      kept = ranges.filter_none_places p 0 (λ k below. past k (omega arith));
    },
  )
  front (suc bound) past =
      elim (cases_Bool (p bound)) [
        | inl last ↦
            let below : (k : ℕ) → k < suc bound → p k ≡ true = λ k less.
            elim (cases_lt k bound) [
              | inl before ↦ down k bound before last
              | inr here ↦
                  let same : bound ≡ k = omega (arith, less, here) in
                  ap p (sym same) ∙ last
            ] in (
              suc bound,
              record {
                passes = λ k. elim (cases_lt k (suc bound)) [
                  | inl less ↦
                      below k less ∙ sym (le-leb (k + 1) (suc bound) (omega (arith, less)))
                  | inr more ↦
                      past k (omega (arith, more))
                      ∙ sym (lt-leb (k + 1) (suc bound) (omega (arith, more)))
                ];
                kept = ranges.filter_all_places p (suc bound) below;
              },
            )
        | inr none ↦
            let following : (k : ℕ) → bound ≤ k → p k ≡ false = λ k le.
            elim (cases_lt bound k) [
              | inl more ↦ past k (omega (arith, more))
              | inr here ↦
                  let same : bound ≡ k = omega (arith, le, here) in
                  ap p (sym same) ∙ none
            ] in
            let (count, is) = front bound following in (
              count,
              record { passes = is.passes; kept = ranges.filter_enough p (suc bound) bound past following ∙ is.kept },
            )
      ]

-- ---- a paging channel's frames after a mark
module _ (t : Tuning) (near : AreNear (sync_stream t).fingers) (samples : List Sample) (m : Mark)
    (marked : mark t samples (length samples) ≡ Some m) where
  -- the mark lies far after all that a finger may read too early
  pub mark_is_late : 32768 ≤ m.sample
  mark_is_late =
      let (k, set) = mark_set t samples (length samples) m marked in
      let timed = timed_of t near in
      let later = mark_later t samples k _ near timed set.inside m set.sets in
      let known = (known_between (sync_stream t) timed k set.inside).low in
      let early = timed.early k in
      omega (arith, later, known, early)

  module _ (number : ℕ) where
    abbrev stream : Stream
    stream = channel_stream t (Paging number) m

    abbrev samples_of : ℕ
    samples_of = length samples

    close : AreNear stream.fingers
    close = paging_near t near number m

    begun : all_begun m.sample stream.fingers ≡ true
    begun =
        close_begun m.sample stream.fingers (near_are_close stream.fingers close).close (omega (arith, mark_is_late))

    timed : IsTimed t.count stream 0
    timed = let from_first : low_in stream ≡ 0 = rw begun refl in
        subst (λ (low : ℕ). IsTimed t.count stream low) from_first (timed_in t.count stream close)

    -- whether a frame is among those that end within the samples
    abbrev is_known : ℕ → Bool
    is_known k = is_in_file t.count stream k && nat_le (known_at t.count stream k) samples_of

    own_end : (k : ℕ) → known_at t.count stream k ≡ stream_end stream k
    own_end k = known_own stream timed k refl

    known_parts : (k : ℕ) → is_known k ≡ true → (stream_end stream k ≤ t.count) × (stream_end stream k ≤ samples_of)
    known_parts k is =
        let parts = and_parts (is_in_file t.count stream k) (nat_le (known_at t.count stream k) samples_of) is in
        let ends = leb-true (known_at t.count stream k) samples_of parts.1 in
        ((inside_to stream timed k parts.0).1, omega (arith, ends, own_end k))

    known_down : (j k : ℕ) → j < k → is_known k ≡ true → is_known j ≡ true
    known_down j k less is =
        let ends = known_parts k is in
        let sooner = ends_lt stream timed j k less in
        and_from (is_in_file t.count stream j) (nat_le (known_at t.count stream j) samples_of)
        (inside_from stream timed j (omega arith) (omega (arith, sooner, ends.0)))
        (le-leb (known_at t.count stream j) samples_of (omega (arith, own_end j, sooner, ends.1)))

    known_past : (k : ℕ) → paging_bound samples_of ≤ k → is_known k ≡ false
    known_past k past =
        false_from_ne_true (is_known k)
        (λ is.
        let ends = known_parts k is in
        let early = timed.early k in
        omega (arith, ends.1, early, past))

    known_front : (count : ℕ) × IsFront is_known (paging_bound samples_of) count
    known_front = front is_known known_down (paging_bound samples_of) known_past

    module _ (count : ℕ) (is : IsFront is_known (paging_bound samples_of) count) where
      -- they are numbered in a row from 0 on
      in_a_row : soft_frames t (Paging number) m samples ≡ map (soft_frame t (Paging number) m samples) (places count)
      unfolding frames_within
      in_a_row = ap (map (soft_frame t (Paging number) m samples)) is.kept

      -- a slot lies within the samples where its last frame does
      frame_known : (slot i : ℕ) →
          (is_in_file t.count stream (frame_of_slot slot i)
          && nat_le (frame_of_slot_end stream slot i) samples_of)
          ≡ nat_le (4 * slot + i + 1) count
      frame_known slot i = is.passes (4 * slot + i)

      slot_known : (slot : ℕ) → is_slot_within t.count stream samples_of slot ≡ nat_le (slot + 1) (count / 4)
      unfolding places
      slot_known slot =
          elim (cases_lt slot (count / 4)) [
            | inl less ↦
                rw (
                  frame_known slot 0,
                  frame_known slot 1,
                  frame_known slot 2,
                  frame_known slot 3,
                  le-leb (4 * slot + 0 + 1) count (omega (arith, less)),
                  le-leb (4 * slot + 1 + 1) count (omega (arith, less)),
                  le-leb (4 * slot + 2 + 1) count (omega (arith, less)),
                  le-leb (4 * slot + 3 + 1) count (omega (arith, less)),
                  le-leb (slot + 1) (count / 4) (omega (arith, less)),
                ) refl
            | inr more ↦
                rw (
                  frame_known slot 0,
                  frame_known slot 1,
                  frame_known slot 2,
                  frame_known slot 3,
                  lt-leb (4 * slot + 3 + 1) count (omega (arith, more)),
                  lt-leb (slot + 1) (count / 4) (omega (arith, more)),
                )
                (none_of_four (nat_le (4 * slot + 0 + 1) count)
                (nat_le (4 * slot + 1 + 1) count) (nat_le (4 * slot + 2 + 1) count))
          ]
        where
          none_of_four : (a b c : Bool) → (a && (b && (c && (false && true)))) ≡ false
          none_of_four true true true = refl
          none_of_four true true false = refl
          none_of_four true false c = refl
          none_of_four false b c = refl

      -- and there are no more of these than the law looks for
      count_most : 24576 * count ≤ samples_of
      count_most = by_count count refl
        where
          by_count : (n : ℕ) → n ≡ count → 24576 * n ≤ samples_of
          by_count zero same = omega arith
          by_count (suc n) same =
              let known = is.passes n ∙ le-leb (n + 1) count (omega (arith, same)) in
              let ends = (known_parts n known).1 in
              let early = timed.early n in
              omega (arith, ends, early)

      module _ (key cycle : ℕ) where
        abbrev heard : ℕ → Bool
        heard slot = is_heard key cycle t.count stream m samples_of slot

        heard_is : (slot : ℕ) → heard slot ≡ (is_awake key cycle m slot && nat_le (slot + 1) (count / 4))
        heard_is slot =
            rw (slot_known slot)
            (and_joined (is_monitored (m.time + slot) key cycle) (nat_lt m.prat 2) (nat_le (slot + 1) (count / 4)))
          where
            and_joined : (a b c : Bool) → (a && b && c) ≡ ((a && b) && c)
            and_joined true b c = refl
            and_joined false b c = refl

        heard_past : (slot : ℕ) → count / 4 ≤ slot → heard slot ≡ false
        heard_past slot past =
            heard_is slot
            ∙ and_right (is_awake key cycle m slot) (nat_le (slot + 1) (count / 4))
            (lt-leb (slot + 1) (count / 4) (omega (arith, past)))

        slots_heard : filter heard (places (slot_bound samples_of)) ≡ filter (is_awake key cycle m) (places (count / 4))
        slots_heard =
            ranges.filter_enough heard (slot_bound samples_of) (count / 4)
            (λ slot past. heard_past slot (omega (arith, past, count_most))) heard_past
            ∙ ranges.filter_ext_places heard (is_awake key cycle m) (count / 4)
            (λ slot below.
            let all : nat_le (slot + 1) (count / 4) ≡ true = le-leb (slot + 1) (count / 4) (omega (arith, below)) in
            heard_is slot ∙ and_all (is_awake key cycle m slot) (nat_le (slot + 1) (count / 4)) all)
          where
            and_all : (a b : Bool) → b ≡ true → (a && b) ≡ a
            and_all true b all = all
            and_all false b all = refl

        text_by_times : frames_text (Slots key cycle) t.check30 m [] (soft_frames t (Paging number) m samples)
            ≡ lines_by_times key cycle t number m samples
        unfolding places
        text_by_times =
            ap (frames_text (Slots key cycle) t.check30 m []) in_a_row
            ∙ frames_by_slots key cycle t.check30 m (soft_frame t (Paging number) m samples) (λ k. refl) count
            ∙ ap (flat_map (lines_of_slot t.check30 m samples stream)) (sym slots_heard)

pub written_by_times : IsWrittenByTimes
unfolding tuned_text
written_by_times key cycle t number m samples near marked =
    let (count, is) = known_front t near samples m marked number in
    ap (text_if_marked (Slots key cycle) t (Paging number) samples) marked
    ∙ text_by_times t near samples m marked number count is key cycle

pub needs_mark : NeedsMark
unfolding tuned_text
needs_mark key cycle t number samples unmarked =
    ap (text_if_marked (Slots key cycle) t (Paging number) samples) unmarked

-- both in one: what is written are the lines after the mark, where one is set
pub written_of_slots : (key cycle : ℕ) (t : Tuning) (number : ℕ) (samples : List Sample) →
    AreNear (sync_stream t).fingers → tuned_text (Slots key cycle) t (Paging number) samples
    ≡ lines_of_slots key cycle t number samples
written_of_slots key cycle t number samples near = by_mark (mark t samples (length samples)) refl
  where
    by_mark : (set : Option Mark) → mark t samples (length samples) ≡ set →
        tuned_text (Slots key cycle) t (Paging number) samples ≡ lines_if_marked key cycle t number samples set
    by_mark None unset = needs_mark key cycle t number samples unset
    by_mark (Some m) set = written_by_times key cycle t number m samples near set
