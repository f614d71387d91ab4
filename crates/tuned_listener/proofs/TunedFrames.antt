-- The text of the frames after a mark, as it is written frame by frame.
use Rattle.tuned_listener.proofs.Common.{◌≡◌, ℕ, zero, suc, ◌+◌, ◌≤◌, Bool, true, false, List, [], ◌∷◌, ◌++◌, map, filter, length, take, ap}
use Rattle.tuned_listener.proofs.Common.{drop, refl, sym, ◌∙◌, subst, arith, inl, inr, nat_le, Option, append_assoc, take-add}
use Rattle.tuned_listener.proofs.Common.{length-append, StartsWith, Appends, range_with_len, option_to_list, Appends-trans, tuned_text_of}
use Rattle.tuned_listener.proofs.Common.{and_from, cases_Bool, cases_lt, false_from_ne_true, le-leb, map-append, take-append-drop, take_all}
use Rattle.tuned_listener.proofs.Common.{places, Sample, AppendsPrefix, channel_stream, paging_bound, frames_within, soft_frame, IsTimed}
use Rattle.tuned_listener.proofs.Common.{soft_frames, IsTunedTo, IsTunerStep, Tuning, CodeChannel, Mark, SoftFrame, Tuner, TunerStep}
use Rattle.tuned_listener.proofs.Common.{frames_sooner, HoldsFrames, WritesFrames, WritesFramesPart, slot_after, Arrivals}
use Rattle.tuned_listener.proofs.Common.{frames_text, text_from, FrameWriter, TunedText, begins_more, prefix_before, prefix_after, by_parts}
use Rattle.tuned_listener.proofs.Common.{taken_begins, frames_in, is_by, channel_ordered}
use Rattle.tuned_listener.proofs.FrameTexts.{kept_after, texts_joined}
use Rattle.chip_core.proofs.Ranges as ranges

-- ---- frames go on

-- What passes a test stands at the front of what passes a wider one, where each number that passes
-- the wider one and lies before one that passes the first passes that too.
filter_front : (p q : ℕ → Bool) (a n : ℕ) → ((k : ℕ) → p k ≡ true → q k ≡ true) →
    ((j k : ℕ) → j ≤ k → q j ≡ true → p k ≡ true → p j ≡ true) →
    (rest : List ℕ) × (filter q (range_with_len a n) ≡ filter p (range_with_len a n) ++ rest)
filter_front p q a zero wider front = ([], refl)
filter_front p q a (suc n) wider front =
    let later = filter_front p q (a + 1) n wider front in
    elim (cases_Bool (p a)) [
      | inl here ↦
          let there : q a ≡ true = wider a here in
          (later.0, rw (here, there) (ap (λ (ks : List ℕ). a ∷ ks) later.1))
      | inr gone ↦
          elim (cases_Bool (q a)) [
            | inl there ↦
                let none : filter p (range_with_len (a + 1) n) ≡ [] =
                ranges.filter_none_range p (a + 1) n
                (λ k low below. false_from_ne_true (p k)
                (λ e. let here = front a k (omega (arith, low)) there e in absurd (cc))) in
                (filter q (range_with_len a (suc n)), rw (gone, none) refl)
            | inr gone' ↦ (later.0, rw (gone, gone') later.1)
          ]
    ]

module _ (t : Tuning) (channel : CodeChannel) (m : Mark) {low : ℕ}
    (timed : IsTimed t.count (channel_stream t channel m) low) where
  -- the frames of the first samples stand at the front
  pub frames_go_on : (xs ys : List Sample) → (rest : List SoftFrame)
      × (soft_frames t channel m (xs ++ ys) ≡ soft_frames t channel m xs ++ rest)
  unfolding frames_within places
  frames_go_on xs ys =
      let frames : Arrivals = frames_in t.count (channel_stream t channel m) paging_bound in
      let order = channel_ordered t channel m timed in
      let n : ℕ = length xs in
      let n' : ℕ = length (xs ++ ys) in
      let more : n ≤ n' = omega (arith, length-append xs ys) in
      let frame : ℕ → SoftFrame = soft_frame t channel m (xs ++ ys) in
      let known : (n k : ℕ) → frames.inside k ≡ true → frames.known k ≤ n → is_by frames n k ≡ true =
      λ n k inside most.
      and_from (frames.inside k) (nat_le (frames.known k) n) inside (le-leb (frames.known k) n most) in
      let past : (k : ℕ) → paging_bound n ≤ k → is_by frames n k ≡ false = λ k high.
      false_from_ne_true (is_by frames n k)
      (λ both.
      let parts = by_parts frames n k both in
      let late = order.enough n k high parts.0 in
      omega (arith, late, parts.1)) in
      let wider : (k : ℕ) → is_by frames n k ≡ true → is_by frames n' k ≡ true = λ k e.
      let parts = by_parts frames n k e in
      known n' k parts.0 (omega (arith, more, parts.1)) in
      let front : (j k : ℕ) → j ≤ k → is_by frames n' j ≡ true → is_by frames n k ≡ true →
      is_by frames n j ≡ true =
      λ j k le one other.
      let there = by_parts frames n' j one in
      let here = by_parts frames n k other in
      elim (cases_lt j k) [
        | inl less ↦
            let sooner = order.ordered j k there.0 here.0 less in
            known n j there.0 (omega (arith, sooner, here.1))
        | inr more ↦
            let same : j ≡ k = omega (arith, le, more) in
            let e = ap frames.known same in
            known n j there.0 (omega (arith, e, here.1))
      ] in
      let (rest, parted) = filter_front (is_by frames n) (is_by frames n') 0 (paging_bound n') wider front in
      let longer : filter (is_by frames n) (places (paging_bound n))
      ≡ filter (is_by frames n) (places (paging_bound n')) =
      ranges.filter_enough (is_by frames n) (paging_bound n) (paging_bound n') past
      (λ k le. past k (omega (arith, le, more))) in
      let first : frames_within t channel m (xs ++ ys) n ≡ soft_frames t channel m xs =
      frames_sooner t channel m xs ys n (omega arith) in (
        map frame rest,
        ap (map frame) parted
            ∙ map-append frame (filter (is_by frames n) (places (paging_bound n'))) rest
            ∙ ap (λ (fs : List SoftFrame). fs ++ map frame rest)
            (ap (map frame) (sym longer) ∙ first),
      )

  -- and so does their text
  pub text_goes_on : (form : TunedText) (xs ys : List Sample) → (rest : List ℕ)
      × (text_from form t channel m (xs ++ ys) ≡ text_from form t channel m xs ++ rest)
  text_goes_on form xs ys =
      let (frames, more) = frames_go_on xs ys in
      let first = soft_frames t channel m xs in (
        frames_text form t.check30 m (slot_after [] first) frames,
        ap (frames_text form t.check30 m []) more
            ∙ texts_joined form t.check30 m [] first frames,
      )

-- ---- writing

-- the samples of a step after those taken before
pub step_joined : (heard samples next : List Sample) (taken n : ℕ) → next ≡ drop taken samples →
    (heard ++ take taken samples) ++ take n next ≡ heard ++ take (taken + n) samples
step_joined heard samples next taken n left =
    ap (λ (xs : List Sample). (heard ++ take taken samples) ++ take n xs) left
    ∙ append_assoc heard (take taken samples) (take n (drop taken samples))
    ∙ ap (λ (xs : List Sample). heard ++ xs) (sym (take-add taken n samples))

-- what a writer keeps of a slot after these samples
abbrev kept_of : Tuning → CodeChannel → Mark → List Sample → List SoftFrame
kept_of t channel m heard = slot_after [] (soft_frames t channel m heard)

-- the text of the frame that is shown after those
abbrev shown_text : TunedText → Tuning → CodeChannel → Mark → List Sample → Option SoftFrame → List ℕ
shown_text form t channel m heard shown =
    frames_text form t.check30 m (kept_of t channel m heard) (option_to_list shown)

-- what it keeps then
abbrev kept_with : Tuning → CodeChannel → Mark → List Sample → Option SoftFrame → List SoftFrame
kept_with t channel m heard shown = slot_after (kept_of t channel m heard) (option_to_list shown)

module _ (t : Tuning) (channel : CodeChannel) (m : Mark) (form : TunedText) where
  module _ (one other : Tuner) (writer : FrameWriter) (heard samples next : List Sample)
      (taken : ℕ) (step : TunerStep) (old mid new : Option (List ℕ))
      (left : next ≡ drop taken samples) (does : IsTunerStep one other next step)
      (so_far : WritesFrames t channel m form one writer heard (heard ++ take taken samples) old mid)
      (same : tuned_text_of writer ≡ form) where
    abbrev so_many : List Sample
    so_many = heard ++ take taken samples

    -- the samples that were taken then
    joined : so_many ++ take step.taken next ≡ heard ++ take (taken + step.taken) samples
    joined = step_joined heard samples next taken step.taken left

    tuned : IsTunedTo t channel m other (heard ++ take (taken + step.taken) samples)
    tuned = subst (IsTunedTo t channel m other) joined (does.stands t channel m so_many so_far.tuned)

    -- the frames that have ended then
    frames_then : soft_frames t channel m (heard ++ take (taken + step.taken) samples)
        ≡ soft_frames t channel m so_many ++ option_to_list step.frame
    frames_then = ap (soft_frames t channel m) (sym joined) ∙ does.gives t channel m so_many so_far.tuned

    -- the text of a step's frame
    step_text : text_from form t channel m heard
        ++ (so_far.text ++ shown_text form t channel m so_many step.frame)
        ≡ text_from form t channel m (heard ++ take (taken + step.taken) samples)
    step_text =
        let text = shown_text form t channel m so_many step.frame in
        sym (append_assoc (text_from form t channel m heard) so_far.text text)
        ∙ ap (λ (bytes : List ℕ). bytes ++ text) so_far.all
        ∙ sym (texts_joined form t.check30 m [] (soft_frames t channel m so_many) (option_to_list step.frame))
        ∙ ap (frames_text form t.check30 m []) (sym frames_then)

    -- what is kept of a slot after it
    step_kept : kept_with t channel m so_many step.frame
        ≡ kept_of t channel m (heard ++ take (taken + step.taken) samples)
    step_kept =
        sym (kept_after [] (soft_frames t channel m so_many) (option_to_list step.frame))
        ∙ ap (slot_after []) (sym frames_then)

    -- it was written
    pub writes_more : (writer' : FrameWriter) →
        Appends mid new (shown_text (tuned_text_of writer) t channel m so_many step.frame) →
        HoldsFrames writer' t.check30 (kept_with t channel m so_many step.frame) →
        WritesFrames t channel m form other writer' heard (heard ++ take (taken + step.taken) samples) old new
    writes_more writer' written holds =
        let text = shown_text form t channel m so_many step.frame in
        record {
          text = so_far.text ++ text;
          written = Appends-trans old mid new so_far.text text so_far.written (rw same at written);
          all = step_text;
          tuned = tuned;
          holds = subst (HoldsFrames writer' t.check30) step_kept holds;
        }

    -- a write failed in the middle of it
    pub writes_part : AppendsPrefix mid new (shown_text (tuned_text_of writer) t channel m so_many step.frame) →
        WritesFramesPart t channel m form heard (heard ++ samples) old new
    writes_part part =
        let now = heard ++ take (taken + step.taken) samples in
        let last = drop (taken + step.taken) samples in
        let text = shown_text form t channel m so_many step.frame in
        let (rest, later) = text_goes_on t channel m tuned.given.clocked.timed form now last in
        let whole_samples : now ++ last ≡ heard ++ samples =
        append_assoc heard (take (taken + step.taken) samples) last
        ∙ ap (λ (xs : List Sample). heard ++ xs) (take-append-drop (taken + step.taken) samples) in
        let before = text_from form t channel m heard in
        let all = so_far.text ++ (text ++ rest) in
        let whole : text_from form t channel m (heard ++ samples) ≡ before ++ all =
        ap (text_from form t channel m) (sym whole_samples)
        ∙ later
        ∙ ap (λ (bytes : List ℕ). bytes ++ rest) (sym step_text)
        ∙ append_assoc before (so_far.text ++ text) rest
        ∙ ap (λ (bytes : List ℕ). before ++ bytes) (append_assoc so_far.text text rest) in
        let cut : AppendsPrefix old new all =
        prefix_after old mid new so_far.text (text ++ rest) so_far.written (prefix_before mid new text rest (rw same at part)) in
        record {
          text = take cut.count all;
          written = cut.appended;
          begins = subst (λ (bytes : List ℕ). StartsWith bytes (before ++ take cut.count all)) (sym whole)
              (begins_more before all (take cut.count all) (taken_begins all cut.count cut.fits));
        }

  -- all samples were taken
  pub writes_all : (tuner : Tuner) (writer : FrameWriter) (heard samples : List Sample) (taken : ℕ)
      (old new : Option (List ℕ)) → length samples ≤ taken →
      WritesFrames t channel m form tuner writer heard (heard ++ take taken samples) old new →
      WritesFrames t channel m form tuner writer heard (heard ++ samples) old new
  writes_all tuner writer heard samples taken old new most =
      subst (λ (xs : List Sample). WritesFrames t channel m form tuner writer heard (heard ++ xs)
      old new)
      (take_all taken samples most)
