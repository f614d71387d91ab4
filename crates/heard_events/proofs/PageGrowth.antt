-- What is left of a paging channel's messages, and how they grow with a file's samples.
use Rattle.heard_events.proofs.Common.{◌≡◌, ℕ, suc, ◌+◌, ◌-◌, ◌<◌, ◌≤◌, ◌==◌, Bool, true, false, List, [], ◌++◌, length, refl, sym, ap, ◌∙◌}
use Rattle.heard_events.proofs.Common.{arith, if◌then◌else◌, flat_map, range_with_len, option_to_list, eq-eqb, ne_eqb, Sample, page_at}
use Rattle.heard_events.proofs.Common.{pages_from, pages_left, paging_bound, paging_stream, frame_own_bits, IsTimed, Tuning, Mark, pages_at}
use Rattle.heard_events.proofs.Common.{SpelledPage, bits_up_to, flat_map_ext_range, paging_bits_before, Stream, is_in_file, nat_le, places}
use Rattle.heard_events.proofs.Common.{and_parts, leb-true, flat_map_ext_filter}
use Rattle.heard_events.proofs.Arrivals.{AreKnown, AreLater, Arrivals, NoneNow, frames_in, left_from, next_left, none_now, Stays}
use Rattle.heard_events.proofs.Arrivals.{StaysWithin}
use Rattle.heard_events.proofs.Arrivals.{stays_at, stays_now, AreOrdered, frames_ordered, own_bits_sooner, none_inside, StaysBefore, is_now}
use Rattle.heard_events.proofs.Arrivals.{stays_before, given_more, is_left}
use Rattle.heard_events.proofs.GoesOn.{GoesOn, goes_as, things_go, joined}

either_way : (b : Bool) (i : ℕ) → (if b then i else i) ≡ i
either_way true i = refl
either_way false i = refl

abbrev pub page_frames : Tuning → ℕ → Mark → Arrivals
page_frames t channel m = frames_in t.count (paging_stream t channel m) paging_bound

-- THE BITS OF THE FRAMES BEFORE ONE, OVER ANY STREAM
-- with those of one frame more
pub bits_before_more : (count : ℕ) (xs : List Sample) (s : Stream) (k : ℕ) → is_in_file count s k ≡ true →
    paging_bits_before count xs s (k + 1) ≡ paging_bits_before count xs s k ++ frame_own_bits count xs s k
unfolding paging_bits_before
bits_before_more count xs s k inside = given_more (is_in_file count s) (frame_own_bits count xs s) k inside

pub bits_before_none : (count : ℕ) (xs : List Sample) (s : Stream) (low k : ℕ) →
    IsTimed count s low → k ≤ low → paging_bits_before count xs s k ≡ []
unfolding paging_bits_before
bits_before_none count xs s low k timed h = ap (flat_map (frame_own_bits count xs s)) (none_inside s timed k h)

-- they stay where more samples follow
pub bits_before_sooner : {count low : ℕ} (s : Stream) → s.waits ≡ true → IsTimed count s low →
    StaysBefore (frames_in count s paging_bound) (λ xs. paging_bits_before count xs s)
unfolding paging_bits_before
bits_before_sooner {count} s waits timed =
    stays_before (frames_in count s paging_bound) (λ xs. frame_own_bits count xs s) (own_bits_sooner s waits timed)

-- THE BITS OF A FRAME
module _ (t : Tuning) (channel : ℕ) (m : Mark) (heard : List Sample) (k i : ℕ) where
  abbrev size : ℕ
  size = length (frame_own_bits t.count heard (paging_stream t channel m) k)

  abbrev of_bit : ℕ → List SpelledPage
  of_bit j = option_to_list (page_at t channel m heard k j)

  -- one bit's message is the first of those of the bits from it on
  pub pages_next : i < length (frame_own_bits t.count heard (paging_stream t channel m) k) →
      pages_from t channel m heard k i
      ≡ option_to_list (page_at t channel m heard k i) ++ pages_from t channel m heard k (i + 1)
  unfolding pages_from
  pages_next below =
      let more : size - i ≡ suc (size - (i + 1)) = omega arith in
      ap (λ (n : ℕ). flat_map of_bit (range_with_len i n)) more

  -- after the last bit there are none
  pub pages_after_last : length (frame_own_bits t.count heard (paging_stream t channel m) k) ≤ i →
      pages_from t channel m heard k i ≡ []
  unfolding pages_from
  pages_after_last above =
      let none : size - i ≡ 0 = omega arith in
      ap (λ (n : ℕ). flat_map of_bit (range_with_len i n)) none

-- WHAT IS LEFT
module _ (t : Tuning) (channel : ℕ) (m : Mark) where
  abbrev frames : Arrivals
  frames = page_frames t channel m

  -- where no frame is under way, all that the frames give
  left_whole : (xs : List Sample) (next : ℕ) → pages_left t channel m xs next 0
      ≡ flat_map (λ k. pages_from t channel m xs k 0) (left_from (page_frames t channel m) next (length xs))
  unfolding pages_left
  left_whole xs next =
      flat_map_ext_filter (is_left frames next (length xs))
      (λ k. pages_from t channel m xs k (if k == next then 0 else 0))
      (λ k. pages_from t channel m xs k 0) (places (paging_bound (length xs)))
      (λ k here. ap (pages_from t channel m xs k) (either_way (k == next) 0))

  -- and these go on with the samples
  pub pages_go : (next : ℕ) (heard : List Sample) (end : ℕ) → AreKnown (page_frames t channel m) next (length heard) →
      AreLater (page_frames t channel m) next end →
      GoesOn (pages_at t channel m) (λ xs. pages_left t channel m xs next 0) heard end
  unfolding pages_at
  pages_go next heard end before following =
      goes_as
      (things_go frames next (λ xs n. flat_map (λ k. pages_from t channel m xs k 0)) (λ xs n. refl)
      heard end before following) (λ xs n. refl) (λ xs. left_whole xs next)

  -- where no frame is known just now, there is no message
  pub pages_none : (xs : List Sample) (n : ℕ) → NoneNow (page_frames t channel m) n → pages_at t channel m xs n ≡ []
  unfolding pages_at
  pages_none xs n none = ap (flat_map (λ k. pages_from t channel m xs k 0)) (none_now frames n none)

  module _ (low : ℕ) (timed : IsTimed t.count (paging_stream t channel m) low) where
    ordered : AreOrdered (page_frames t channel m)
    ordered =
        frames_ordered (paging_stream t channel m) timed paging_bound
        (λ k n ends. let early = timed.early k in omega (arith, early, ends))

    -- what a frame completes that is known stays where more samples follow
    page_sooner : (i : ℕ) → Stays (page_frames t channel m) (λ xs k. page_at t channel m xs k i)
    unfolding page_at bits_up_to
    page_sooner i xs ys k inside known =
        let s = paging_stream t channel m in
        let own = own_bits_sooner s refl timed xs ys k inside known in
        let before = stays_at frames ordered (λ xs. paging_bits_before t.count xs s)
        (bits_before_sooner s refl timed) xs ys k inside known in
        rw (before, own) refl

    -- The pages that a frame gives from one of its bits on stay as they are where more samples
    -- follow: the frame's own bits do, and so does what each of them completes.
    pages_from_sooner : (from : ℕ) → Stays (page_frames t channel m) (λ xs k. pages_from t channel m xs k from)
    unfolding pages_from
    pages_from_sooner from xs ys k inside known =
        let s = paging_stream t channel m in
        let f : ℕ → List SpelledPage = λ i. option_to_list (page_at t channel m (xs ++ ys) k i) in
        let g : ℕ → List SpelledPage = λ i. option_to_list (page_at t channel m xs k i) in
        let own = frame_own_bits t.count xs s k in
        ap (λ (bits : List Bool). flat_map f (range_with_len from (length bits - from)))
        (own_bits_sooner s refl timed xs ys k inside known)
        ∙ flat_map_ext_range f g from (length own - from)
        (λ i least below. ap option_to_list (page_sooner i xs ys k inside known))

    pub pages_sooner : StaysWithin (pages_at t channel m)
    unfolding pages_at
    pages_sooner = stays_now frames (λ xs n k. pages_from t channel m xs k 0) (λ n. pages_from_sooner 0)

    -- The messages of a frame that is known just now are the first of those left: it is the first
    -- frame left, they begin at the place asked for, and each later frame gives all of its own.
    pub left_next : (heard : List Sample) (next place : ℕ) → (page_frames t channel m).inside next ≡ true →
        (page_frames t channel m).known next ≡ length heard → pages_left t channel m heard next place
        ≡ pages_from t channel m heard next place ++ pages_left t channel m heard (next + 1) 0
    unfolding pages_left
    left_next heard next place inside known =
        let n : ℕ = length heard in
        let pages : ℕ → ℕ → List SpelledPage = pages_from t channel m heard in
        let f : ℕ → List SpelledPage = λ k. pages k (if k == next then place else 0) in
        let here : f next ≡ pages next place = ap (λ b. pages next (if b then place else 0)) (eq-eqb next next refl) in
        let others = flat_map_ext_filter (is_left frames (next + 1) n) f (λ k. pages k 0) (places (paging_bound n))
        (λ k kept.
        let above = leb-true (next + 1) k (and_parts (nat_le (next + 1) k) (is_now frames n k) kept).0 in
        ap (λ b. pages k (if b then place else 0)) (ne_eqb k next (λ e. omega (arith, e, above)))) in
        ap (flat_map f) (next_left frames ordered next n inside known)
        ∙ joined here (others ∙ sym (left_whole heard (next + 1)))
