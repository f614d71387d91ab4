-- Where a frame's span begins and ends, and what is read of it, over any stream.
use Rattle.rake_finger.proofs.Common.{◌≡◌, ℕ, zero, suc, ◌+◌, ◌-◌, ◌<◌, ◌≤◌, true, List, ◌++◌, length, refl, sym, ap, arith, inl, inr}
use Rattle.rake_finger.proofs.Common.{cases_Bool, cases_lt, cases_order, Sample, unscrambled, StreamOf, frame_start, is_in_file, known_at}
use Rattle.rake_finger.proofs.Common.{span_first, span_frames, frame_softs, span_softs, stream_end, IsTimed, flat_map_ext_places}
use Rattle.rake_finger.proofs.Sooner.{softs_sooner, all_fit}
use Rattle.rake_finger.proofs.FrameTimes as times

-- a frame lies in its span, which begins no later
module _ {C : Type 0} (count : ℕ) (s : StreamOf C) where
  span_first_most : (k : ℕ) → span_first count s k ≤ k
  span_first_most zero = omega arith
  span_first_most (suc k) =
      elim (cases_Bool (is_in_file count s k)) [
        | inl e ↦ rw e (omega arith)
        | inr e ↦ rw e (omega arith)
      ]

  pub own_below : (k : ℕ) → k - span_first count s k < span_frames count s k
  own_below k =
      let most = span_first_most k in
      elim (cases_Bool (is_in_file count s (k + 1))) [
        | inl e ↦ rw e (omega (arith, most))
        | inr e ↦ rw e (omega (arith, most))
      ]

module _ {C : Type 0} {count low : ℕ} (s : StreamOf C) (t : IsTimed count s low) where
  pub span_first_low : (k : ℕ) → k ≡ low → span_first count s k ≡ k
  span_first_low zero h = refl
  span_first_low (suc k) h = let e = times.outside_low s t k (omega arith) in rw e refl

  pub span_first_more : (k : ℕ) → low < k → is_in_file count s k ≡ true → span_first count s k + 1 ≡ k
  span_first_more zero l h = absurd (omega arith)
  span_first_more (suc k) l h =
      let i = times.inside_to s t (suc k) h in
      let lt = times.ends_lt s t k (suc k) (omega arith) in
      let e = times.inside_from s t k (omega arith) (omega arith) in
      rw e (omega arith)

  pub span_frames_more : (k : ℕ) → low ≤ k → stream_end s (k + 1) ≤ count →
      span_frames count s k ≡ k + 2 - span_first count s k
  span_frames_more k l h =
      let e = times.inside_from s t (k + 1) (omega arith) h in
      rw e refl

  pub span_frames_last : (k : ℕ) → count < stream_end s (k + 1) → span_frames count s k ≡ k + 1 - span_first count s k
  span_frames_last k h = let e = times.outside_from s t (k + 1) h in rw e refl

  span_first_between : (k : ℕ) → is_in_file count s k ≡ true → (low ≤ span_first count s k) × (span_first count s k ≤ k)
  span_first_between k h =
      let i = times.inside_to s t k h in
      elim (cases_order low k) [
        | inl e ↦
            let f = span_first_low k (sym e) in
            (omega (arith, f), omega (arith, f))
        | inr (inl less) ↦
            let f = span_first_more k less h in
            (omega (arith, f), omega (arith, f))
        | inr (inr more) ↦ absurd (omega arith)
      ]

  -- each of a span's frames has ended when the frame is known
  span_ends : (k first frames j : ℕ) → s.waits ≡ true → is_in_file count s k ≡ true →
      first ≡ span_first count s k → frames ≡ span_frames count s k → first ≤ k → j < frames →
      stream_end s (first + j) ≤ known_at count s k
  span_ends k first frames j waits h f fs within l =
      let i = times.inside_to s t k h in
      elim (cases_lt count (stream_end s (k + 1))) [
        | inl less ↦
            let e = times.known_last s t k less in
            let n = span_frames_last k less in
            let le : first + j + (k - (first + j)) ≡ k = omega arith in
            let more = times.ends_le s t (first + j) (k - (first + j)) in
            rw e (omega (arith, rw le at more))
        | inr more ↦
            let e = times.known_more s t k waits i.0 more in
            let n = span_frames_more k i.0 more in
            let le : first + j + (k + 1 - (first + j)) ≡ k + 1 = omega arith in
            let more = times.ends_le s t (first + j) (k + 1 - (first + j)) in
            rw e (omega (arith, rw le at more))
      ]

  -- what is read of a frame that has ended, or is known, stays where more samples follow
  pub frame_softs_sooner : (xs ys : List Sample) (k : ℕ) → is_in_file count s k ≡ true →
      stream_end s k ≤ length xs → frame_softs (xs ++ ys) s k ≡ frame_softs xs s k
  unfolding stream_end
  frame_softs_sooner xs ys k h ends =
      let u = frame_start s k in
      ap (unscrambled (s.scrambling k))
      (softs_sooner xs ys s.fingers s.form u (all_fit count (length xs) s.fingers s.form u h ends))

  -- What is read of a span stays where more samples follow its last frame's known time: each of the
  -- span's frames is in the file and has ended by then, so its soft values are made of samples that
  -- were there.
  pub span_softs_sooner : (xs ys : List Sample) (k : ℕ) → s.waits ≡ true →
      is_in_file count s k ≡ true → known_at count s k ≤ length xs →
      span_softs count (xs ++ ys) s k ≡ span_softs count xs s k
  span_softs_sooner xs ys k waits h known =
      let first = span_first count s k in
      let frames = span_frames count s k in
      let between = span_first_between k h in
      let most = times.known_between s t k h in
      flat_map_ext_places (λ j. frame_softs (xs ++ ys) s (first + j)) (λ j. frame_softs xs s (first + j)) frames
      (λ j below.
      let ends = span_ends k first frames j waits h refl refl between.1 (omega arith) in
      let low' : low ≤ first + j = omega arith in
      let inside = times.inside_from s t (first + j) low' (omega (arith, most.most)) in
      frame_softs_sooner xs ys (first + j) inside (omega arith))
