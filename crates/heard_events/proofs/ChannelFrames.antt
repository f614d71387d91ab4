-- The frames of a channel after the mark, before they are decoded.
use Rattle.heard_events.proofs.Common.{◌≡◌, ℕ, ◌+◌, ◌*◌, ◌≤◌, true, List, ◌++◌, length, refl, ap, arith, Sample, channel_stream, offset_of}
use Rattle.heard_events.proofs.Common.{paging_bound, frames_within, soft_frame, frame_start, is_in_file, known_at, IsTimed, stream_end}
use Rattle.heard_events.proofs.Common.{Tuning, CodeChannel, Paging, Mark, AgreeIn, start_of, soft_frame_of, all_fit, softs_sooner}
use Rattle.heard_events.proofs.Common.{softs_same}
use Rattle.heard_events.specs.declared.channel.CodeChannel.TheVariants.{Traffic}
use Rattle.heard_events.proofs.Arrivals.{AreOrdered, frames_in, frames_ordered, by_parts, is_by}
use Rattle.chip_core.proofs.Ranges as ranges

-- frame 0 begins at the channel's offset after the mark
pub first_by : (channel : CodeChannel) (m : Mark) → m.sample + offset_of channel ≡ start_of channel m
first_by (Paging number) m = omega arith
first_by (Traffic traffic) m = refl

module _ (t : Tuning) (channel : CodeChannel) (m : Mark) where
  -- a frame is known at its own end
  pub own_end : (k : ℕ) → known_at t.count (channel_stream t channel m) k ≡ stream_end (channel_stream t channel m) k
  unfolding stream_end
  own_end k = refl

  -- each is known no later than those after it
  pub channel_ordered : {low : ℕ} → IsTimed t.count (channel_stream t channel m) low →
      AreOrdered (frames_in t.count (channel_stream t channel m) paging_bound)
  channel_ordered timed =
      let s = channel_stream t channel m in
      frames_ordered s timed paging_bound
      (λ k n ends.
      let early : 24576 * (k + 1) ≤ stream_end s k = timed.early k in
      omega (arith, early, ends))

  -- what is received of a frame stays where more samples follow
  pub frame_sooner : (xs ys : List Sample) (k : ℕ) → is_in_file t.count (channel_stream t channel m) k ≡ true →
      stream_end (channel_stream t channel m) k ≤ length xs →
      soft_frame t channel m (xs ++ ys) k ≡ soft_frame t channel m xs k
  unfolding stream_end
  frame_sooner xs ys k inside ends =
      let s = channel_stream t channel m in
      let u : ℕ = frame_start s k in
      ap (soft_frame_of t channel m k)
      (softs_sooner xs ys s.fingers s.form u (all_fit t.count (length xs) s.fingers s.form u inside ends))

  -- and so do the frames that end within some samples
  pub frames_sooner : (xs ys : List Sample) (n : ℕ) → n ≤ length xs →
      frames_within t channel m (xs ++ ys) n ≡ frames_within t channel m xs n
  unfolding frames_within
  frames_sooner xs ys n h =
      let frames = frames_in t.count (channel_stream t channel m) paging_bound in
      ranges.map_ext_filter_places (is_by frames n) (soft_frame t channel m (xs ++ ys))
      (soft_frame t channel m xs) (paging_bound n)
      (λ k below kept.
      let parts = by_parts frames n k kept in
      let own = own_end k in
      frame_sooner xs ys k parts.0 (omega (arith, parts.1, own, h)))

-- what is received of a frame is the same in two files that agree in its samples
pub frame_same : (t : Tuning) (channel : CodeChannel) (m : Mark) (one other : List Sample) (k : ℕ) →
    AgreeIn one other (channel_stream t channel m).form
    (frame_start (channel_stream t channel m) k) (channel_stream t channel m).fingers →
    soft_frame t channel m one k ≡ soft_frame t channel m other k
frame_same t channel m one other k same =
    let s = channel_stream t channel m in
    ap (soft_frame_of t channel m k) (softs_same one other s.fingers s.form (frame_start s k) same)
