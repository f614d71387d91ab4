-- The frames of a channel after the mark, as they are given one by one.
use Rattle.tuned_listener.proofs.Common.{has_power_control, ChannelReceiver, channel_ordered, channel_stream, length-append, frames_within}
use Rattle.tuned_listener.proofs.Common.{frames_sooner, frame_passed, PowerControl, paging_bound, frame_chips, first_frame, unscrambled, []}
use Rattle.tuned_listener.proofs.Common.{soft_frames, outside_low, map-append, scrambling, clock_from, frame_come, soft_frame, is_in_file}
use Rattle.tuned_listener.proofs.Common.{stream_end, FrameClock, SoftFrame, frames_in, state_at, HasGiven, power_of, known_is, mask_of, ◌≡◌}
use Rattle.tuned_listener.proofs.Common.{IsDueAt, AreNear, CodeChannel, filter, length, Option, places, Sample, Tuning, false, arith, after}
use Rattle.tuned_listener.proofs.Common.{ap}
use Rattle.tuned_listener.proofs.Common.{softs, true, List, ◌++◌, refl, IsAt, Data, Mark, ◌+◌, ◌*◌, ◌<◌, ◌≤◌, ◌∷◌, map, sym, ◌∙◌, ℕ, ℤ}
use Rattle.reception.proofs.ClockSteps.{before_next, clock_come, clock_heard, clock_more, clock_new, due_inside, from_next}
use Rattle.chip_core.proofs.Ranges as ranges

module _ {t : Tuning} {channel : CodeChannel} {m : Mark} {r : ChannelReceiver} {n : ℕ}
    (has : HasGiven t channel m r n) where
  -- what is received of the frame that comes next
  pub frame_is : (samples : List Sample) (raw turned : List ℤ) (power : Option PowerControl) →
      raw ≡ softs samples r.frames.fingers Data r.frames.clock.start → turned
      ≡ unscrambled
      (scrambling (after r.frames.scrambling.state (24576 * r.frames.clock.have)) r.frames.scrambling.mask) raw →
      power ≡ power_of channel m r.frames.clock.have raw →
      (record { number = r.frames.clock.have; end = r.frames.clock.end; descrambled = turned; power = power })
      ≡ soft_frame t channel m samples r.frames.clock.have
  unfolding stream_end
  frame_is samples raw turned power raw_is turned_is power_is =
      rw (
        turned_is,
        power_is,
        raw_is,
        has.clocked.end_is,
        has.clocked.start_is,
        has.fingers_are,
        has.state_is r.frames.clock.have,
        has.mask_is,
      ) refl

  -- where the clock shows another place, it has given the frames before that
  at_clock : (k : FrameClock) (n' : ℕ) → IsAt t.count (channel_stream t channel m) k n' →
      HasGiven t channel m (record r { frames = record r.frames { clock = k } }) n'
  at_clock k n' clocked = record {
    clocked = clocked;
    fingers_are = has.fingers_are;
    state_is = has.state_is;
    mask_is = has.mask_is;
    power_is = has.power_is;
  }

-- ONE FRAME AFTER ANOTHER
module _ {t : Tuning} {channel : CodeChannel} {m : Mark} {r : ChannelReceiver} {n : ℕ}
    (has : HasGiven t channel m r n) (given : r.frames.clock.have ≡ r.frames.clock.next) where
  none_due : ¬ IsDueAt t.count r.frames.clock
  none_due d = omega (arith, d.0, given)

  -- if the next frame ends later, the frames that end within n samples are those before it
  all_given : (samples : List Sample) → n < r.frames.clock.end → frames_within t channel m samples n
      ≡ map (soft_frame t channel m samples)
      (filter (is_in_file t.count (channel_stream t channel m)) (places r.frames.clock.next))
  unfolding frames_within
  all_given samples waits =
      let is = has.clocked in
      ap (map (soft_frame t channel m samples))
      (known_is (frames_in t.count (channel_stream t channel m) paging_bound)
      (channel_ordered t channel m is.timed) n r.frames.clock.next (before_next is)
      (from_next is (n + 1) none_due (omega (arith, waits))))

  -- none before the first ends
  pub none_within : r.frames.clock.next ≡ r.frames.clock.low → n < r.frames.clock.end →
      (samples : List Sample) → frames_within t channel m samples n ≡ []
  none_within first waits samples =
      let s = channel_stream t channel m in
      all_given samples waits
      ∙ ap (map (soft_frame t channel m samples))
      (ranges.filter_none_places (is_in_file t.count s) r.frames.clock.next
      (λ k below. outside_low s has.clocked.timed k (omega (arith, below, first))))

  -- n' samples instead of n, up to the end of the next frame
  given_more : (n' : ℕ) → n ≤ n' → n' ≤ t.count → n' ≤ r.frames.clock.end → HasGiven t channel m r n'
  given_more n' more most ends = at_clock has r.frames.clock n' (clock_more has.clocked n' none_due more most ends)

  come_due : IsDueAt t.count (frame_come r.frames.clock)
  come_due = (
    omega (arith, given),
    λ w.
        let same : true ≡ false = sym w ∙ has.clocked.waits_is in
        absurd (cc),
  )

  come : r.frames.clock.end ≡ n → IsAt t.count (channel_stream t channel m) (frame_come r.frames.clock) n
  come ended = clock_come has.clocked none_due ended

  -- the next frame has ended, and is given
  frame_given : r.frames.clock.end ≡ n → HasGiven t channel m (frame_passed r) n
  frame_given ended = at_clock has _ n (clock_heard (come ended) come_due)

  here_inside : r.frames.clock.end ≡ n → is_in_file t.count (channel_stream t channel m) r.frames.clock.next ≡ true
  here_inside ended = due_inside (come ended) come_due

-- BEFORE ANY FRAME ENDS
pub none_given : (t : Tuning) (channel : CodeChannel) (m : Mark) (r : ChannelReceiver) (taken : ℕ) →
    AreNear (channel_stream t channel m).fingers → r.frames.clock
    ≡ clock_from (channel_stream t channel m).fingers Data false (channel_stream t channel m).first
    (first_frame (channel_stream t channel m).fingers (channel_stream t channel m).first) →
    r.frames.fingers ≡ (channel_stream t channel m).fingers →
    ((k : ℕ) → after r.frames.scrambling.state (24576 * k) ≡ state_at channel m k) →
    r.frames.scrambling.mask ≡ mask_of channel m → r.power ≡ has_power_control channel →
    taken ≤ t.count → taken ≤ r.frames.clock.end → HasGiven t channel m r taken
none_given t channel m r taken near clock fingers state mask power within most =
    let s = channel_stream t channel m in
    let same : r.frames.clock.next ≡ r.frames.clock.have = rw clock refl in
    let new : IsAt t.count s r.frames.clock 0 = rw clock (clock_new t.count s near) in
    record {
      clocked = clock_more new taken (λ d. omega (arith, same, d.0)) (omega arith) within most;
      fingers_are = fingers;
      state_is = state;
      mask_is = mask;
      power_is = power;
    }

-- A STEP
module _ {t : Tuning} {channel : CodeChannel} {m : Mark} {r : ChannelReceiver} (heard more : List Sample)
    (has : HasGiven t channel m r (length heard)) (given : r.frames.clock.have ≡ r.frames.clock.next)
    (most : length heard + length more ≤ t.count) (waits : length heard < r.frames.clock.end) where
  long : length (heard ++ more) ≡ length heard + length more
  long = length-append heard more

  -- the frames given before stay
  given_sooner : map (soft_frame t channel m (heard ++ more))
      (filter (is_in_file t.count (channel_stream t channel m)) (places r.frames.clock.next))
      ≡ soft_frames t channel m heard
  given_sooner =
      sym (all_given has given (heard ++ more) waits)
      ∙ frames_sooner t channel m heard more (length heard) (omega arith)

  on : length heard + length more ≤ r.frames.clock.end → HasGiven t channel m r (length (heard ++ more))
  on ends =
      given_more has given (length (heard ++ more)) (omega (arith, long)) (omega (arith, long, most))
      (omega (arith, long, ends))

  -- without a frame
  pub step_none : length heard + length more < r.frames.clock.end → HasGiven t channel m r (length (heard ++ more))
      × (soft_frames t channel m (heard ++ more) ≡ soft_frames t channel m heard)
  step_none later =
      let following = on (omega (arith, later)) in
      (following, all_given following given (heard ++ more) (omega (arith, long, later)) ∙ given_sooner)

  -- with the frame that ends there
  pub step_frame : length heard + length more ≡ r.frames.clock.end → HasGiven t channel m r (length (heard ++ more))
      × HasGiven t channel m (frame_passed r) (length (heard ++ more))
      × (soft_frames t channel m (heard ++ more)
      ≡ soft_frames t channel m heard ++ soft_frame t channel m (heard ++ more) r.frames.clock.have ∷ [])
  step_frame ended =
      let inside = is_in_file t.count (channel_stream t channel m) in
      let next : ℕ = r.frames.clock.next in
      let frame : ℕ → SoftFrame = soft_frame t channel m (heard ++ more) in
      let here : r.frames.clock.end ≡ length (heard ++ more) = sym (long ∙ ended) in
      let all = on (omega (arith, ended)) in
      let following = frame_given all given here in
      let some = has.clocked.timed.some in
      let chips = ap frame_chips has.clocked.form_is in
      let later : length (heard ++ more) < r.frames.clock.end + frame_chips r.frames.clock.form =
      omega (arith, some, chips, here) in (
        all,
        following,
        all_given following (ap (λ (k : ℕ). k + 1) given) (heard ++ more) later
            ∙ ap (map frame) (ranges.filter-places-more inside next (here_inside all given here))
            ∙ map-append frame (filter inside (places next)) (next ∷ [])
            ∙ ap (λ (fs : List SoftFrame). fs ++ frame next ∷ []) given_sooner
            ∙ ap (λ (k : ℕ). soft_frames t channel m heard ++ frame k ∷ []) (sym given),
      )
