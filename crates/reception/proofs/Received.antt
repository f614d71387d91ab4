-- What a continued channel stands for, step by step, over any stream.
use Rattle.reception.proofs.Common.{◌≡◌, ℕ, zero, suc, ◌+◌, ◌-◌, ◌*◌, ◌≤◌, List, [], ◌++◌, length, length-append, take, drop, refl, sym, ap}
use Rattle.reception.proofs.Common.{◌∙◌, arith, true, ℤ, flat_map, drop_all, take_all, places-none, places, Sample, own_bits, symbols}
use Rattle.reception.proofs.Common.{IsDueAt, clock_from, first_frame, frame_come, clock_after_frame, span_from, AreNear, Receives, StreamOf}
use Rattle.reception.proofs.Common.{last_softs, flat_map-next, Channel, frame_softs, span_first, span_frames, Continued, length-drop}
use Rattle.reception.proofs.Common.{flat_map_ext_places}
use Rattle.rake_finger.specs.Streams.{span_softs}
use Rattle.reception.proofs.ClockSteps.{clock_new, clock_more, clock_come, clock_heard, span_bounds, span_is}
use Rattle.rake_finger.proofs.FrameTimes.{inside_from}
use Rattle.rake_finger.proofs.Spans.{frame_softs_sooner}
use Rattle.reception.proofs.SoftSums.{frames_fit, last_more, most_symbols}

-- of no frames nothing is kept
none_kept : (size : ℕ) (softs : List ℤ) (f : ℕ → List ℤ) → length softs ≡ 1152 →
    last_softs size 0 softs ≡ flat_map f (places 0)
none_kept size softs f long =
    let none : size * 0 ≡ 0 = omega arith in
    drop_all (1152 - size * 0) softs (omega (arith, long, none))
    ∙ sym (ap (flat_map f) places-none)

-- before any sample is taken
pub receives_new : {C : Type 0} (count : ℕ) (s : StreamOf C) (c : Continued) → s.waits ≡ true →
    AreNear s.fingers → c.fingers ≡ s.fingers → length c.softs ≡ 1152 →
    c.clock ≡ clock_from s.fingers s.form s.waits s.first (first_frame s.fingers s.first) → Receives count s c []
receives_new count s c waits near fingers long clock = record {
  waits = waits;
  clocked = rw clock (clock_new count s near);
  fingers_are = fingers;
  softs_are = λ m few h.
      let same : c.clock.low ≡ c.clock.have = rw clock refl in
      let z : m ≡ 0 = omega (arith, h, same) in
      rw z (none_kept (symbols s.form) c.softs _ long);
}

module _ {C : Type 0} {count : ℕ} {s : StreamOf C} {c : Continued} {heard : List Sample}
    (r : Receives count s c heard) where
  -- more samples, up to the end of the frame that comes next
  pub receives_more : (more : List Sample) → ¬ IsDueAt count c.clock →
      length heard + length more ≤ count → length heard + length more ≤ c.clock.end → Receives count s c (heard ++ more)
  receives_more more none within most =
      let is = r.clocked in
      let n : length (heard ++ more) ≡ length heard + length more = length-append heard more in
      record {
        waits = r.waits;
        clocked = clock_more is (length (heard ++ more)) none (omega (arith, n))
            (omega (arith, n, within)) (omega (arith, n, most));
        fingers_are = r.fingers_are;
        softs_are = λ m few h. r.softs_are m few h
            ∙ flat_map_ext_places (λ j. frame_softs heard s (c.clock.have - m + j))
            (λ j. frame_softs (heard ++ more) s (c.clock.have - m + j)) m
            (λ j below.
            let k : ℕ = c.clock.have - m + j in
            let low : c.clock.low ≤ k = omega (arith, h, below) in
            let ended = is.reached.ended k low (omega (arith, h, below)) in
            let inside = inside_from s is.timed k low (omega (arith, ended, is.reached.within)) in
            sym (frame_softs_sooner s is.timed heard more k inside (omega (arith, ended))));
      }

  -- After a frame's soft values came in, the last m frames' are those of the m frames up to this
  -- one: the m - 1 before it were the last ones that stood there, and it comes after them.
  shifted : (fresh : List ℤ) → fresh ≡ frame_softs heard s c.clock.have →
      length c.softs ≡ 1152 → length fresh ≡ symbols s.form → (m : ℕ) → m ≤ 3 → c.clock.low + m ≤ c.clock.have + 1 →
      last_softs (symbols s.form) m (drop (symbols s.form) c.softs ++ fresh)
      ≡ flat_map (λ j. frame_softs heard s (c.clock.have + 1 - m + j)) (places m)
  shifted fresh e long many zero few h =
      let size : ℕ = symbols s.form in
      let room = most_symbols s.form in
      let whole : length (drop size c.softs ++ fresh) ≡ 1152 =
      omega (arith, long, many, room, length-append (drop size c.softs) fresh, length-drop size c.softs) in
      none_kept size (drop size c.softs ++ fresh) _ whole
  shifted fresh e long many (suc m) few h =
      let size : ℕ = symbols s.form in
      let have : ℕ = c.clock.have in
      let room = frames_fit size (suc m) (most_symbols s.form) few in
      let had = r.softs_are m (omega (arith, few)) (omega (arith, h)) in
      let f : have + 1 - suc m ≡ have - m = omega arith in
      let last : have + 1 - suc m + m ≡ have = omega (arith, h) in
      let G : ℕ → List ℤ = λ j. frame_softs heard s (have + 1 - suc m + j) in
      let F : ℕ → List ℤ = λ j. frame_softs heard s (have - m + j) in
      let front : flat_map G (places m) ≡ flat_map F (places m) =
      ap (λ n. flat_map (λ j. frame_softs heard s (n + j)) (places m)) f in
      let following : G m ≡ fresh = ap (frame_softs heard s) last ∙ sym e in
      let all : flat_map G (places (suc m)) ≡ flat_map F (places m) ++ fresh =
      flat_map-next G m ∙ rw (front, following) refl in
      last_more size m c.softs fresh long (omega (arith, room))
      ∙ ap (λ (xs : List ℤ). xs ++ fresh) had
      ∙ sym all

  -- one frame's soft values more
  pub receives_frame : (fresh : List ℤ) → ¬ IsDueAt count c.clock → c.clock.end ≡ length heard →
      fresh ≡ frame_softs heard s c.clock.have → length c.softs ≡ 1152 → length fresh ≡ symbols s.form →
      Receives count s
      (record c { clock = frame_come c.clock; softs = drop (symbols s.form) c.softs ++ fresh }) heard
  receives_frame fresh none ended e long many = record {
    waits = r.waits;
    clocked = clock_come r.clocked none ended;
    fingers_are = r.fingers_are;
    softs_are = shifted fresh e long many;
  }

  -- one frame more has been heard
  pub receives_heard : IsDueAt count c.clock →
      Receives count s (record c { clock = clock_after_frame c.clock }) heard
  receives_heard d = record {
    waits = r.waits;
    clocked = clock_heard r.clocked d;
    fingers_are = r.fingers_are;
    softs_are = r.softs_are;
  }

module _ {count : ℕ} {s : StreamOf Channel} {c : Continued} {heard : List Sample}
    (r : Receives count s c heard) where
  -- the own bits of the frame that is due, as the code cuts its span out
  pub own_bits_are : IsDueAt count c.clock → (frames own kept : ℕ) →
      frames ≡ c.clock.have - span_from c.clock → own ≡ c.clock.next - span_from c.clock →
      kept ≡ symbols s.form * frames → length c.softs ≡ 1152 → own_bits s.channel frames own
      (take (1152 - (1152 - kept)) (drop (1152 - kept) c.softs))
      ≡ own_bits s.channel (span_frames count s c.clock.next)
      (c.clock.next - span_first count s c.clock.next) (span_softs count heard s c.clock.next)
  own_bits_are d frames own kept frames_is own_is kept_is long =
      let is = r.clocked.reached in
      let e = span_is r.clocked r.waits d in
      let first : ℕ = span_from c.clock in
      let order = d.0 in
      let bounds = span_bounds c.clock order in
      let low = bounds.2 is.low_next in
      let had = r.softs_are (c.clock.have - first) (omega (arith, bounds.1, is.have_most))
      (omega (arith, low, order, bounds.0)) in
      let back : c.clock.have - (c.clock.have - first) ≡ first = omega (arith, bounds.0, order) in
      let rest : List ℤ = drop (1152 - kept) c.softs in
      let all : take (1152 - (1152 - kept)) rest ≡ rest =
      take_all (1152 - (1152 - kept)) rest (omega (arith, length-drop (1152 - kept) c.softs, long)) in
      ap (own_bits s.channel frames own) all
      ∙ rw (kept_is, own_is, frames_is, had, back, e.1, e.0) refl
