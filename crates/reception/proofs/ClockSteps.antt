-- What the clock of a channel's frames stands for, step by step, over any stream.
use Rattle.reception.proofs.Common.{◌≡◌, ℕ, ◌+◌, ◌-◌, ◌*◌, ◌<◌, ◌≤◌, true, refl, sym, ap, ◌∙◌, arith, ◌⊎◌, inl, inr, nat_lt, false, lt-ltb}
use Rattle.reception.proofs.Common.{cases_Bool, cases_lt, le-ltb, frame_chips, Form, Sync, Data, IsAt, IsDueAt, clock_from, first_frame}
use Rattle.reception.proofs.Common.{frame_come, clock_after_frame, span_from, AreNear, StreamOf, frame_start, is_in_file, known_at, Bool}
use Rattle.reception.proofs.Common.{span_first, span_frames, stream_end, FrameClock, List, if◌then◌else◌, Finger, all_begun, frame_end}
use Rattle.reception.proofs.Common.{start_step, timed_in, ends_bounds, times_one}
use Rattle.rake_finger.proofs.FrameTimes.{ends_le, ends_lt, inside_from, inside_to, known_between, known_le, known_more, known_parts}
use Rattle.rake_finger.proofs.Spans as spans

-- a span begins with the frame before, where that is in the file
abbrev BeginsSpan : FrameClock → ℕ → Type 0
BeginsSpan c first = ((c.low < c.next) × (first + 1 ≡ c.next)) ⊎ ((c.next ≤ c.low) × (first ≡ c.next))

begins_span : (c : FrameClock) → BeginsSpan c (span_from c)
begins_span c =
    elim (cases_lt c.low c.next) [
      | inl less ↦
          let e : nat_lt c.low c.next ≡ true = lt-ltb c.low c.next less in
          inl (less, rw e (omega arith))
      | inr more ↦
          let e : nat_lt c.low c.next ≡ false = le-ltb c.low c.next more in
          inr (more, rw e refl)
    ]

-- where it begins, on the way from its first frame to the one that comes next
pub span_bounds : (c : FrameClock) → c.next < c.have →
    (span_from c ≤ c.next) × (c.next ≤ span_from c + 1) × (c.low ≤ c.next → c.low ≤ span_from c)
span_bounds c come =
    elim (begins_span c) [
      | inl a ↦ (omega (arith, a.1), omega (arith, a.1), λ h. omega (arith, a.0, a.1))
      | inr b ↦ (omega (arith, b.1), omega (arith, b.1), λ h. omega (arith, b.1, h))
    ]

-- before any sample is taken
pub clock_new : {C : Type 0} (count : ℕ) (s : StreamOf C) → AreNear s.fingers →
    IsAt count s (clock_from s.fingers s.form s.waits s.first (first_frame s.fingers s.first)) 0
unfolding stream_end
clock_new count s near = record {
  timed = timed_in count s near;
  reached = record {
    low_next = omega arith;
    next_have = omega arith;
    have_most = omega arith;
    within = omega arith;
    ended = λ k a b. absurd (omega (arith, a, b));
    following = omega arith;
    begun = λ w e. inl refl;
    late = λ h. omega arith;
  };
  form_is = refl;
  waits_is = refl;
  start_is = refl;
  end_is = refl;
}

starts_before : (form : Form) (first have frame : ℕ) → frame ≤ have →
    first + frame_chips form * have - frame_chips form * (have - frame) ≡ first + frame_chips form * frame
starts_before Sync first have frame h = omega arith
starts_before Data first have frame h = omega arith

module _ {C : Type 0} {count : ℕ} {s : StreamOf C} {c : FrameClock} {n : ℕ} (is : IsAt count s c n) where
  -- a frame that is due is known just now
  pub due_inside : IsDueAt count c → is_in_file count s c.next ≡ true
  due_inside d =
      let r = is.reached in
      let ended = r.ended c.next r.low_next d.0 in
      inside_from s is.timed c.next r.low_next (omega (arith, ended, r.within))

  -- A frame that is due is known just now: it has ended, and so has the frame that it waits for,
  -- while the clock is never later than the next frame is known. Where the frame after it hasn't
  -- come it ends after the file, and then nothing waits for it.
  pub due_known : IsDueAt count c → known_at count s c.next ≡ n
  due_known d =
      let r = is.reached in
      let late = r.late (due_inside d) in
      let ended = r.ended c.next r.low_next d.0 in
      elim (known_parts s is.timed c.next r.low_next) [
        | inl own ↦ omega (arith, own, late, ended)
        | inr parts ↦
            elim (cases_lt (c.next + 1) c.have) [
              | inl less ↦
                  let following = r.ended (c.next + 1) (omega (arith, r.low_next)) less in
                  omega (arith, parts.2, late, following)
              | inr more ↦
                  let same : c.have ≡ c.next + 1 = omega (arith, more, d.0) in
                  let end = is.end_is ∙ ap (stream_end s) same in
                  elim (d.1 (is.waits_is ∙ parts.0)) [
                    | inl less ↦ absurd (omega (arith, less, more))
                    | inr over ↦ absurd (omega (arith, over, end, parts.1))
                  ]
            ]
      ]

  -- frames before the next one have been known
  pub before_next : (k : ℕ) → k < c.next → is_in_file count s k ≡ true → known_at count s k ≤ n
  before_next k below inside =
      let r = is.reached in
      let i = inside_to s is.timed k inside in
      elim (known_parts s is.timed k i.0) [
        | inl own ↦
            let ended = r.ended k i.0 (omega (arith, below, r.next_have)) in omega (arith, own, ended)
        | inr parts ↦
            elim (cases_lt (k + 1) c.have) [
              | inl less ↦
                  let ended = r.ended (k + 1) (omega (arith, i.0)) less in
                  omega (arith, parts.2, ended)
              | inr more ↦
                  let last : c.have ≡ k + 1 = omega (arith, more, below, r.next_have) in
                  elim (r.begun parts.0 (omega (arith, more, below, r.next_have))) [
                    | inl none ↦ absurd (omega (arith, none, last, i.0))
                    | inr over ↦
                        let end = ap (stream_end s) last in
                        absurd (omega (arith, over, end, parts.1))
                  ]
            ]
      ]

  -- where the next frame has ended and isn't due it waits for the one after, which is in the file
  waiting : ¬ IsDueAt count c → c.next < c.have → (s.waits ≡ true) × (c.have ≤ c.next + 1) × (c.end ≤ count)
  waiting none less =
      elim (cases_Bool s.waits) [
        | inl waits ↦
            elim (cases_lt (c.next + 1) c.have) [
              | inl two ↦ absurd (none (less, λ w. inl two))
              | inr one ↦
                  elim (cases_lt count c.end) [
                    | inl over ↦ absurd (none (less, λ w. inr over))
                    | inr fits ↦ (waits, one, fits)
                  ]
            ]
        | inr gone ↦
            absurd (none (
              less,
              λ w.
                  let same : true ≡ false = sym w ∙ is.waits_is ∙ gone in
                  absurd (cc),
            ))
      ]

  -- where it isn't due, those from it on are known when the frame ends that comes next, or later
  pub from_next : (m : ℕ) → ¬ IsDueAt count c → m ≤ c.end →
      (k : ℕ) → c.next ≤ k → is_in_file count s k ≡ true → m ≤ known_at count s k
  from_next m none most k low inside =
      let r = is.reached in
      elim (cases_lt c.next c.have) [
        | inl less ↦
            let fits = waiting none less in
            let same : c.have ≡ c.next + 1 = omega (arith, less, fits.1) in
            let end = is.end_is ∙ ap (stream_end s) same in
            let sooner = ends_lt s is.timed c.next (c.next + 1) (omega arith) in
            let first = inside_from s is.timed c.next r.low_next (omega (arith, sooner, end, fits.2)) in
            let known = known_more s is.timed c.next fits.0 r.low_next (omega (arith, end, fits.2)) in
            let later = known_le s is.timed c.next k first inside low in
            omega (arith, most, end, known, later)
        | inr more ↦
            let same : c.have ≡ c.next = omega (arith, more, r.next_have) in
            let end = is.end_is ∙ ap (stream_end s) same in
            let at : c.next + (k - c.next) ≡ k = omega (arith, low) in
            let later = rw at at (ends_le s is.timed c.next (k - c.next)) in
            let between = known_between s is.timed k inside in
            omega (arith, most, end, later, between.low)
      ]

  -- more samples, up to the end of the frame that comes next
  pub clock_more : (m : ℕ) → ¬ IsDueAt count c → n ≤ m → m ≤ count → m ≤ c.end → IsAt count s c m
  clock_more m none more most ends =
      let r = is.reached in
      let end = is.end_is in
      record {
        timed = is.timed;
        reached = record {
          low_next = r.low_next;
          next_have = r.next_have;
          have_most = r.have_most;
          within = most;
          ended = λ k a b. let ended = r.ended k a b in omega (arith, ended, more);
          following = omega (arith, ends, end);
          begun = r.begun;
          late = λ h. from_next m none ends c.next (omega arith) h;
        };
        form_is = is.form_is;
        waits_is = is.waits_is;
        start_is = is.start_is;
        end_is = is.end_is;
      }

  -- one frame more has come
  pub clock_come : ¬ IsDueAt count c → c.end ≡ n → IsAt count s (frame_come c) n
  clock_come none ended =
      let r = is.reached in
      let start = is.start_is in
      let end = is.end_is in
      let next = start_step s.form s.first c.have in
      let step = is.timed.step c.have in
      let some = is.timed.some in
      let chips : frame_chips c.form ≡ frame_chips s.form = ap frame_chips is.form_is in
      let near : c.have ≤ c.next + 1 =
      elim (cases_lt (c.next + 1) c.have) [
        | inl a ↦ absurd (none (omega (arith, a), λ w. inl a))
        | inr b ↦ b
      ] in
      record {
        timed = is.timed;
        reached = record {
          low_next = r.low_next;
          next_have = omega (arith, r.next_have);
          have_most = omega (arith, near);
          within = r.within;
          ended =
              λ k a b.
              elim (cases_lt k c.have) [
                | inl less ↦ r.ended k a less
                | inr more ↦
                    let same : k ≡ c.have = omega (arith, b, more) in
                    rw same (omega (arith, end, ended))
              ];
          following = omega (arith, step, some, end, ended);
          begun = λ w same. absurd (omega (arith, same, r.next_have));
          late = r.late;
        };
        form_is = is.form_is;
        waits_is = is.waits_is;
        start_is = omega (arith, start, chips, next);
        end_is = omega (arith, end, chips, step);
      }

  -- one frame more has been heard
  pub clock_heard : IsDueAt count c → IsAt count s (clock_after_frame c) n
  clock_heard d =
      let r = is.reached in
      let known = due_known d in
      let inside = due_inside d in
      record {
        timed = is.timed;
        reached = record {
          low_next = omega (arith, r.low_next);
          next_have = omega (arith, d.0);
          have_most = omega (arith, r.have_most);
          within = r.within;
          ended = r.ended;
          following = r.following;
          begun =
              λ w same.
              elim (d.1 (is.waits_is ∙ w)) [
                | inl less ↦ absurd (omega (arith, less, same))
                | inr over ↦ inr (rw (← is.end_is) over)
              ];
          late = λ h.
              let le = known_le s is.timed c.next (c.next + 1) inside h (omega arith) in
              omega (arith, le, known);
        };
        form_is = is.form_is;
        waits_is = is.waits_is;
        start_is = is.start_is;
        end_is = is.end_is;
      }

  -- where a frame began that has come
  pub start_before : (frame : ℕ) → frame ≤ c.have →
      c.start - frame_chips c.form * (c.have - frame) ≡ frame_start s frame
  start_before frame h = rw (is.start_is, is.form_is) (starts_before s.form s.first c.have frame h)

  -- the span of a frame that is due
  pub span_is : s.waits ≡ true → IsDueAt count c → (span_from c ≡ span_first count s c.next)
      × (c.have - span_from c ≡ span_frames count s c.next)
  span_is waits d =
      let first : ℕ = span_from c in
      let r = is.reached in
      let inside = due_inside d in
      let is_first : first ≡ span_first count s c.next =
      elim (begins_span c) [
        | inl a ↦
            let f = spans.span_first_more s is.timed c.next a.0 inside in omega (arith, f, a.1)
        | inr b ↦
            let same : c.next ≡ c.low = omega (arith, b.0, r.low_next) in
            let f = spans.span_first_low s is.timed c.next same in
            omega (arith, f, b.1)
      ] in
      let with_next : c.next + 1 < c.have → c.have - first ≡ span_frames count s c.next = λ a.
      let two : c.have ≡ c.next + 2 = omega (arith, a, r.have_most) in
      let ended = r.ended (c.next + 1) (omega (arith, r.low_next)) a in
      let within = r.within in
      let f = spans.span_frames_more s is.timed c.next r.low_next (omega (arith, ended, within)) in
      rw (two, is_first) (sym f) in
      let without_next : c.have ≤ c.next + 1 → count < c.end →
      c.have - first ≡ span_frames count s c.next = λ a over.
      let one : c.have ≡ c.next + 1 = omega (arith, a, d.0) in
      let end = is.end_is ∙ ap (stream_end s) one in
      let f = spans.span_frames_last s is.timed c.next (omega (arith, over, end)) in
      rw (one, is_first) (sym f) in (
        is_first,
        elim (d.1 (is.waits_is ∙ waits)) [
          | inl a ↦ with_next a
          | inr over ↦
              elim (cases_lt (c.next + 1) c.have) [
                | inl a ↦ with_next a
                | inr b ↦ without_next b over
              ]
        ],
      )

-- THE FIRST FRAME IN THE FILE
one_most : (b : Bool) → (if b then 0 else 1) ≤ 1
one_most true = omega arith
one_most false = omega arith

-- it ends early
pub first_end : (form : Form) (first : ℕ) (fingers : List Finger) → AreNear fingers →
    frame_end fingers form (first + frame_chips form * first_frame fingers first) ≤ first + 2 * frame_chips form + 128
first_end form first fingers near =
    let frame : ℕ = first_frame fingers first in
    let bounds = ends_bounds form (first + frame_chips form * frame) fingers near in
    let moved = times_one (frame_chips form) frame (one_most (all_begun first fingers)) in
    omega (arith, bounds.1, moved)
