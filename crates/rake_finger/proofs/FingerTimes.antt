-- Where the fingers' frames begin and end.
use Rattle.rake_finger.proofs.Common.{◌≡◌, ℕ, zero, suc, ◌+◌, ◌*◌, ◌≤◌, Bool, true, false, cond, ◌&&◌, List, [], ◌∷◌, refl, sym, ap, ◌∙◌, ℤ}
use Rattle.rake_finger.proofs.Common.{arith, inl, inr, pos, negsuc, ◌+ℤ◌, ◌-ℤ◌, nat_le, All, int_le, max, int_eq, ints, and_parts, and_from}
use Rattle.rake_finger.proofs.Common.{or_cases, cases_lt, le-leb, lt-leb, nat_tests, Held, IsInRing, frame_chips, Finger, Form, Sync, Data}
use Rattle.rake_finger.proofs.Common.{AreClose, all_near, has_reference, AreNear, all_begun, AreBegun, StreamOf, is_within, frame_end}
use Rattle.rake_finger.proofs.Common.{frame_start, stream_end, IsTimed}
use Rattle.rake_finger.proofs.CloseFingers.{begun_in_ring, close_begun, end_at, later_by, near_are_close, near_close, near_parts}
use Rattle.rake_finger.proofs.CloseFingers.{some_chips}
use Rattle.rake_finger.specs.Near as near

-- FRAMES
pub times_one : (m frame : ℕ) → frame ≤ 1 → m * frame ≤ m
times_one m zero h = omega arith
times_one m (suc zero) h = omega arith
times_one m (suc (suc n)) h = absurd (omega arith)

far : (form : Form) (first k : ℕ) → 226 ≤ first + frame_chips form * suc k
far Sync first k = omega arith
far Data first k = omega arith

pub start_step : (form : Form) (first k : ℕ) →
    first + frame_chips form * (k + 1) ≡ first + frame_chips form * k + frame_chips form
start_step Sync first k = omega arith
start_step Data first k = omega arith

start_early : (form : Form) (first k : ℕ) → frame_chips form * (k + 1) ≤ first + frame_chips form * k + frame_chips form
start_early Sync first k = omega arith
start_early Data first k = omega arith

-- ONE FINGER
place_near : (m u : ℕ) (d : ℤ) → int_le (negsuc 127) d ≡ true → int_le d (pos 127) ≡ true → end_at m u d ≤ u + m + 128
place_near m u d h e = grind (arith, ints)

end_test : (m u n : ℕ) (d : ℤ) → int_le d (pos u) ≡ true →
    int_le ((pos u -ℤ d) +ℤ pos m) (pos n) ≡ nat_le (end_at m u d) n
end_test m u n d h = grind (arith, ints, nat_tests)

end_early : (m u : ℕ) (d : ℤ) → int_eq d (pos 0) ≡ true → u + m ≤ end_at m u d
end_early m u d h = grind (arith, ints)

begun_later : (u m : ℕ) (d : ℤ) → int_le d (pos u) ≡ true → int_le d (pos (u + m)) ≡ true
begun_later u m d h = grind (arith, ints)

-- ALL FINGERS
ends_near : (form : Form) (u : ℕ) (fingers : List Finger) → all_near fingers ≡ true →
    frame_end fingers form u ≤ u + frame_chips form + 128
ends_near form u [] h = omega arith
ends_near form u (f ∷ fingers) h =
    let is = near_parts f fingers h in
    let one = place_near (frame_chips form) u f.delta is.0 is.1 in
    omega (arith, one, ends_near form u fingers is.2)

pub ends_step : (form : Form) (u : ℕ) (fingers : List Finger) → AreNear fingers →
    frame_end fingers form (u + frame_chips form) ≡ frame_end fingers form u + frame_chips form
ends_step form u fingers h = later_by form u (frame_chips form) fingers (near_are_close fingers h)

pub begun_on : (u m : ℕ) (fingers : List Finger) → all_begun u fingers ≡ true → all_begun (u + m) fingers ≡ true
begun_on u m [] h = refl
begun_on u m (f ∷ fingers) h =
    let a = and_parts (int_le f.delta (pos u)) (all_begun u fingers) h in
    and_from (int_le f.delta (pos (u + m))) (all_begun (u + m) fingers)
    (begun_later u m f.delta a.0) (begun_on u m fingers a.1)

-- the second frame begins in the file, and the first too where it does so on each finger
pub begun_first : (form : Form) (first : ℕ) (fingers : List Finger) → AreClose fingers →
    all_begun (first + frame_chips form * 1) fingers ≡ true
begun_first form first fingers h = close_begun (first + frame_chips form * 1) fingers h.close (far form first 0)

-- the ring still has each finger's samples when the last finger's frame ends
pub in_ring : (ring : Held) (form : Form) (u : ℕ) (fingers : List Finger) → AreNear fingers →
    AreBegun u fingers → ring.room ≡ 65536 → ring.taken ≡ frame_end fingers form u → All (IsInRing ring form u) fingers
in_ring ring form u fingers h = begun_in_ring ring form u fingers (near_are_close fingers h).close

within_one : (a b c d : Bool) (x : Bool) → (a ≡ true → b ≡ x) → ((a && b) && (c && d)) ≡ ((a && c) && (x && d))
within_one true b true d x h = rw (h refl) refl
within_one true true false d x h = refl
within_one true false false d x h = refl
within_one false b c d x h = refl

max_test : (a b n : ℕ) → (nat_le a n && nat_le b n) ≡ nat_le (max a b) n
max_test a b n =
    elim (cases_lt n a) [
      | inl less ↦
          let e = lt-leb a n less in
          let f = lt-leb (max a b) n (omega arith) in
          rw (e, f) refl
      | inr more ↦
          let e = le-leb a n more in
          elim (cases_lt n b) [
            | inl l ↦
                let g = lt-leb b n l in
                let f = lt-leb (max a b) n (omega arith) in
                rw (e, g, f) refl
            | inr m ↦
                let g = le-leb b n m in
                let f = le-leb (max a b) n (omega arith) in
                rw (e, g, f) refl
          ]
    ]

-- The frame lies within the first n samples on each finger where it has begun on all and the latest
-- of its ends is at most n, by induction over the fingers: one finger's two tests are joined with
-- those of the others.
pub within_is : (form : Form) (u n : ℕ) (fingers : List Finger) →
    is_within n fingers form u ≡ (all_begun u fingers && nat_le (frame_end fingers form u) n)
within_is form u n [] = let e = le-leb 0 n (omega arith) in rw e refl
within_is form u n (f ∷ fingers) =
    let d = f.delta in
    let m = frame_chips form in
    let begun = int_le d (pos u) in
    let ends = int_le ((pos u -ℤ d) +ℤ pos m) (pos n) in
    let others = all_begun u fingers in
    let one = within_one begun ends others (nat_le (frame_end fingers form u) n)
    (nat_le (end_at m u d) n) (end_test m u n d) in
    ap (λ r. (begun && ends) && r) (within_is form u n fingers)
    ∙ one
    ∙ ap (λ r. (begun && others) && r) (max_test (end_at m u d) (frame_end fingers form u) n)

reference_early : (form : Form) (u : ℕ) (fingers : List Finger) → has_reference fingers ≡ true →
    u + frame_chips form ≤ frame_end fingers form u
reference_early form u [] h = absurd (cc)
reference_early form u (f ∷ fingers) h =
    elim (or_cases (int_eq f.delta (pos 0)) (has_reference fingers) h) [
      | inl a ↦ let e = end_early (frame_chips form) u f.delta a in omega (arith, e)
      | inr b ↦ let e = reference_early form u fingers b in omega (arith, e)
    ]

pub ends_bounds : (form : Form) (u : ℕ) (fingers : List Finger) → AreNear fingers →
    (u + frame_chips form ≤ frame_end fingers form u) × (frame_end fingers form u ≤ u + frame_chips form + 128)
ends_bounds form u fingers h =
    let both = and_parts (all_near fingers) (has_reference fingers) h in
    (reference_early form u fingers both.1, ends_near form u fingers both.0)

-- THE FIRST FRAME IN THE FILE
low_first : (b : Bool) → b ≡ nat_le (cond b 0 1) 0
low_first true = sym (le-leb 0 0 (omega arith))
low_first false = sym (lt-leb 1 0 (omega arith))

low_later : (b : Bool) (k : ℕ) → nat_le (cond b 0 1) (suc k) ≡ true
low_later true k = le-leb 0 (suc k) (omega arith)
low_later false k = le-leb 1 (suc k) (omega arith)

low_is : {C : Type 0} (s : StreamOf C) → all_near s.fingers ≡ true → (k : ℕ) →
    all_begun (frame_start s k) s.fingers ≡ nat_le (near.low_in s) k
low_is s h zero =
    let e : frame_start s 0 ≡ s.first = omega arith in
    ap (λ u. all_begun u s.fingers) e ∙ low_first (all_begun s.first s.fingers)
low_is s h (suc k) =
    close_begun (frame_start s (suc k)) s.fingers (near_close s.fingers h) (far s.form s.first k)
    ∙ sym (low_later (all_begun s.first s.fingers) k)

-- the frames of a stream whose fingers are near lie one after another
pub timed_in : {C : Type 0} (count : ℕ) (s : StreamOf C) → AreNear s.fingers → IsTimed count s (near.low_in s)
unfolding stream_end
timed_in count s h =
    let both = and_parts (all_near s.fingers) (has_reference s.fingers) h in
    let ends : ℕ → ℕ = λ k. frame_end s.fingers s.form (frame_start s k) in
    record {
      inside = λ k. within_is s.form (frame_start s k) count s.fingers
          ∙ ap (λ r. r && nat_le (ends k) count) (low_is s both.0 k);
      step = λ k. ap (frame_end s.fingers s.form) (start_step s.form s.first k)
          ∙ ends_step s.form (frame_start s k) s.fingers h;
      some = let m = some_chips s.form in omega arith;
      early = λ k.
          let e = reference_early s.form (frame_start s k) s.fingers both.1 in
          let f = start_early s.form s.first k in
          omega (arith, e, f);
    }
