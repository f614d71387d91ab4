-- When frames end and are known, over any stream.
use Rattle.rake_finger.proofs.Common.{◌≡◌, ◌⊎◌, ℕ, zero, suc, ◌+◌, ◌-◌, ◌<◌, ◌≤◌, true, false, refl, sym, ◌∙◌, arith, nat_le, inl, inr}
use Rattle.rake_finger.proofs.Common.{and_parts, and_from, and_left, and_right, leb-true, le-leb, lt-leb, cases_lt, cases_order, cases_Bool}
use Rattle.rake_finger.proofs.Common.{StreamOf, is_in_file, known_at, frame_chips, stream_end, IsTimed}

-- what the time at which a frame is known is
pub record KnownBetween {C : Type 0} (count : ℕ) (s : StreamOf C) (k : ℕ) : Type 0 where
  pub low : stream_end s k ≤ known_at count s k
  pub high : known_at count s k ≤ stream_end s (k + 1)
  pub most : known_at count s k ≤ count

module _ {C : Type 0} {count low : ℕ} (s : StreamOf C) (t : IsTimed count s low) where
  pub ends_le : (k d : ℕ) → stream_end s k ≤ stream_end s (k + d)
  ends_le k zero = let e : k + 0 ≡ k = omega arith in rw e (omega arith)
  ends_le k (suc d) =
      let e : k + suc d ≡ k + d + 1 = omega arith in
      rw e (omega (arith, ends_le k d, t.step (k + d)))

  pub ends_lt : (j k : ℕ) → j < k → stream_end s j + frame_chips s.form ≤ stream_end s k
  ends_lt j k h =
      let e : j + 1 + (k - (j + 1)) ≡ k = omega arith in
      let more = ends_le (j + 1) (k - (j + 1)) in
      omega (arith, t.step j, rw e at more)

  pub inside_from : (k : ℕ) → low ≤ k → stream_end s k ≤ count → is_in_file count s k ≡ true
  inside_from k l h =
      t.inside k
      ∙ and_from (nat_le low k) (nat_le (stream_end s k) count) (le-leb low k l) (le-leb (stream_end s k) count h)

  pub inside_to : (k : ℕ) → is_in_file count s k ≡ true → (low ≤ k) × (stream_end s k ≤ count)
  inside_to k h =
      let begun = nat_le low k in
      let both = and_parts begun (nat_le (stream_end s k) count) (sym (t.inside k) ∙ h) in
      (leb-true low k both.0, leb-true (stream_end s k) count both.1)

  pub outside_from : (k : ℕ) → count < stream_end s k → is_in_file count s k ≡ false
  outside_from k h =
      t.inside k
      ∙ and_right (nat_le low k) (nat_le (stream_end s k) count) (lt-leb (stream_end s k) count h)

  pub outside_low : (k : ℕ) → k < low → is_in_file count s k ≡ false
  outside_low k h = t.inside k ∙ and_left (nat_le low k) (nat_le (stream_end s k) count) (lt-leb low k h)

  -- where frames wait, and the frame after is in the file
  pub known_more : (k : ℕ) → s.waits ≡ true → low ≤ k → stream_end s (k + 1) ≤ count →
      known_at count s k ≡ stream_end s (k + 1)
  unfolding stream_end
  known_more k waits l h =
      let e = inside_from (k + 1) (omega arith) h in
      let both = and_from s.waits (is_in_file count s (k + 1)) waits e in
      rw both refl

  pub known_last : (k : ℕ) → count < stream_end s (k + 1) → known_at count s k ≡ stream_end s k
  unfolding stream_end
  known_last k h =
      let none = and_right s.waits (is_in_file count s (k + 1)) (outside_from (k + 1) h) in
      rw none refl

  -- where frames don't wait
  pub known_own : (k : ℕ) → s.waits ≡ false → known_at count s k ≡ stream_end s k
  unfolding stream_end
  known_own k waits =
      let none = and_left s.waits (is_in_file count s (k + 1)) waits in
      rw none refl

  -- a frame is known at its end, or waits for the frame after it
  pub known_parts : (k : ℕ) → low ≤ k → (known_at count s k ≡ stream_end s k)
      ⊎ ((s.waits ≡ true) × (stream_end s (k + 1) ≤ count)
      × (known_at count s k ≡ stream_end s (k + 1)))
  known_parts k l =
      elim (cases_Bool s.waits) [
        | inl waits ↦
            elim (cases_lt count (stream_end s (k + 1))) [
              | inl less ↦ inl (known_last k less)
              | inr more ↦ inr (waits, more, known_more k waits l more)
            ]
        | inr waits ↦ inl (known_own k waits)
      ]

  -- A frame of the file is known no sooner than it ends, no later than the frame after it does, and
  -- within the file: it is known at its own end, or waits for that of the next, which is then in
  -- the file.
  pub known_between : (k : ℕ) → is_in_file count s k ≡ true → KnownBetween count s k
  known_between k h =
      let i = inside_to k h in
      let step = t.step k in
      elim (known_parts k i.0) [
        | inl e ↦ record { low = rw e (omega arith); high = rw e (omega (arith, step)); most = rw e (omega arith) }
        | inr parts ↦
            let e = parts.2 in
            let more = parts.1 in
            record { low = rw e (omega (arith, step)); high = rw e (omega arith); most = rw e (omega arith) }
      ]

  -- an earlier frame is known no later
  pub known_le : (j k : ℕ) → is_in_file count s j ≡ true → is_in_file count s k ≡ true → j ≤ k →
      known_at count s j ≤ known_at count s k
  known_le j k ij ik h =
      elim (cases_order j k) [
        | inl e ↦ rw e (omega arith)
        | inr (inl less) ↦
            let a = known_between j ij in
            let b = known_between k ik in
            let kk = inside_to k ik in
            let le : j + 1 + (k - (j + 1)) ≡ k = omega arith in
            let more = ends_le (j + 1) (k - (j + 1)) in
            omega (arith, a.high, b.low, rw le at more)
        | inr (inr more) ↦ absurd (omega arith)
      ]
