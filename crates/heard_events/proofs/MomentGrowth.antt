-- What is kept after each moment depends on the samples before it.
use Rattle.heard_events.proofs.Common.{◌≡◌, ℕ, zero, suc, ◌+◌, ◌<◌, ◌≤◌, true, false, List, [], ◌∷◌, ◌++◌, length, take, refl, arith, noted}
use Rattle.heard_events.proofs.Common.{nat_le, le-leb, lt-leb, take-append-le, Sample, Standing, heard_from, kept_to, moment_place, passed}
use Rattle.heard_events.proofs.Common.{moments_before, sets_at, all_noted, Tuning, Event, Mark, Traffic, ap, ◌∙◌, if◌then◌else◌, add-one}
use Rattle.heard_events.proofs.Arrivals.{StaysWithin}

-- the first samples of a file that goes on
pub first_same : (xs ys : List Sample) (n : ℕ) → n ≤ length xs → take n (xs ++ ys) ≡ take n xs
first_same xs ys n h = take-append-le n xs ys h

-- one list of events after another
pub noted-append : (m : Mark) (xs ys : List Event) (s : Standing) →
    all_noted m (xs ++ ys) s ≡ all_noted m ys (all_noted m xs s)
noted-append m [] ys s = refl
noted-append m (x ∷ xs) ys s = noted-append m xs ys (noted m x s)

module _ (t : Tuning) (traffic : Traffic) (m : Mark) where
  -- moment by moment
  pub kept_new : (samples : List Sample) (j i : ℕ) → j < i → kept_to t traffic m samples (j + 1) i
      ≡ passed m (take (moment_place m (j + 1)) samples) (j + 1)
      (heard_from t traffic m (kept_to t traffic m samples j)
      (take (moment_place m (j + 1)) samples) j 98304)
  unfolding kept_to
  kept_new samples j i less =
      let later : nat_le i j ≡ false = lt-leb i j less in
      rw (add-one, later) refl

  pub kept_old : (samples : List Sample) (j i : ℕ) → i ≤ j →
      kept_to t traffic m samples (j + 1) i ≡ kept_to t traffic m samples j i
  unfolding kept_to
  kept_old samples j i most =
      let early : nat_le i j ≡ true = le-leb i j most in
      rw (add-one, early) refl

  -- What is kept up to a moment stays where more samples follow it: by induction over the moments,
  -- each of which hears only samples up to its own place, and these are the same.
  pub kept_sooner : (xs ys : List Sample) (j : ℕ) → (0 < j → moment_place m j ≤ length xs) →
      kept_to t traffic m (xs ++ ys) j ≡ kept_to t traffic m xs j
  unfolding kept_to
  kept_sooner xs ys zero h = refl
  kept_sooner xs ys (suc j) h =
      let here : moment_place m (suc j) ≤ length xs = h (omega arith) in
      let first = first_same xs ys (moment_place m (suc j)) here in
      let before = kept_sooner xs ys j (λ some. omega (arith, here)) in
      let of : (ℕ → Standing) → List Sample → (ℕ → Standing) =
      λ kept cut i. if nat_le i j then kept i
      else passed m cut (suc j) (heard_from t traffic m kept cut j 98304) in
      ap (λ (kept : ℕ → Standing). of kept (take (moment_place m (suc j)) (xs ++ ys))) before
      ∙ ap (of (kept_to t traffic m xs j)) first

  -- so does the event of a moment
  pub sets_sooner : StaysWithin (sets_at t traffic m)
  unfolding sets_at
  sets_sooner xs ys n h =
      let first = first_same xs ys n h in
      let before = kept_sooner xs ys (moments_before m n) (λ some. omega (arith, some, h)) in
      rw (first, before) refl
