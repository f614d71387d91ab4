-- The mark, as frames are heard.
use Rattle.heard_events.proofs.Common.{◌≡◌, ℕ, ◌+◌, ◌<◌, true, false, List, [], ◌∷◌, ◌++◌, refl, length, ap, ◌∙◌, arith, inl, inr, None}
use Rattle.heard_events.proofs.Common.{flat_map, option_or, cases_Bool, places, Sample, frames_open, marks_at, first_of, mark, mark_before}
use Rattle.heard_events.proofs.Common.{Tuning, zero, suc, Option, Some, Mark, AreNear, sync_stream, Bool, map, length-append, nat_lt, Piece}
use Rattle.heard_events.proofs.Common.{lt-ltb, map-append, piece, from_last_start, frames_with, frames_before, sym}
use Rattle.std.specs.List.{filter}
use Rattle.heard_events.proofs.Growth.{IsSyncTimed, none_known, sync_in_file, heard_sooner, sync_frames, sync_ordered, timed_of}
use Rattle.heard_events.proofs.Growth.{frames_with_sooner}
use Rattle.heard_events.proofs.Arrivals.{AreKnown, AreLater, given_more, known_is, given_less, Stays, StaysBefore, stays_before}
use Rattle.quality_bits.proofs.Streams.{extended, from_last_start_more, from_last_start_new}
use Rattle.chip_core.proofs.Ranges as ranges

first_of-append : {A : Type 0} (xs ys : List A) → first_of (xs ++ ys) ≡ option_or (first_of xs) (first_of ys)
first_of-append [] ys = refl
first_of-append (x ∷ xs) ys = refl

module _ (t : Tuning) (samples : List Sample) where
  pub mark_before_none : (next : ℕ) → ((k : ℕ) → k < next → sync_in_file t k ≡ false) →
      mark_before t samples next ≡ None
  unfolding mark_before
  mark_before_none next none =
      ap (λ ks. first_of (flat_map (marks_at t samples) ks)) (ranges.filter_none_places (sync_in_file t) next none)

  pub mark_before_more : (next : ℕ) → sync_in_file t next ≡ true → mark_before t samples (next + 1)
      ≡ option_or (mark_before t samples next) (first_of (marks_at t samples next))
  unfolding mark_before
  mark_before_more next inside =
      let f = marks_at t samples in
      ap first_of (given_more (sync_in_file t) f next inside)
      ∙ first_of-append (flat_map f (filter (sync_in_file t) (places next))) (f next)

  -- what is set stays set
  pub mark_before_kept : (next d : ℕ) (m : Mark) → mark_before t samples next ≡ Some m →
      mark_before t samples (next + d) ≡ Some m
  unfolding mark_before
  mark_before_kept next zero m h = let e : next + 0 ≡ next = omega arith in rw e h
  mark_before_kept next (suc d) m h =
      let k : ℕ = next + d in
      let e : next + suc d ≡ k + 1 = omega arith in
      let was = mark_before_kept next d m h in
      rw e
      (elim (cases_Bool (sync_in_file t k)) [
        | inl here ↦
            mark_before_more k here
            ∙ ap (λ (x : Option Mark). option_or x (first_of (marks_at t samples k))) was
        | inr gone ↦
            ap (λ ks. first_of (flat_map (marks_at t samples) ks)) (given_less (sync_in_file t) k gone)
            ∙ was
      ])

pub mark_is : {low : ℕ} (t : Tuning) → IsSyncTimed t low → (samples : List Sample)
    (n next : ℕ) → AreKnown (sync_frames t) next n → AreLater (sync_frames t) next (n + 1) →
    mark t samples n ≡ mark_before t samples next
unfolding mark mark_before
mark_is t timed samples n next before following =
    ap (λ ks. first_of (flat_map (marks_at t samples) ks))
    (known_is (sync_frames t) (sync_ordered t timed) n next before following)

-- before any sample is taken none is set
pub none_marked : (t : Tuning) → AreNear (sync_stream t).fingers → mark t [] 0 ≡ None
unfolding mark_before places
none_marked t near =
    let timed = timed_of t near in
    mark_is t timed [] 0 0 (λ k less inside. absurd (omega (arith, less))) (none_known t _ timed)

-- the marks of frames that are known stay where more samples follow
pub marks_at_sooner : (t : Tuning) (low : ℕ) → IsSyncTimed t low → Stays (sync_frames t) (marks_at t)
unfolding marks_at frames_open
marks_at_sooner t low timed xs ys k inside known =
    let frames = frames_with_sooner t low timed xs ys k inside known in
    let heard = heard_sooner t low timed xs ys k inside known in
    rw (frames, heard) refl

pub mark_before_sooner : (t : Tuning) (low : ℕ) → IsSyncTimed t low → StaysBefore (sync_frames t) (mark_before t)
unfolding mark_before
mark_before_sooner t low timed xs ys next known =
    ap first_of (stays_before (sync_frames t) (marks_at t) (marks_at_sooner t low timed) xs ys next known)

-- HOW MANY FRAMES THE MESSAGE UNDER WAY HAS
length-extended : (message : List Piece) (p : Piece) → length (extended message p) ≡ frames_with false (length message)
length-extended [] p = refl
length-extended (q ∷ message) p =
    let some : nat_lt 0 (suc (length message)) ≡ true = lt-ltb 0 (suc (length message)) (omega arith) in
    rw some (omega (arith, length-append (q ∷ message) (p ∷ [])))

one_more : (pieces : List Piece) (p : Piece) → length (from_last_start (pieces ++ p ∷ []))
    ≡ frames_with p.starts (length (from_last_start pieces))
one_more pieces p =
    elim (cases_Bool p.starts) [
      | inl begins ↦ ap length (from_last_start_new pieces p begins)
          ∙ sym (ap (λ b. frames_with b (length (from_last_start pieces))) begins)
      | inr on ↦ ap length (from_last_start_more pieces p on)
          ∙ length-extended (from_last_start pieces) p
          ∙ sym (ap (λ b. frames_with b (length (from_last_start pieces))) on)
    ]

pub frames_open-none : (t : Tuning) (samples : List Sample) (next : ℕ) →
    frames_before t samples next ≡ [] → frames_open t samples next ≡ 0
unfolding frames_open
frames_open-none t samples next none = ap (λ frames. length (from_last_start (map piece frames))) none

pub frames_open-more : (t : Tuning) (samples : List Sample) (next : ℕ) (frame : List Bool) →
    frames_before t samples (next + 1) ≡ frames_before t samples next ++ frame ∷ [] →
    frames_open t samples (next + 1) ≡ frames_with (piece frame).starts (frames_open t samples next)
unfolding frames_open
frames_open-more t samples next frame more =
    let before = frames_before t samples next in
    ap (λ frames. length (from_last_start (map piece frames))) more
    ∙ ap (λ pieces. length (from_last_start pieces)) (map-append piece before (frame ∷ []))
    ∙ one_more (map piece before) (piece frame)
