-- How the events of a file grow with its samples.
use Rattle.heard_events.proofs.Common.{◌≡◌, ℕ, ◌+◌, ◌≤◌, List, [], ◌∷◌, ◌++◌, length, refl, sym, ap, ◌∙◌, arith, map, Option, Some, None}
use Rattle.heard_events.proofs.Common.{nat_lt, if◌then◌else◌, Sample, events_at, mark, AreNear, moments_before, page_event, sync_events_at}
use Rattle.heard_events.proofs.Common.{Tuning, sync_stream, Mark, flat_map, flat_map-places-more, heard_within, CodeChannel, Paging}
use Rattle.heard_events.proofs.Common.{channels}
use Rattle.heard_events.proofs.Common.{followed_after, told_after, told_on, places-none}
use Rattle.heard_events.specs.declared.channel.CodeChannel.TheVariants.{Traffic as OnTraffic}
use Rattle.heard_events.proofs.Growth.{IsSyncTimed}
use Rattle.heard_events.proofs.PageGrowth.{pages_sooner}
use Rattle.heard_events.proofs.GoesOn.{joined}
use Rattle.heard_events.proofs.MarkGrowth.{none_marked}
use Rattle.heard_events.proofs.MomentGrowth.{first_same, kept_sooner, sets_sooner}
use Rattle.heard_events.proofs.Growth as growth
use Rattle.heard_events.proofs.MarkStays as stays

-- after the mark it is what is heard of the channels that are followed from there on
pub events_at_by : (t : Tuning) (xs : List Sample) (n : ℕ) (m : Option Mark) → mark t xs n ≡ m →
    events_at t xs n ≡ sync_events_at t xs n ++ followed_after t m xs n
unfolding events_at
events_at_by t xs n m e = ap (λ (x : Option Mark). sync_events_at t xs n ++ followed_after t x xs n) e

each_same : {A X : Type 0} (f g : X → List A) (xs : List X) → ((x : X) → f x ≡ g x) → flat_map f xs ≡ flat_map g xs
each_same f g [] same = refl
each_same f g (x ∷ xs) same = joined (same x) (each_same f g xs same)

module _ (t : Tuning) (low : ℕ) (timed : IsSyncTimed t low)
    (near : AreNear (sync_stream t).fingers) where
  -- what ends within the first samples is known from them: on a channel,
  channel_sooner : (xs ys : List Sample) (n : ℕ) → n ≤ length xs → (c : CodeChannel) (m : Mark) →
      told_on t (xs ++ ys) n c m ≡ told_on t xs n c m
  channel_sooner xs ys n h (Paging channel) m =
      ap (λ (pages : List _). map (page_event n) (if nat_lt m.prat 2 then pages else []))
      (pages_sooner t channel m _ (stays.paging_timed t near channel m) xs ys n h)
  channel_sooner xs ys n h (OnTraffic traffic) m =
      let j : ℕ = moments_before m n in
      let kept = kept_sooner t traffic m xs ys j (λ some. omega (arith, some, h)) in
      let first = first_same xs ys n h in
      let sets = sets_sooner t traffic m xs ys n h in
      rw (kept, first, sets) refl

  after_sooner : (xs ys : List Sample) (n : ℕ) → n ≤ length xs → (followed : Option CodeChannel)
      (m : Option Mark) → told_after t followed m (xs ++ ys) n ≡ told_after t followed m xs n
  after_sooner xs ys n h (Some c) (Some m) = channel_sooner xs ys n h c m
  after_sooner xs ys n h (Some c) None = refl
  after_sooner xs ys n h None m = refl

  -- and on all
  pub events_sooner : (xs ys : List Sample) (n : ℕ) → n ≤ length xs → events_at t (xs ++ ys) n ≡ events_at t xs n
  events_sooner xs ys n h =
      let m = mark t xs n in
      events_at_by t (xs ++ ys) n m (stays.mark_sooner t low timed xs ys n h)
      ∙ joined (growth.sync_events_sooner t low timed xs ys n h)
      (each_same (λ followed. told_after t followed m (xs ++ ys) n)
      (λ followed. told_after t followed m xs n) (channels t) (λ followed. after_sooner xs ys n h followed m))
      ∙ sym (events_at_by t xs n m refl)

  -- a mark that is set with the last sample has no channel's frame before it
  pub after_before : (xs : List Sample) (n : ℕ) →
      followed_after t (mark t xs n) xs (n + 1) ≡ followed_after t (mark t xs (n + 1)) xs (n + 1)
  after_before xs n =
      stays.by_one_mark t near xs n (n + 1) (n + 1) (λ mark. followed_after t mark xs (n + 1))
      (omega arith) (omega arith) (stays.all_from_mark t near xs (n + 1))

  -- before any sample is taken nothing is heard
  pub heard_none : heard_within t [] 0 ≡ []
  unfolding heard_within
  heard_none =
      let all = events_at t [] in
      flat_map-places-more all 0
      ∙ ap (λ (ks : List ℕ). flat_map all ks ++ all 0) places-none
      ∙ events_at_by t [] 0 None (none_marked t near)
      ∙ joined (growth.sync_events_none t low timed) (stays.all_from_mark t near [] 0).unset
