-- What a handset has still to tell where more samples come, up to the end of the next frame.
use Rattle.mobile_core.proofs.Common.{◌≡◌, ℕ, suc, ◌+◌, ◌-◌, ◌<◌, ◌≤◌, List, [], ◌++◌, length, length-append, refl, sym, ap, ◌∙◌, arith}
use Rattle.mobile_core.proofs.Common.{Sample, events, events_at, heard_within, EndFrom, HearsFollowed, IsFollowedDue, IsSoundFollowed, mark}
use Rattle.mobile_core.proofs.Common.{followed_events_left, sync_events_left, mark_before, AreNear, sync_events_at, Tuning, sync_stream}
use Rattle.mobile_core.proofs.Common.{Event, Followed, Mark, Option, flat_map_grown, followed_after, AreKnown, AreLater, GoesOn, both}
use Rattle.mobile_core.proofs.Common.{IsSyncTimed, sync_frames, sync_goes, mark_before_sooner, mark_is}
use Rattle.mobile_core.proofs.ChannelsFollowed.{goes_on}
use Rattle.heard_events.proofs.EventsGrown.{after_before, events_at_by, events_sooner}

module _ (t : Tuning) (low : ℕ) (timed : IsSyncTimed t low)
    (near : AreNear (sync_stream t).fingers) where
  -- more samples, a frame being known at most at their end
  module _ (xs ys : List Sample) (next : ℕ) (f : Followed) (some : 0 < length ys)
      (before : AreKnown (sync_frames t) next (length xs))
      (from : AreLater (sync_frames t) next (length xs + length ys))
      (following : HearsFollowed t f (mark_before t xs next) xs) (sound : IsSoundFollowed f)
      (none : ¬ IsFollowedDue t.count f) (ends : EndFrom (length xs + length ys) f) where
    -- up to their last but one the mark is that of the frames before
    mark_here : (n : ℕ) → length xs ≤ n → n < length xs + length ys → mark t (xs ++ ys) n ≡ mark_before t xs next
    mark_here n least less =
        mark_is t timed (xs ++ ys) n next
        (λ k below inside. let known = before k below inside in omega (arith, known, least))
        (λ k above inside. let known = from k above inside in omega (arith, known, less))
        ∙ mark_before_sooner t low timed xs ys next before

    goes : GoesOn (λ samples n. sync_events_at t samples n ++ followed_after t (mark_before t xs next) samples n)
        (λ samples. sync_events_left t samples next
        ++ followed_events_left t (mark_before t xs next) samples f) xs (length xs + length ys)
    goes =
        both (sync_goes t low timed next xs (length xs + length ys) before from)
        (goes_on following sound none (length xs + length ys) ends)

    quiet : (n : ℕ) → length xs < n → n < length xs + length ys → events_at t (xs ++ ys) n ≡ []
    quiet n past less =
        events_at_by t (xs ++ ys) n (mark_before t xs next) (mark_here n (omega (arith, past)) less)
        ∙ goes.quiet ys n past less

    -- The events that end at the last of the new samples are what the sync channel and the followed
    -- channels had left: a mark that a message sets just there changes none, as channels that begin
    -- at it tell nothing yet.
    last_events : events_at t (xs ++ ys) (length (xs ++ ys))
        ≡ sync_events_left t (xs ++ ys) next ++ followed_events_left t (mark_before t xs next) (xs ++ ys) f
    last_events =
        let all = xs ++ ys in
        let n : ℕ = length xs + length ys - 1 in
        let long : length (xs ++ ys) ≡ n + 1 = omega (arith, length-append xs ys, some) in
        let later = sym (after_before t low timed near all n)
        ∙ ap (λ (x : Option Mark). followed_after t x all (n + 1))
        (mark_here n (omega (arith, some)) (omega (arith, some))) in
        let others : followed_after t (mark t all (length (xs ++ ys))) all (length (xs ++ ys))
        ≡ followed_after t (mark_before t xs next) all (length (xs ++ ys)) = rw long later in
        events_at_by t all (length (xs ++ ys)) (mark t all (length (xs ++ ys))) refl
        ∙ ap (λ (es : List Event). sync_events_at t all (length (xs ++ ys)) ++ es) others
        ∙ sym (goes.come ys some (omega (arith, length-append xs ys)))

    -- With more samples a handset's events are those before and then what was left: the events
    -- before stay, none ends at the new samples before the last, and there the ones that were left
    -- do.
    pub events_grown : events t (xs ++ ys)
        ≡ events t xs ++ (sync_events_left t (xs ++ ys) next
        ++ followed_events_left t (mark_before t xs next) (xs ++ ys) f)
    unfolding heard_within
    events_grown =
        let d = length ys - 1 in
        let long : length (xs ++ ys) ≡ length xs + suc d = omega (arith, length-append xs ys, some) in
        let grown = flat_map_grown (events_at t xs) (events_at t (xs ++ ys)) (length xs) d
        (λ n h. events_sooner t low timed near xs ys n h) (λ n past less. quiet n past (omega (arith, less, some))) in
        let last = last_events in
        let last' = rw long at last in
        rw (long, grown, last') refl
