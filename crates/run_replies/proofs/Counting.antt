-- Lemmas on the events of a trial, counted one by one.
use Rattle.run_replies.proofs.Common.{◌≡◌, ℕ, ◌+◌, ◌≤◌, Bool, true, false, List, [], ◌∷◌, ◌++◌, length, take, drop, refl, sym, ap, ◌∙◌}
use Rattle.run_replies.proofs.Common.{subst, arith, length-append, filter, filter-append, Sample, Event, events, StandsFor, Tuning, Mobile}
use Rattle.run_replies.proofs.Common.{LeavesRoom, count_of, counts_of, is_frame, counts_with, is_good, is_page, is_sync, one_if, Counts}
use Rattle.run_replies.proofs.Handsets.{all_given, taken_more}

-- ---- one event more

count_more : (is : Event → Bool) (events : List Event) (event : Event) →
    count_of is (events ++ event ∷ []) ≡ count_of is events + one_if (is event)
count_more is events event =
    ap length (filter-append is events (event ∷ []))
    ∙ length-append (filter is events) (filter is (event ∷ []))
    ∙ ap (λ (n : ℕ). count_of is events + n) (last (is event) refl)
  where
    last : (b : Bool) → is event ≡ b → length (filter is (event ∷ [])) ≡ one_if b
    last true e = rw e refl
    last false e = rw e refl

pub counts_more : (events : List Event) (event : Event) →
    counts_of (events ++ event ∷ []) ≡ counts_with (counts_of events) event
unfolding counts_of
counts_more events event =
    rw (
      count_more is_sync events event,
      count_more is_page events event,
      count_more is_frame events event,
      count_more is_good events event,
    ) refl

one_most : (b : Bool) → one_if b ≤ 1
one_most true = omega arith
one_most false = omega arith

-- there is room for one more where there was for more than that
pub room_for_one : (counts : Counts) (left : ℕ) → LeavesRoom counts left → 1 ≤ left → LeavesRoom counts 1
room_for_one counts left room some = record {
  syncs = omega (arith, room.syncs, some);
  pagings = omega (arith, room.pagings, some);
  frames = omega (arith, room.frames, some);
  good = omega (arith, room.good, some);
}

pub room_after_event : (counts : Counts) (event : Event) (left before : ℕ) → LeavesRoom counts before →
    left + 1 ≤ before → LeavesRoom (counts_with counts event) left
room_after_event counts event left before room fewer = record {
  syncs = omega (arith, room.syncs, fewer, one_most (is_sync event));
  pagings = omega (arith, room.pagings, fewer, one_most (is_page event));
  frames = omega (arith, room.frames, fewer, one_most (is_frame event));
  good = omega (arith, room.good, fewer, one_most (is_good event));
}

pub room_left : (counts : Counts) (left before : ℕ) → LeavesRoom counts before → left ≤ before → LeavesRoom counts left
room_left counts left before room fewer = record {
  syncs = omega (arith, room.syncs, fewer);
  pagings = omega (arith, room.pagings, fewer);
  frames = omega (arith, room.frames, fewer);
  good = omega (arith, room.good, fewer);
}

-- ---- a handset that has taken samples, whose events were counted

-- it stands for some events, and the counts are theirs
abbrev pub IsCounted : Tuning → Mobile → Counts → List Sample → Type 0
IsCounted t mobile counts heard = (given : List Event) × StandsFor t mobile heard given × (counts ≡ counts_of given)

-- one event more
pub counted_more : (t : Tuning) (one other : Mobile) (counts next : Counts)
    (heard samples : List Sample) (taken n : ℕ) (event : Event) → IsCounted t one counts (heard ++ take taken samples) →
    ((before : List Event) → StandsFor t one (heard ++ take taken samples) before →
    StandsFor t other ((heard ++ take taken samples) ++ take n (drop taken samples))
    (before ++ event ∷ [])) →
    next ≡ counts_with counts event → IsCounted t other next (heard ++ take (taken + n) samples)
counted_more t one other counts next heard samples taken n event so_far stepped next_is = (
  so_far.0 ++ event ∷ [],
  subst (λ (xs : List Sample). StandsFor t other xs (so_far.0 ++ event ∷ [])) (taken_more heard samples taken n)
      (stepped so_far.0 so_far.1),
  next_is
      ∙ ap (λ (c : Counts). counts_with c event) so_far.2
      ∙ sym (counts_more so_far.0 event),
)

-- no event is left
pub counted_all : (t : Tuning) (one other : Mobile) (counts : Counts) (heard samples : List Sample)
    (taken n : ℕ) → IsCounted t one counts (heard ++ take taken samples) → n ≡ length (drop taken samples) →
    ((before : List Event) → StandsFor t one (heard ++ take taken samples) before →
    StandsFor t other ((heard ++ take taken samples) ++ take n (drop taken samples))
    (before ++ [])) →
    ((before : List Event) → StandsFor t one (heard ++ take taken samples) before →
    before ≡ events t ((heard ++ take taken samples) ++ drop taken samples)) →
    StandsFor t other (heard ++ samples) (events t (heard ++ samples))
    × (counts ≡ counts_of (events t (heard ++ samples)))
counted_all t one other counts heard samples taken n so_far all stepped last =
    let (stands, given) = all_given t other heard samples taken n so_far.0 all
    (stepped so_far.0 so_far.1) (last so_far.0 so_far.1) in
    (stands, so_far.2 ∙ ap counts_of given)
