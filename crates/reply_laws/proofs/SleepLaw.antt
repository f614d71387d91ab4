-- What is required for a file whose slots a sleeping handset hears doesn't depend on what it sleeps through: the
-- paths that the search hands on are near enough for it to follow.
use Rattle.reply_laws.proofs.Common.{◌≡◌, ℕ, ◌≤◌, ◌++◌, List, [], length, take, sym, ap, ◌∙◌, subst, arith, Option, Some, Ok, is_some, mark}
use Rattle.reply_laws.proofs.Common.{Sample, Header, KeptTap, Tuning, CodeChannel, Paging, Mark, timed_of, mark_set, tuned_text, TunedText}
use Rattle.reply_laws.proofs.Common.{◌≢◌}
use Rattle.reply_laws.proofs.Common.{Slots, same_mark, sleeps, mark_is_late, end_when, file_end_of, file_text, told, ℤ}
use Rattle.reply_laws.proofs.Common.{tuning_for, waiting, IsFileReply, Reply, SleepChangesNoReply, Job, Idle, taps_for}
use Rattle.reply_laws.proofs.Common.{one_file_reply, whole_file, refl, IsBestIn, zero, suc, ◌<◌, ◌∷◌, get_or, inl, inr, All, nat_eq, int_le}
use Rattle.reply_laws.proofs.Common.{unsigned_abs, cases_lt, nat_tests, All-cons, All-head, All-nil, All-tail, best_phase, energy, all_near}
use Rattle.reply_laws.proofs.Common.{best_phase-is, near_deltas, one_delta, is_near, IsFingers, near_phase_at, free_taken, scanned}
use Rattle.reply_laws.proofs.Common.{first_places, greatest_unless, place_back, near_place, near_value}
use Rattle.clean_link.proofs.Common.{take-take, AreNear, sync_stream, known_between, true, false, pos, negsuc, ◌-ℤ◌, and_from, le-leb, ints}
use Rattle.clean_link.proofs.Common.{lt-leb, fingers_of, list_any}

-- ---- the phase that comes next

module _ (samples : List Sample) (best : ℕ) (low : best < 32768) where
  -- the phase that comes next, if these are taken
  abbrev next : List ℕ → ℕ
  next taken = greatest_unless taken (near_value samples best) 32768

  -- It is one of the 65 round the best phase as long as one of those is left: each of them has an
  -- energy, and every other phase has less than any.
  next_near : (taken : List ℕ) (place : ℕ) → place < 65 →
      list_any (nat_eq (near_phase_at best place)) taken ≡ false → near_place best (next taken) ≤ 64
  next_near taken place few left =
      let free = near_phase_at best place in
      elim (scanned taken (near_value samples best) 32768) [
        | inl none ↦ free_taken (list_any (nat_eq free) taken) left (none.0.all free (omega arith))
        | inr is ↦ elim (cases_lt 64 (near_place best (next taken))) [
          | inl far ↦
              let here = le-leb (near_place best free) 64 (omega (arith, place_back best place low few, few)) in
              let there = lt-leb (near_place best (next taken)) 64 far in
              let less = rw (here, there) at (is.greatest free (omega arith) left) in
              absurd (omega (arith, ints, less))
          | inr near ↦ near
        ]
      ]

  -- another place has another phase
  not_at : (place other : ℕ) → place < 65 → place ≢ near_place best other →
      nat_eq (near_phase_at best place) other ≡ false
  not_at place other few ne =
      let apart : near_phase_at best place ≢ other =
      λ e. ne (sym (place_back best place low few) ∙ ap (near_place best) e) in
      grind (arith, nat_tests)

  -- So the second phase is one of the 65 round the best, and so is the third: next to the best one
  -- there is one that isn't the second.
  second_near : (one : ℕ) → near_place best one ≡ 32 → near_place best (next (one ∷ [])) ≤ 64
  second_near one is = next_near (one ∷ []) 31 (omega arith) (rw (not_at 31 one (omega arith) (omega (arith, is))) refl)

  third_near : (one two : ℕ) → near_place best one ≡ 32 → near_place best (next (one ∷ two ∷ [])) ≤ 64
  third_near one two is =
      let at_place = λ (place : ℕ) (few : place < 65) (not_one : place ≢ 32) (not_two : place ≢ near_place best two).
      next_near (one ∷ two ∷ []) place few
      (rw (not_at place one few (omega (arith, is, not_one)), not_at place two few not_two) refl) in
      elim (cases_lt (near_place best two) 32) [
        | inl before ↦ at_place 33 (omega arith) (omega arith) (omega (arith, before))
        | inr after ↦ at_place 31 (omega arith) (omega arith) (omega (arith, after))
      ]

-- ---- the paths

abbrev IsPath : ℤ → Type 0
IsPath d = unsigned_abs d ≤ 127

near_one : (d : ℤ) → IsPath d → is_near d ≡ true
near_one d h =
    let a : int_le (negsuc 127) d ≡ true = grind (arith, ints) in
    let b : int_le d (pos 127) ≡ true = grind (arith, ints) in
    and_from (int_le (negsuc 127) d) (int_le d (pos 127)) a b

near_all : (phase : ℕ) (deltas : List ℤ) → All IsPath deltas → all_near (fingers_of 32 phase deltas) ≡ true
near_all phase [] h = refl
near_all phase (d ∷ deltas) h =
    and_from (is_near d) (all_near (fingers_of 32 phase deltas))
    (near_one d (All-head IsPath d deltas h)) (near_all phase deltas (All-tail IsPath d deltas h))

-- they are near enough, wherever the pilot's phase lies
abbrev AreFollowable : List ℤ → Type 0
AreFollowable deltas = (phase : ℕ) → AreNear (fingers_of 32 phase deltas)

-- the first of them at the best phase
followed_first : (first : ℤ) (rest : List ℤ) → first ≡ pos 0 → All IsPath rest → AreFollowable (first ∷ rest)
followed_first first rest is h = rw is (λ phase. rw (near_all phase rest h) refl)

module _ (samples : List Sample) where
  abbrev best : ℕ
  best = best_phase samples

  abbrev is_best : IsBestIn samples 0 32768 best (energy samples best)
  is_best = best_phase-is samples

  abbrev first : ℕ
  first = next samples best is_best.below []

  abbrev second : ℕ
  second = next samples best is_best.below (first ∷ [])

  abbrev third : ℕ
  third = next samples best is_best.below (first ∷ second ∷ [])

  abbrev delta : ℕ → ℤ
  delta phase = pos (near_place best phase) -ℤ pos 32

  first_delta : delta first ≡ pos 0
  unfolding near_deltas first_places
  first_delta = ap (λ (deltas : List ℤ). get_or deltas 0 (pos 0)) (one_delta samples best (energy samples best) is_best)

  first_place : near_place best first ≡ 32
  first_place = omega (arith, ints, first_delta)

  path : (phase : ℕ) → near_place best phase ≤ 64 → IsPath (delta phase)
  path phase near = omega (arith, ints, near)

  -- The search's paths, up to three, are near enough to be followed: the first is the best phase, and
  -- the others are two of the 65 phases round it, so they lie 32 chips away at most.
  all_followed : (fingers : ℕ) → IsFingers fingers → AreFollowable (near_deltas samples best fingers)
  unfolding near_deltas first_places
  all_followed zero few = absurd (omega (arith, few.0))
  all_followed (suc zero) few = followed_first (delta first) [] first_delta (All-nil IsPath)
  all_followed (suc (suc zero)) few =
      followed_first (delta first) (delta second ∷ []) first_delta
      (All-cons IsPath (delta second) [] (path second (second_near samples best is_best.below first first_place))
      (All-nil IsPath))
  all_followed (suc (suc (suc zero))) few =
      followed_first (delta first) (delta second ∷ delta third ∷ []) first_delta
      (All-cons IsPath (delta second) (delta third ∷ [])
      (path second (second_near samples best is_best.below first first_place))
      (All-cons IsPath (delta third) []
      (path third (third_near samples best is_best.below first second first_place)) (All-nil IsPath)))
  all_followed (suc (suc (suc (suc n)))) few = absurd (omega (arith, few.1))

-- ---- a handset that waits for the mark

pub waiting_near : (header : Header) (first : List Sample) (fingers : ℕ) → IsFingers fingers →
    AreNear (sync_stream (tuning_for (waiting header fingers) first)).fingers
waiting_near header first fingers few = all_followed first fingers few (best_phase first)

-- ---- the mark

module _ (t : Tuning) (near : AreNear (sync_stream t).fingers) (m : Mark) (one : List Sample)
    (marked : mark t one (length one) ≡ Some m) where
  -- the samples that set a mark are a frame of the sync channel at least
  a_frame : 32768 ≤ length one
  a_frame =
      let (k, set) = mark_set t one (length one) m marked in
      let timed = timed_of t near in
      let known = (known_between (sync_stream t) timed k set.inside).low in
      let early = timed.early k in
      omega (arith, known, early, set.known)

-- lists that agree in their first elements do so in fewer
fewer_agree : {A : Type 0} (one other : List A) (few many : ℕ) → few ≤ many →
    take many one ≡ take many other → take few one ≡ take few other
fewer_agree one other few many less same =
    sym (take-take few many one less) ∙ ap (take few) same ∙ take-take few many other less

-- ---- what is required

-- the text of a file whose slots are heard
text_heard : (taps : List KeptTap) (span workers fingers number key cycle : ℕ) (header : Header)
    (samples : List Sample) → file_text taps (Idle span workers fingers number key cycle) header samples
    ≡ tuned_text (Slots key cycle) (tuning_for (waiting header fingers) (take span samples)) (Paging number) samples
unfolding file_text told
text_heard taps span workers fingers number key cycle header samples = refl

-- and its end
end_heard : (span workers fingers number key cycle : ℕ) (header : Header) (samples : List Sample) →
    file_end_of (Idle span workers fingers number key cycle) header samples
    ≡ end_when (is_some (mark (tuning_for (waiting header fingers) (take span samples)) samples (length samples)))
unfolding file_end_of
end_heard span workers fingers number key cycle header samples = refl

-- two files that require one reply require no other
required_too : (taps : List KeptTap) (job : Job) (bytes changed : List ℕ) (both reply : Reply) →
    IsFileReply taps job bytes both → IsFileReply taps job changed both →
    IsFileReply taps job bytes reply → IsFileReply taps job changed reply
required_too taps job bytes changed both reply here there required =
    subst (IsFileReply taps job changed) (one_file_reply taps job bytes both reply here required) there

-- ---- the law

-- Two files that agree in what a sleeping handset hears have the same reply: the first samples
-- agree, so it is tuned alike in both, the mark is the same, each slot in which it is awake has the
-- same text, and so have the whole reply and its end.
pub sleep_changes_no_reply : SleepChangesNoReply
sleep_changes_no_reply forms span workers fingers number key cycle header one other bytes changed reply
    most few file file' agree =
    let job = Idle span workers fingers number key cycle in
    let taps = taps_for job forms in
    let t = tuning_for (waiting header fingers) (take span one) in
    let near = waiting_near header (take span one) fingers few in
    let m = agree.told in
    let late = mark_is_late t near one m agree.is_told in
    let enough : span ≤ length one = omega (arith, most, a_frame t near m one agree.is_told) in
    let long : length one ≡ length other = file.counted ∙ sym file'.counted in
    let first : take span one ≡ take span other =
    fewer_agree one other span m.sample (omega (arith, most, late)) agree.before in
    let tuned_too : tuning_for (waiting header fingers) (take span other) ≡ t =
    ap (tuning_for (waiting header fingers)) (sym first) in
    let marks : mark t other (length other) ≡ mark t one (length one) =
    same_mark t near m one other long agree.is_told agree.before ∙ sym agree.is_told in
    let texts : file_text taps job header one ≡ file_text taps job header other =
    text_heard taps span workers fingers number key cycle header one
    ∙ sleeps key cycle t number m one other near long agree.is_told agree.before agree.slots
    ∙ ap (λ (k : Tuning). tuned_text (Slots key cycle) k (Paging number) other) (sym tuned_too)
    ∙ sym (text_heard taps span workers fingers number key cycle header other) in
    let ends : file_end_of job header one ≡ file_end_of job header other =
    end_heard span workers fingers number key cycle header one
    ∙ ap (λ (found : Option Mark). end_when (is_some found)) (sym marks)
    ∙ ap (λ (k : Tuning). end_when (is_some (mark k other (length other)))) (sym tuned_too)
    ∙ sym (end_heard span workers fingers number key cycle header other) in
    let both : Reply = Ok (file_text taps job header one, file_end_of job header one) in
    let here : IsFileReply taps job bytes both = whole_file file enough in
    let there : IsFileReply taps job changed both =
    rw (texts, ends)
    (whole_file file' (omega (arith, enough, long))) in (
      required_too taps job bytes changed both reply here there,
      required_too taps job changed bytes both reply there here,
    )
