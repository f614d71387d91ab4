-- In each complete run of the workers the best phase is evaluated.
use Rattle.pilot_search.proofs.Common.{IsStart, ◌≡◌, ◌⊎◌, ℕ, zero, suc, ◌<◌, ◌≤◌, max, List, [], ◌∷◌, set, refl, sym, ap, ◌∙◌, subst, inl}
use Rattle.pilot_search.proofs.Common.{⊎_elim, inr, arith, Some, Contains, All, slice_get, cases_order, cases_lt, All-set, All-contains}
use Rattle.pilot_search.proofs.Common.{All-get_or, All-nil, All-cons, All-head, All-tail, slice_get_within, get_or_from_slice_get, Sample}
use Rattle.pilot_search.proofs.Common.{energy, best_phase, greatest, Worker, Step, Evaluate, Publish, Read, Skip, Goes, Run, Parts, IsDone}
use Rattle.pilot_search.proofs.Common.{FindsBest, ComesFirst, BestComesFirst, IsTry}
use Rattle.pilot_search.specs.SearchRun.{State}
use Rattle.pilot_search.proofs.BoundLemmas.{bounds}
use Rattle.pilot_search.proofs.FoundLemmas.{at_most_greatest}
use Rattle.pilot_search.proofs.BestPhase.{best_phase-is}

record IsSound (samples : List Sample) (w : Worker) : Type 0 where
  high : w.to ≤ 32768
  evaluated : All (λ p. p < 32768) w.evaluated
  skipped : All (λ p. energy samples p < greatest samples) w.skipped
  seen : w.seen ≤ greatest samples

record IsSoundState (samples : List Sample) (s : State) : Type 0 where
  shared : s.shared ≤ greatest samples
  workers : All (IsSound samples) s.workers
  parts : Parts 0 32768 s.workers

at_place : {X : Type 0} (P : X → Type 0) (xs : List X) (k : ℕ) (x : X) → slice_get xs k ≡ Some x → All P xs → P x
at_place P xs k x at all =
    subst P (get_or_from_slice_get xs k x x at) (All-get_or P xs k x (slice_get_within xs k x at) all)

-- Workers still part the numbers when one of them is replaced by another with the same range, by
-- induction over those before it, since only their ranges count.
parts_set : (from to k : ℕ) (ws : List Worker) (w w' : Worker) → slice_get ws k ≡ Some w →
    w'.from ≡ w.from → w'.to ≡ w.to → Parts from to ws → Parts from to (set ws k w')
parts_set from to k [] w w' at a b parts = parts
parts_set from to zero (x ∷ ws) w w' at a b parts =
    let same : x ≡ w = cc in
    let e : w'.from ≡ x.from = a ∙ sym (ap (λ (v : Worker). v.from) same) in
    let f : w'.to ≡ x.to = b ∙ sym (ap (λ (v : Worker). v.to) same) in
    (e ∙ parts.0, omega arith, subst (λ (n : ℕ). Parts n to ws) (sym f) parts.2)
parts_set from to (suc k) (x ∷ ws) w w' at a b parts = (parts.0, parts.1, parts_set x.to to k ws w w' at a b parts.2)

-- Each step of a worker keeps the state sound: an energy that is evaluated or published is that of
-- a phase and no more than the greatest, an energy that is read was published before, and a phase
-- that is skipped has less energy than one that was seen.
step_sound : (samples : List Sample) (old : State) (step : Step) (new : State) →
    Goes samples old step new → IsSoundState samples old → IsSoundState samples new
step_sound samples old (Evaluate k phase) new g h =
    let w = g.0 in
    let sound = at_place (IsSound samples) old.workers k w g.1 h.workers in
    let w' : Worker = record w { evaluated = phase ∷ w.evaluated } in
    let fresh = g.2 in
    let low : phase < 32768 = (let high = sound.high in let a = fresh.1 in omega arith) in
    subst (IsSoundState samples) (sym g.3) (record {
      shared = h.shared;
      workers =
          All-set (IsSound samples) old.workers k w' (record {
            high = sound.high;
            evaluated = All-cons (λ p. p < 32768) phase w.evaluated low sound.evaluated;
            skipped = sound.skipped;
            seen = sound.seen;
          }) h.workers;
      parts = parts_set 0 32768 k old.workers w w' g.1 refl refl h.parts;
    })
step_sound samples old (Publish k phase) new g h =
    let sound = at_place (IsSound samples) old.workers k g.0 g.1 h.workers in
    let low : phase < 32768 = All-contains (λ p. p < 32768) g.0.evaluated phase sound.evaluated g.2 in
    let most = at_most_greatest samples phase low in
    let shared = h.shared in
    subst (IsSoundState samples) (sym g.3) (record { shared = omega arith; workers = h.workers; parts = h.parts })
step_sound samples old (Read k) new g h =
    let w = g.0 in
    let sound = at_place (IsSound samples) old.workers k w g.1 h.workers in
    let w' : Worker = record w { seen = old.shared } in
    subst (IsSoundState samples) (sym g.2) (record {
      shared = h.shared;
      workers =
          All-set (IsSound samples) old.workers k w' (record {
            high = sound.high;
            evaluated = sound.evaluated;
            skipped = sound.skipped;
            seen = h.shared;
          }) h.workers;
      parts = parts_set 0 32768 k old.workers w w' g.1 refl refl h.parts;
    })
step_sound samples old (Skip k phase done) new g h =
    let w = g.0 in
    let sound = at_place (IsSound samples) old.workers k w g.1 h.workers in
    let w' : Worker = record w { skipped = phase ∷ w.skipped } in
    let reached = bounds samples phase done in
    let below = g.3 in
    let seen = sound.seen in
    let less : energy samples phase < greatest samples = omega arith in
    subst (IsSoundState samples) (sym g.4) (record {
      shared = h.shared;
      workers =
          All-set (IsSound samples) old.workers k w' (record {
            high = sound.high;
            evaluated = sound.evaluated;
            skipped =
                All-cons (λ p. energy samples p < greatest samples) phase w.skipped less
                sound.skipped;
            seen = sound.seen;
          }) h.workers;
      parts = parts_set 0 32768 k old.workers w w' g.1 refl refl h.parts;
    })

run_sound : (samples : List Sample) (old : State) (steps : List Step) (new : State) →
    Run samples old steps new → IsSoundState samples old → IsSoundState samples new
run_sound samples old [] new run h = subst (IsSoundState samples) (sym run) h
run_sound samples old (step ∷ steps) new run h =
    run_sound samples run.0 steps new run.2 (step_sound samples old step run.0 run.1 h)

parts_up : (from to : ℕ) (ws : List Worker) → Parts from to ws → from ≤ to
parts_up from to [] parts = omega arith
parts_up from to (w ∷ ws) parts = let up = parts_up w.to to ws parts.2 in
    let a = parts.1 in omega arith

-- Workers that have done nothing are sound, by induction over them: they evaluated and skipped no
-- phase, the energy that they saw is 0, and no range ends above 32768, up to which they go on.
starts_sound : (samples : List Sample) (from : ℕ) (ws : List Worker) → Parts from 32768 ws →
    All (λ w. (w.evaluated ≡ []) × (w.skipped ≡ []) × (w.seen ≡ 0)) ws → All (IsSound samples) ws
starts_sound samples from [] parts idle = All-nil (IsSound samples)
starts_sound samples from (w ∷ ws) parts idle =
    let mine = All-head (λ (v : Worker). (v.evaluated ≡ []) × (v.skipped ≡ []) × (v.seen ≡ 0)) w ws idle in
    let up = parts_up w.to 32768 ws parts.2 in
    let seen = mine.2 in
    All-cons (IsSound samples) w ws (record {
      high = up;
      evaluated = subst (All (λ p. p < 32768)) (sym mine.0) (All-nil (λ p. p < 32768));
      skipped =
          subst (All (λ p. energy samples p < greatest samples)) (sym mine.1)
          (All-nil (λ p. energy samples p < greatest samples));
      seen = omega arith;
    }) (starts_sound samples w.to ws parts.2
    (All-tail (λ (v : Worker). (v.evaluated ≡ []) × (v.skipped ≡ []) × (v.seen ≡ 0)) w ws idle))

-- the worker in whose range a phase lies
whose : (from to phase : ℕ) (ws : List Worker) → Parts from to ws → from ≤ phase → phase < to →
    (k : ℕ) × (w : Worker) × (slice_get ws k ≡ Some w) × (w.from ≤ phase) × (phase < w.to)
whose from to phase [] parts low high = absurd (omega arith)
whose from to phase (w ∷ ws) parts low high =
    ⊎_elim (λ (lt : phase < w.to). let a = parts.0 in (0, w, refl, omega arith, lt))
    (λ (ge : w.to ≤ phase). let r = whose w.to to phase ws parts.2 ge high in
    (suc r.0, r.1, r.2, r.3, r.4))
    (split_order phase w.to)
  where
    split_order : (a b : ℕ) → (a < b) ⊎ (b ≤ a)
    split_order a b = ⊎_elim (λ (e : a ≡ b). inr (omega arith))
        (⊎_elim (λ (lt : a < b). inl lt) (λ (gt : b < a). inr (omega arith))) (cases_order a b)

start_sound : (samples : List Sample) (start : State) → IsStart start → IsSoundState samples start
start_sound samples start begun = let nothing = begun.nothing in record {
  shared = omega arith;
  workers = starts_sound samples 0 start.workers begun.ranges begun.idle;
  parts = begun.ranges;
}

-- When all workers are done, one of them has evaluated the best phase: it is in some worker's
-- share, and what that worker skipped has an energy below the greatest.
pub finds_best : (samples : List Sample) → FindsBest samples
finds_best samples start end steps begun run done =
    let last = run_sound samples start steps end run (start_sound samples start begun) in
    let best = best_phase samples in
    let r = whose 0 32768 best end.workers last.parts (omega arith) (best_phase-is samples).below in
    let sound = at_place (IsSound samples) end.workers r.0 r.1 r.2 last.workers in
    let mine = at_place IsDone end.workers r.0 r.1 r.2 done best r.3 r.4 in (
      r.1,
      (r.0, slice_get_within end.workers r.0 r.1 r.2, get_or_from_slice_get end.workers r.0 r.1 r.1 r.2),
      ⊎_elim (λ (e : Contains r.1.evaluated best). e)
          (λ (s : Contains r.1.skipped best). let less = All-contains
          (λ p. energy samples p < greatest samples) r.1.skipped best sound.skipped s in
          absurd (omega arith)) mine,
    )

-- nothing that is evaluated comes before the best phase
comes_first : (samples : List Sample) (phase : ℕ) → phase < 32768 → ComesFirst samples (best_phase samples) phase
comes_first samples phase low =
    let is = best_phase-is samples in
    ⊎_elim
    (λ (e : energy samples phase ≡ greatest samples). ⊎_elim
    (λ (lt : phase < best_phase samples). let less = is.first phase (omega arith) lt in
    absurd (omega (arith, less, e)))
    (λ (ge : best_phase samples ≤ phase). inr (e, ge)) (cases_lt phase (best_phase samples)))
    (⊎_elim (λ (lt : energy samples phase < greatest samples). inl lt)
    (λ (gt : greatest samples < energy samples phase). let most = is.greatest phase
    (omega arith) low in absurd (omega (arith, most, gt))))
    (cases_order (energy samples phase) (greatest samples))

pub best_first : (samples : List Sample) → BestComesFirst samples
best_first samples start end steps begun run w phase has evaluated =
    let last = run_sound samples start steps end run (start_sound samples start begun) in
    let sound = All-contains (IsSound samples) end.workers w last.workers has in
    comes_first samples phase (All-contains (λ p. p < 32768) w.evaluated phase sound.evaluated evaluated)

put_get : {X : Type 0} (xs : List X) (k : ℕ) (x y : X) → slice_get xs k ≡ Some x → slice_get (set xs k y) k ≡ Some y
put_get [] k x y at = absurd (cc)
put_get (z ∷ xs) zero x y at = refl
put_get (z ∷ xs) (suc k) x y at = put_get xs k x y at

pub told_is_try : (samples : List Sample) (phase read e : ℕ) → e ≡ energy samples phase →
    IsTry samples phase read (Some e)
told_is_try samples phase read e is old k w at fresh seen =
    let w' : Worker = record w { evaluated = phase ∷ w.evaluated } in
    let mid : State = record old { workers = set old.workers k w' } in (
      (w, at, fresh, refl),
      (
        w',
        put_get old.workers k w w' at,
        (0, omega arith, refl),
        ap (λ (n : ℕ). let s : State = record mid { shared = max mid.shared n } in s) is,
      ),
    )
