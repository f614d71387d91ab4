-- The runs of workers that share the largest energy published so far and skip phases that cannot
-- reach it.
use Rattle.pilot_search.specs.Common.{Sample}
use Rattle.std.specs.Prelude.{ℕ, ◌<◌, ◌≤◌, ◌≡◌, ◌⊎◌, max, List, [], ◌∷◌, set, Some, Contains, All}
use Rattle.std.specs.Prelude.{slice_get, Option, MatchOption}
use Rattle.pilot_search.specs.Search.{energy, best_phase}
use Rattle.pilot_search.specs.Bounds.{bound}

pub record Worker : Type 0 where
  pub from : ℕ
  pub to : ℕ
  pub evaluated : List ℕ
  pub skipped : List ℕ
  pub seen : ℕ  -- the shared value as last read

pub record State : Type 0 where
  pub shared : ℕ
  pub workers : List Worker

pub data Step : Type 0 where
  Evaluate : (worker phase : ℕ) → Step
  Publish : (worker phase : ℕ) → Step  -- the energy of a phase that it evaluated
  Read : (worker : ℕ) → Step
  Skip : (worker phase done : ℕ) → Step  -- after the first `done` samples

abbrev pub IsFresh : Worker → ℕ → Type 0
IsFresh w phase =
    (w.from ≤ phase) × (phase < w.to) × ¬ (Contains w.evaluated phase) ×
    ¬ (Contains w.skipped phase)

-- the step may lead from `old` to `new`
abbrev pub Goes : List Sample → State → Step → State → Type 0
Goes samples old (Evaluate k phase) new =
    (w : Worker) × (slice_get old.workers k ≡ Some w) × IsFresh w phase
    × (new ≡ record old
    { workers = set old.workers k (record w { evaluated = phase ∷ w.evaluated }) })
Goes samples old (Publish k phase) new =
    (w : Worker) × (slice_get old.workers k ≡ Some w) × Contains w.evaluated phase
    × (new ≡ record old { shared = max old.shared (energy samples phase) })
Goes samples old (Read k) new =
    (w : Worker) × (slice_get old.workers k ≡ Some w)
    × (new ≡ record old { workers = set old.workers k (record w { seen = old.shared }) })
Goes samples old (Skip k phase done) new =
    (w : Worker) × (slice_get old.workers k ≡ Some w) × IsFresh w phase ×
    (bound samples phase done < w.seen)
    × (new ≡ record old { workers = set old.workers k (record w { skipped = phase ∷ w.skipped }) })

abbrev pub Run : List Sample → State → List Step → State → Type 0
Run samples old [] new = new ≡ old
Run samples old (step ∷ steps) new =
    (mid : State) × Goes samples old step mid × Run samples mid steps new

-- the workers' ranges partition the numbers from `from` to before `to`
abbrev pub Parts : ℕ → ℕ → List Worker → Type 0
Parts from to [] = from ≡ to
Parts from to (w ∷ workers) = (w.from ≡ from) × (from ≤ w.to) × Parts w.to to workers

-- at the start nothing is known
pub record IsStart (s : State) : Type 0 where
  pub nothing : s.shared ≡ 0
  pub ranges : Parts 0 32768 s.workers
  pub idle : All (λ w. (w.evaluated ≡ []) × (w.skipped ≡ []) × (w.seen ≡ 0)) s.workers

abbrev pub IsDone : Worker → Type 0
IsDone w =
    (phase : ℕ) → w.from ≤ phase → phase < w.to → Contains w.evaluated phase ⊎
    Contains w.skipped phase

-- in each complete run some worker evaluates the best phase
abbrev pub FindsBest : List Sample → Type 0
FindsBest samples =
    (start end : State) (steps : List Step) → IsStart start → Run samples start steps end →
    All IsDone end.workers
    → (w : Worker) × Contains end.workers w × Contains w.evaluated (best_phase samples)

-- the other phase does not come before `first` in the order of the search: by greater energy, then
-- by lesser phase
abbrev pub ComesFirst : List Sample → ℕ → ℕ → Type 0
ComesFirst samples first phase =
    (energy samples phase < energy samples first) ⊎
    ((energy samples phase ≡ energy samples first) × (first ≤ phase))

-- in each run the best phase comes before all that any worker evaluates
abbrev pub BestComesFirst : List Sample → Type 0
BestComesFirst samples =
    (start end : State) (steps : List Step) → IsStart start → Run samples start steps end
    → (w : Worker) (phase : ℕ) → Contains end.workers w → Contains w.evaluated phase →
    ComesFirst samples (best_phase samples) phase

-- In every state in which a worker last read `read` and has not yet evaluated or skipped this phase
-- of its range, a try is lawful: without an answer it skips the phase; with one it evaluates and
-- publishes it.
abbrev pub IsTry : List Sample → ℕ → ℕ → Option ℕ → Type 0
IsTry samples phase read answer =
    (old : State) (k : ℕ) (w : Worker) → slice_get old.workers k ≡ Some w → IsFresh w phase →
    w.seen ≡ read
    → MatchOption answer
    ((done : ℕ) ×
    Goes samples old (Skip k phase done)
    (record old { workers = set old.workers k (record w { skipped = phase ∷ w.skipped }) }))
    (λ e. let mid = record old
    { workers = set old.workers k (record w { evaluated = phase ∷ w.evaluated }) } in
    Goes samples old (Evaluate k phase) mid ×
    Goes samples mid (Publish k phase) (record mid { shared = max mid.shared e }))
