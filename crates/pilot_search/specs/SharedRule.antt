-- The rule of the shared word: it is between the floor and the ceiling, both included, of each view
-- that isn't spent, and all these ceilings are equal.
use Rattle.std.specs.Prelude.{◌≡◌, ◌≤◌, ◌⊎◌, ℕ, max, true, false, List, [], ◌∷◌, length}
use Rattle.std.specs.Prelude.{slice_index}
use mathlib.Core.Option.{some}
use lib.ListN.{get_elem?}
use Rattle.atomic_table.specs.Table.{State, Me, Step}
use Rattle.pilot_search.specs.declared.view.View.{View}

abbrev pub holding : ℕ → ℕ → View
holding floor ceiling = record { fresh = false; spent = false; floor = floor; ceiling = ceiling }

abbrev pub spent : View
spent = record { fresh = false; spent = true; floor = 0; ceiling = 0 }

-- the first view, before its ceiling is set
abbrev pub fresh_view : View
fresh_view = record { fresh = true; spent = true; floor = 0; ceiling = 0 }

abbrev pub Lies : ℕ → ℕ → View → Type 0
Lies word ceiling v = v.spent ≡ false → (v.floor ≤ word) × (word ≤ ceiling) × (v.ceiling ≡ ceiling)

abbrev pub AllLie : ℕ → ℕ → List View → Type 0
AllLie word ceiling views =
    (id : ℕ) (v : View) → get_elem? views id ≡ some v → (v.fresh ≡ false) × Lies word ceiling v

abbrev pub IsSharedState : State (Unit {0}) View → Type 0
IsSharedState s =
    (length s.words ≡ 1)
    × (((s.views ≡ fresh_view ∷ []) × (slice_index s.words 0 ≡ 0)) ⊎
    ((ceiling : ℕ) × AllLie (slice_index s.words 0) ceiling s.views))

abbrev Sat : Type 0
Sat = Me (Unit {0}) View

-- the ceiling is set
abbrev pub Begun : ℕ → Step (Unit {0}) → Sat → ℕ → Sat → Type 0
Begun ceiling st m n m' = m' ≡ (holding 0 ceiling, m.1)

abbrev pub Loaded : Step (Unit {0}) → Sat → ℕ → Sat → Type 0
Loaded st m n m' = (m.0.floor ≤ n) × (n ≤ m.0.ceiling) × (m' ≡ (holding n m.0.ceiling, m.1))

abbrev pub Raised : Step (Unit {0}) → Sat → ℕ → Sat → Type 0
Raised st m n m' =
    (m.0.floor ≤ n) × (n ≤ m.0.ceiling) × (m' ≡ (holding (max n st.first) m.0.ceiling, m.1))

abbrev pub joined_views : View → View → View
joined_views v w = holding (max v.floor w.floor) v.ceiling
