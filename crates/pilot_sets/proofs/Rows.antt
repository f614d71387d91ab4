-- The rows and subchannels of active pilots.
use Rattle.pilot_sets.proofs.Common.{◌≡◌, ◌<◌, ◌≤◌, ◌+◌, ℕ, Bool, true, false, ◌||◌, ◌==◌, if◌then◌else◌, List, [], ◌∷◌, length, map, Some}
use Rattle.pilot_sets.proofs.Common.{None, nat_lt, refl, arith, ltb-false, All-nil, All-cons, All-head, All-tail, All, find, is_unknown_row}
use Rattle.pilot_sets.proofs.Common.{named_pilots, active_of, subchannel_after, next_subchannel, actives_after, active_timed, AreOnRows}
use Rattle.pilot_sets.proofs.Common.{shown_active, Active, ActivePilot, NamedPilot}
use Rattle.pilot_sets.proofs.Refusals.{some_none}

abbrev OnRow : ActivePilot → Type 0
OnRow a = (a.row < 64) × (a.subchannel < 6)

abbrev Named : NamedPilot → Type 0
Named n = n.row < 64

-- a row that isn't unknown is below 64
true_false : true ≡ false → ⊥
true_false e = cc

known_row : (row : ℕ) → is_unknown_row row ≡ false → row < 64
known_row row h = by_cases (row == 0) (row == 32) (nat_lt 63 row) refl h
  where
    by_cases : (a b c : Bool) → nat_lt 63 row ≡ c → (a || b || c) ≡ false → row < 64
    by_cases true b c e h = absurd (true_false h)
    by_cases false true c e h = absurd (true_false h)
    by_cases false false true e h = absurd (true_false h)
    by_cases false false false e h = omega (arith, ltb-false 63 row e)

pub named_rows : (ps cs rs : List ℕ) → find is_unknown_row rs ≡ None →
    All (λ (n : NamedPilot). n.row < 64) (named_pilots ps cs rs)
named_rows [] cs rs h = All-nil Named
named_rows (p ∷ ps) [] rs h = All-nil Named
named_rows (p ∷ ps) (c ∷ cs) [] h = All-nil Named
named_rows (p ∷ ps) (c ∷ cs) (r ∷ rs) h = by_cases (is_unknown_row r) refl h (named_rows ps cs rs)
  where
    by_cases : (b : Bool) → is_unknown_row r ≡ b → (if b then Some r else find is_unknown_row rs) ≡ None →
        (find is_unknown_row rs ≡ None → All Named (named_pilots ps cs rs)) →
        All Named (record { pilot = p; row = r; combined = c == 1 } ∷ named_pilots ps cs rs)
    by_cases true e h rest = absurd (some_none h)
    by_cases false e h rest =
        All-cons Named (record { pilot = p; row = r; combined = c == 1 }) (named_pilots ps cs rs)
        (known_row r e) (rest h)

-- the subchannels of a new active set are below its length
next_fits : (subchannel room : ℕ) (named : List NamedPilot) → subchannel + 1 + length named ≤ room →
    next_subchannel subchannel named + length named ≤ room
next_fits subchannel room [] h = omega arith
next_fits subchannel room (n ∷ named) h = by_cases n.combined
  where
    by_cases : (b : Bool) → subchannel_after subchannel b + length (n ∷ named) ≤ room
    by_cases true = omega (arith, h)
    by_cases false = omega (arith, h)

pub rows_after : (old : List ActivePilot) (subchannel : ℕ) (named : List NamedPilot) →
    All (λ (n : NamedPilot). n.row < 64) named → subchannel + length named ≤ 6 →
    AreOnRows (actives_after old subchannel named)
rows_after old subchannel [] h fits = All-nil OnRow
rows_after old subchannel (n ∷ named) h fits =
    All-cons OnRow (active_of old subchannel n) (actives_after old (next_subchannel subchannel named) named)
    (All-head Named n named h, omega (arith, fits))
    (rows_after old (next_subchannel subchannel named) named (All-tail Named n named h)
    (next_fits subchannel 6 named (omega (arith, fits))))

pub timed_rows : (energy : ℕ → ℕ) (k power time : ℕ) (xs : List ActivePilot) → AreOnRows xs →
    AreOnRows (map (active_timed energy k power time) xs)
timed_rows energy k power time [] h = All-nil OnRow
timed_rows energy k power time (a ∷ xs) h =
    All-cons OnRow (active_timed energy k power time a) (map (active_timed energy k power time) xs)
    (All-head OnRow a xs h) (timed_rows energy k power time xs (All-tail OnRow a xs h))

-- as they are shown
pub shown_rows : (xs : List ActivePilot) → AreOnRows xs → All (λ (a : Active). a.row < 64) (map shown_active xs)
shown_rows [] h = All-nil (λ (a : Active). a.row < 64)
shown_rows (a ∷ xs) h =
    All-cons (λ (a : Active). a.row < 64) (shown_active a) (map shown_active xs)
    (All-head OnRow a xs h).0 (shown_rows xs (All-tail OnRow a xs h))

pub shown_subchannels : (xs : List ActivePilot) → AreOnRows xs →
    All (λ (a : Active). a.subchannel < 6) (map shown_active xs)
shown_subchannels [] h = All-nil (λ (a : Active). a.subchannel < 6)
shown_subchannels (a ∷ xs) h =
    All-cons (λ (a : Active). a.subchannel < 6) (shown_active a) (map shown_active xs)
    (All-head OnRow a xs h).1 (shown_subchannels xs (All-tail OnRow a xs h))

-- one pilot on its row
pub one_row : (a : ActivePilot) → a.row < 64 → a.subchannel < 6 → AreOnRows (a ∷ [])
one_row a row subchannel = All-cons OnRow a [] (row, subchannel) (All-nil OnRow)
