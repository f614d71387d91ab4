-- Why a direction is refused, case by case.
use Rattle.pilot_sets.proofs.Common.{◌≡◌, ◌<◌, ◌≤◌, ℕ, Bool, true, false, List, [], length, Option, Some, None, nat_lt, refl, sym, ◌∙◌}
use Rattle.pilot_sets.proofs.Common.{arith, lt-ltb, ltb-true, ltb-false, find, is_unknown_row, first_repeated, direction_fault_of, TooMany}
use Rattle.pilot_sets.proofs.Common.{unknown_or_twice, Unknown}

pub some_none : {X : Type 0} {x : X} → Some x ≡ None → ⊥
some_none e = cc

pub too_many : (pns rows : List ℕ) (n : ℕ) → n ≡ length pns → 6 < n → Some (TooMany n) ≡ direction_fault_of pns rows
too_many pns rows n is many =
    let more : nat_lt 6 (length pns) ≡ true = lt-ltb 6 (length pns) (omega (arith, is, many)) in
    rw (more, is) refl

few : (pns rows : List ℕ) → length pns ≤ 6 →
    direction_fault_of pns rows ≡ unknown_or_twice (find is_unknown_row rows) (first_repeated [] pns)
few pns rows within = by_cases (nat_lt 6 (length pns)) refl
  where
    by_cases : (b : Bool) → nat_lt 6 (length pns) ≡ b →
        direction_fault_of pns rows ≡ unknown_or_twice (find is_unknown_row rows) (first_repeated [] pns)
    by_cases true e = absurd (omega (arith, ltb-true 6 (length pns) e, within))
    by_cases false e = rw e refl

pub unknown : (pns rows : List ℕ) → length pns ≤ 6 → (row : ℕ) →
    find is_unknown_row rows ≡ Some row → Some (Unknown row) ≡ direction_fault_of pns rows
unknown pns rows within row found = sym (few pns rows within ∙ rw found refl)

-- a direction that isn't refused has at most six records
pub accepted_few : (pns rows : List ℕ) → direction_fault_of pns rows ≡ None → length pns ≤ 6
accepted_few pns rows none = by_cases (nat_lt 6 (length pns)) refl
  where
    by_cases : (b : Bool) → nat_lt 6 (length pns) ≡ b → length pns ≤ 6
    by_cases true e = absurd (some_none (too_many pns rows (length pns) refl (ltb-true 6 (length pns) e) ∙ none))
    by_cases false e = ltb-false 6 (length pns) e

not_repeated : (unknown repeated : Option ℕ) → unknown_or_twice unknown repeated ≡ None → repeated ≡ None
not_repeated (Some row) repeated e = absurd (some_none e)
not_repeated None None e = refl
not_repeated None (Some pilot) e = absurd (some_none e)

not_unknown : (unknown repeated : Option ℕ) → unknown_or_twice unknown repeated ≡ None → unknown ≡ None
not_unknown (Some row) repeated e = absurd (some_none e)
not_unknown None repeated e = refl

-- whose rows traffic channels may have
pub accepted_known : (pns rows : List ℕ) → direction_fault_of pns rows ≡ None → find is_unknown_row rows ≡ None
accepted_known pns rows none =
    not_unknown (find is_unknown_row rows) (first_repeated [] pns)
    (sym (few pns rows (accepted_few pns rows none)) ∙ none)

-- and names no pilot twice
pub accepted_once : (pns rows : List ℕ) → direction_fault_of pns rows ≡ None → first_repeated [] pns ≡ None
accepted_once pns rows none =
    not_repeated (find is_unknown_row rows) (first_repeated [] pns)
    (sym (few pns rows (accepted_few pns rows none)) ∙ none)
