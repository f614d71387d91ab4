-- A handoff direction: when it is refused, and when it takes effect (after TIA/EIA-95-B, 6.6.6.2).
use Rattle.pilot_sets.specs.Common.{DirectionFields, DirectionFault, TooMany, Unknown, Twice}
use Rattle.pilot_sets.specs.Common.{NamedPilot, Accepted}
use Rattle.std.specs.Prelude.{ℕ, ◌+◌, ◌-◌, ◌%◌, ◌<◌, ◌≤◌, ◌≡◌, Bool, if◌then◌else◌, ◌||◌, ◌==◌, []}
use Rattle.std.specs.Prelude.{List, ◌∷◌, length, nat_lt, Option, Some, None}
use Rattle.std.specs.List.{find, All}
use Rattle.pilot_sets.specs.Pilots.{has}

-- a direction that names a pilot, and whose fields fit their widths
pub record IsDirection (d : DirectionFields) : Type 0 where
  pub some : 1 ≤ length d.pns
  pub combs_long : length d.combs ≡ length d.pns
  pub rows_long : length d.rows ≡ length d.pns
  pub action : d.action < 64
  pub pilots : All (λ p. p < 512) d.pns
  pub rows : All (λ r. r < 256) d.rows

-- WHY IT IS REFUSED
abbrev pub is_unknown_row : ℕ → Bool
is_unknown_row row = row == 0 || row == 32 || nat_lt 63 row

-- the first pilot that is in `seen` or occurs a second time
abbrev pub first_repeated : List ℕ → List ℕ → Option ℕ
first_repeated seen [] = None
first_repeated seen (p ∷ pilots) = if has seen p then Some p else first_repeated (p ∷ seen) pilots

abbrev pub twice : Option ℕ → Option DirectionFault
twice None = None
twice (Some pilot) = Some (Twice pilot)

abbrev pub unknown_or_twice : Option ℕ → Option ℕ → Option DirectionFault
unknown_or_twice (Some row) repeated = Some (Unknown row)
unknown_or_twice None repeated = twice repeated

-- the fault of a direction with these pilots and rows, record by record
abbrev pub direction_fault_of : List ℕ → List ℕ → Option DirectionFault
direction_fault_of pilots rows =
    if nat_lt 6 (length pilots) then Some (TooMany (length pilots))
    else unknown_or_twice (find is_unknown_row rows) (first_repeated [] pilots)

abbrev pub direction_fault : DirectionFields → Option DirectionFault
direction_fault d = direction_fault_of d.pns d.rows

-- WHEN IT TAKES EFFECT
-- at m + 1 if it has no action time, otherwise at the least time from m on that equals the action
-- time modulo 64; m is the time of the first moment at or after the end of its message
abbrev pub direction_time : ℕ → DirectionFields → ℕ
direction_time m d = if d.use_time == 0 then m + 1 else m + (d.action + 64 - m % 64) % 64

-- WHAT IT ORDERS
-- the pilots of its records, from three lists of equal length
abbrev pub named_pilots : List ℕ → List ℕ → List ℕ → List NamedPilot
named_pilots [] combs rows = []
named_pilots (p ∷ ps) [] rows = []
named_pilots (p ∷ ps) (c ∷ cs) [] = []
named_pilots (p ∷ ps) (c ∷ cs) (r ∷ rs) =
    record { pilot = p; row = r; combined = c == 1 } ∷ named_pilots ps cs rs

abbrev pub accepted_of : ℕ → DirectionFields → Accepted
accepted_of m d = record {
  time = direction_time m d;
  search = d.search;
  named = named_pilots d.pns d.combs d.rows;
}
