-- The symbols of a frame that power control bits replace (TIA/EIA-95-B, 7.1.3.1.7).
use Rattle.frame_decoder.specs.Common.{places}
use Rattle.std.specs.Prelude.{ℕ, Bool, if◌then◌else◌, nat_eq, List, map, length, get_or, ℤ, pos}
use Rattle.std.specs.List.{list_any}

-- whether a power control bit replaces the symbol at place i
abbrev pub is_replaced : List ℕ → ℕ → Bool
is_replaced replaced i = list_any (nat_eq i) replaced

-- the soft values, with those of the replaced symbols set to 0
unfoldable pub unreplaced : List ℕ → List ℤ → List ℤ
unreplaced replaced softs =
    map (λ i. if is_replaced replaced i then pos 0 else get_or softs i (pos 0))
    (places (length softs))
