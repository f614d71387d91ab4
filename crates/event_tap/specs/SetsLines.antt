-- The line of the pilot sets at a moment.
use Rattle.event_tap.specs.Common.{digit_of, Active}
use Rattle.std.specs.Prelude.{ℕ, Bool, List, ◌++◌, map, codes, decimal}
use Rattle.event_tap.specs.Parts.{commas}

-- a pilot of the active set as `P/R/S`: its offset, its row and its power control subchannel
abbrev pub active_text : Active → List ℕ
active_text a = decimal a.pilot ++ codes "/" ++ decimal a.row ++ codes "/" ++ decimal a.subchannel

-- `sets at=A time=T active=P/R/S,.. candidate=P,.. report=B` and LF
unfoldable pub sets_line : ℕ → ℕ → List Active → List ℕ → Bool → List ℕ
sets_line place time active candidate report =
    codes "sets at=" ++ decimal place ++ codes " time=" ++ decimal time
    ++ codes " active=" ++ commas (map active_text active)
    ++ codes " candidate=" ++ commas (map decimal candidate)
    ++ codes " report=" ++ digit_of report ++ codes "\n"
