-- The fields that each Sync Channel Message has (TIA/EIA-95-B, 7.7.1.3), by name and width.
use Rattle.sync_message.specs.Common.{SyncFields}
use Rattle.std.specs.Prelude.{ℕ, List, [], ◌∷◌, codes, map}
pub use Rattle.chip_core.specs.Fields.{in_widths}

-- a field: its name in lines of text, and the number of bits in which it is sent
pub record Row : Type 0 where
  pub name : List ℕ
  pub width : ℕ

abbrev pub row : List ℕ → ℕ → Row
row name width = record { name = name; width = width }

-- the fields in the order in which they are sent
abbrev pub sync_rows : List Row
sync_rows =
    row (codes "prev") 8
    ∷ row (codes "min") 8
    ∷ row (codes "sid") 15
    ∷ row (codes "nid") 16
    ∷ row (codes "pn") 9
    ∷ row (codes "lc") 42
    ∷ row (codes "time") 36
    ∷ row (codes "lp") 8
    ∷ row (codes "ltm") 6
    ∷ row (codes "daylt") 1
    ∷ row (codes "prat") 2
    ∷ []

-- CDMA_FREQ, which follows those fields if it is present
abbrev pub freq_row : Row
freq_row = row (codes "freq") 11

abbrev pub sync_names : List (List ℕ)
sync_names = map (λ (r : Row). r.name) sync_rows

abbrev pub sync_widths : List ℕ
sync_widths = map (λ (r : Row). r.width) sync_rows

-- the values of a message in that order
abbrev pub sync_values : SyncFields → List ℕ
sync_values m =
    m.prev ∷ m.min ∷ m.sid ∷ m.nid ∷ m.pn ∷ m.lc ∷ m.time ∷ m.lp ∷ m.ltm ∷ m.daylt ∷ m.prat ∷ []
