-- The fields of the messages by name and width.
use Rattle.std.specs.Prelude.{ℕ, List, [], ◌∷◌, codes}

-- the widths of the fields of the head, in their order
abbrev pub head_widths : List ℕ
head_widths = 3 ∷ 3 ∷ 1 ∷ 2 ∷ []

-- their names
abbrev pub head_names : List (List ℕ)
head_names = codes "ack" ∷ codes "seq" ∷ codes "req" ∷ codes "enc" ∷ []

-- the widths of the first fields of a handoff direction, in their order
abbrev pub time_widths : List ℕ
time_widths = 1 ∷ 6 ∷ 2 ∷ []

-- their names
abbrev pub time_names : List (List ℕ)
time_names = codes "use" ∷ codes "action" ∷ codes "hdm" ∷ []

-- the width of the first field of a neighbor list update, and its name
abbrev pub update_widths : List ℕ
update_widths = 4 ∷ []

abbrev pub update_names : List (List ℕ)
update_names = codes "inc" ∷ []

-- the widths of the fields of the In-Traffic System Parameters Message, in their order
abbrev pub in_traffic_widths : List ℕ
in_traffic_widths = 15 ∷ 16 ∷ 4 ∷ 4 ∷ 4 ∷ 6 ∷ 6 ∷ 4 ∷ 4 ∷ 4 ∷ []

-- their names
abbrev pub in_traffic_names : List (List ℕ)
in_traffic_names =
    codes "sid" ∷ codes "nid" ∷ codes "wina" ∷ codes "winn" ∷ codes "winr" ∷ codes "tadd"
    ∷ codes "tdrop" ∷ codes "tcomp" ∷ codes "ttdrop" ∷ codes "age" ∷ []

-- the widths of the search parameters of a handoff direction, in their order
abbrev pub search_widths : List ℕ
search_widths = 4 ∷ 6 ∷ 6 ∷ 4 ∷ 4 ∷ []

-- their names
abbrev pub search_names : List (List ℕ)
search_names = codes "wina" ∷ codes "tadd" ∷ codes "tdrop" ∷ codes "tcomp" ∷ codes "ttdrop" ∷ []
