-- The Extended Handoff Direction Message (TIA/EIA-95-B, 7.7.3.3.2.17).
use Rattle.traffic_message.specs.Common.{in_widths, FieldsFit, number_at, MessageShape, IsOf}
use Rattle.traffic_message.specs.Common.{Contents}
use Rattle.std.specs.Prelude.{ℕ, ◌==◌, if◌then◌else◌, Bool, List, [], ◌∷◌, get_or, Option, Some}
use Rattle.std.specs.Prelude.{None}
use Rattle.message_layout.specs.declared.layout.Presence.TheVariants.{Flagged}
use Rattle.traffic_message.specs.Widths.{search_widths, time_widths}
use Rattle.traffic_message.specs.declared.fields.DirectionFields.{DirectionFields}
use Rattle.traffic_message.specs.declared.fields.Search.{Search}

-- Its time and its number; SEARCH_INCLUDED, and the search parameters if it is 1; HARD_INCLUDED,
-- which is 0; ADD_LENGTH and that number of octets of additional fields; and as many records as
-- fit, at least one, each with a pilot's offset, the combination indicator and the row.
abbrev pub direction_shape : MessageShape
direction_shape = record {
  fixed = time_widths;
  presence = Flagged;
  group = search_widths;
  zeros = 1;
  count = 3;
  records = 9 ∷ 1 ∷ 8 ∷ [];
  least = 1;
  most = Some 7;
}

-- the values of the first fields
abbrev pub time_values : DirectionFields → List ℕ
time_values m = m.use_time ∷ m.action ∷ m.hdm ∷ []

-- the values of the search parameters, in the order of the table
abbrev pub search_values : Search → List ℕ
search_values s = s.wina ∷ s.tadd ∷ s.tdrop ∷ s.tcomp ∷ s.ttdrop ∷ []

abbrev pub search_group : Option Search → Option (List ℕ)
search_group None = None
search_group (Some search) = Some (search_values search)

-- the search parameters fit, if there are any
abbrev pub SearchFits : Option Search → Type 0
SearchFits None = Unit {0}
SearchFits (Some search) = FieldsFit (in_widths search_widths (search_values search))

-- the contents of the message, which fit
abbrev pub direction_contents : DirectionFields → Contents
direction_contents m = record {
  fixed = time_values m;
  group = search_group m.search;
  octets = m.extra;
  columns = m.pns ∷ m.combs ∷ m.rows ∷ [];
  rest = m.rest;
}

abbrev pub IsHandoffDirection : DirectionFields → Type 0
IsHandoffDirection m = IsOf direction_shape (direction_contents m)

-- READ
-- the place of HARD_INCLUDED: after the search parameters if SEARCH_INCLUDED is 1
unfoldable pub hard_place : List Bool → ℕ
hard_place bits = if number_at 9 1 bits == 1 then 34 else 10

-- whether HARD_INCLUDED is present and 1
unfoldable pub is_hard : List Bool → Bool
is_hard bits = number_at (hard_place bits) 1 bits == 1

unfoldable pub search_of : List ℕ → Search
search_of values = record {
  wina = get_or values 0 0;
  tadd = get_or values 1 0;
  tdrop = get_or values 2 0;
  tcomp = get_or values 3 0;
  ttdrop = get_or values 4 0;
}

unfoldable pub direction_of : List ℕ → Option Search → List Bool → List ℕ → List ℕ → List ℕ →
    List Bool → DirectionFields
direction_of times search extra pns combs rows rest = record {
  use_time = get_or times 0 0;
  action = get_or times 1 0;
  hdm = get_or times 2 0;
  search = search;
  extra = extra;
  pns = pns;
  combs = combs;
  rows = rows;
  rest = rest;
}

abbrev pub search_from : Option (List ℕ) → Option Search
search_from None = None
search_from (Some values) = Some (search_of values)

-- the message with these contents
abbrev pub direction_from : Contents → DirectionFields
direction_from c =
    direction_of c.fixed (search_from c.group) c.octets (get_or c.columns 0 [])
    (get_or c.columns 1 []) (get_or c.columns 2 []) c.rest
