-- The In-Traffic System Parameters Message (TIA/EIA-95-B, 7.7.3.3.2.7).
use Rattle.traffic_message.specs.Common.{plain_contents, plain_shape, MessageShape, IsOf, Contents}
use Rattle.std.specs.Prelude.{ℕ, Bool, List, [], ◌∷◌, get_or, None}
use Rattle.traffic_message.specs.Widths.{in_traffic_widths}
use Rattle.traffic_message.specs.declared.fields.InTrafficFields.{InTrafficFields}

-- the values of the fields, in the order of the table
abbrev pub in_traffic_values : InTrafficFields → List ℕ
in_traffic_values m =
    m.sid ∷ m.nid ∷ m.wina ∷ m.winn ∷ m.winr ∷ m.tadd ∷ m.tdrop ∷ m.tcomp ∷ m.ttdrop ∷ m.age ∷ []

-- the fields, and all bits after them
abbrev pub in_traffic_shape : MessageShape
in_traffic_shape = plain_shape in_traffic_widths [] 0 None

-- the contents of the message, which fit
abbrev pub in_traffic_contents : InTrafficFields → Contents
in_traffic_contents m = plain_contents (in_traffic_values m) ([] ∷ [] ∷ [] ∷ []) m.rest

abbrev pub IsInTraffic : InTrafficFields → Type 0
IsInTraffic m = IsOf in_traffic_shape (in_traffic_contents m)

-- the fields with these values
unfoldable pub in_traffic_of : List ℕ → List Bool → InTrafficFields
in_traffic_of values rest = record {
  sid = get_or values 0 0;
  nid = get_or values 1 0;
  wina = get_or values 2 0;
  winn = get_or values 3 0;
  winr = get_or values 4 0;
  tadd = get_or values 5 0;
  tdrop = get_or values 6 0;
  tcomp = get_or values 7 0;
  ttdrop = get_or values 8 0;
  age = get_or values 9 0;
  rest = rest;
}

-- the message with these contents
abbrev pub in_traffic_from : Contents → InTrafficFields
in_traffic_from c = in_traffic_of c.fixed c.rest
