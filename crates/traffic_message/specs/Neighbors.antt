-- The Neighbor List Update Message (TIA/EIA-95-B, 7.7.3.3.2.8).
use Rattle.traffic_message.specs.Common.{plain_contents, plain_shape, MessageShape, IsOf, Contents}
use Rattle.std.specs.Prelude.{ℕ, List, [], ◌∷◌, get_or, Some}
use Rattle.traffic_message.specs.Widths.{update_widths}
use Rattle.traffic_message.specs.declared.fields.UpdateFields.{UpdateFields}

-- the step of offsets, then the offsets of as many neighbors as fit, at least one
abbrev pub update_shape : MessageShape
update_shape = plain_shape update_widths (9 ∷ []) 1 (Some 7)

-- the value of the field in the table
abbrev pub update_values : UpdateFields → List ℕ
update_values m = m.inc ∷ []

-- the contents of the message, which fit
abbrev pub update_contents : UpdateFields → Contents
update_contents m = plain_contents (update_values m) (m.pns ∷ [] ∷ [] ∷ []) m.rest

abbrev pub IsNeighborUpdate : UpdateFields → Type 0
IsNeighborUpdate m = IsOf update_shape (update_contents m)

-- the message with these contents
abbrev pub update_from : Contents → UpdateFields
update_from c = record { inc = get_or c.fixed 0 0; pns = get_or c.columns 0 []; rest = c.rest }
