-- The Neighbor List Message (TIA/EIA-95-B, 7.7.2.3.2.3).
use Rattle.paging_message.specs.Common.{plain_contents, plain_shape, MessageShape, Contents}
use Rattle.std.specs.Prelude.{ℕ, List, [], ◌∷◌, codes, get_or, Some}
use Rattle.paging_message.specs.Spelling.{IsSpelled}
use Rattle.paging_message.specs.declared.neighbors.NeighborFields.{NeighborFields}

-- the widths of the first fields, and their names
abbrev pub neighbor_widths : List ℕ
neighbor_widths = 9 ∷ 6 ∷ 4 ∷ []

abbrev pub neighbor_names : List (List ℕ)
neighbor_names = codes "pn" ∷ codes "seq" ∷ codes "inc" ∷ []

-- the layout: these fields, then the configuration and the offset of as many neighbors as fit
abbrev pub neighbor_shape : MessageShape
neighbor_shape = plain_shape neighbor_widths (3 ∷ 9 ∷ []) 0 (Some 7)

-- the values of the first fields, in the order of the table
abbrev pub neighbor_values : NeighborFields → List ℕ
neighbor_values m = m.pn ∷ m.seq ∷ m.inc ∷ []

-- the content of the message
abbrev pub neighbor_contents : NeighborFields → Contents
neighbor_contents m = plain_contents (neighbor_values m) (m.configs ∷ m.pns ∷ [] ∷ []) m.rest

abbrev pub IsNeighborList : NeighborFields → Type 0
IsNeighborList m = IsSpelled 3 neighbor_shape (neighbor_contents m)

-- the message with this content
abbrev pub neighbors_from : Contents → NeighborFields
neighbors_from c = record {
  pn = get_or c.fixed 0 0;
  seq = get_or c.fixed 1 0;
  inc = get_or c.fixed 2 0;
  configs = get_or c.columns 0 [];
  pns = get_or c.columns 1 [];
  rest = c.rest;
}
