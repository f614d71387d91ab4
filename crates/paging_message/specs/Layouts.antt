-- The table of layouts of the message types that have fields of their own.
use Rattle.paging_message.specs.Common.{LineNames, MessageShape}
use Rattle.std.specs.Prelude.{ℕ, ◌≡◌, ◌==◌, if◌then◌else◌, Bool, false, List, [], ◌∷◌, codes}
use Rattle.std.specs.List.{list_any}
use Rattle.paging_message.specs.Channels.{channel_names, channel_shape}
use Rattle.paging_message.specs.Neighbors.{neighbor_names, neighbor_shape}
use Rattle.paging_message.specs.Others.{other_contents, other_shape}
use Rattle.paging_message.specs.Spelling.{IsSpelled}
use Rattle.paging_message.specs.System.{system_names, system_shape}
use Rattle.paging_message.specs.declared.other.OtherFields.{OtherFields}

-- a message type: its number, the names in its line, and the layout of the content after the type
pub record MessageType : Type 0 where
  pub kind : ℕ
  pub names : LineNames
  pub shape : MessageShape

abbrev message_type : ℕ → List ℕ → List (List ℕ) → List ℕ → MessageShape → MessageType
message_type kind word fixed list shape = record {
  kind = kind;
  names = record { word = word; fixed = fixed; list = list };
  shape = shape;
}

-- the message types with fields of their own
abbrev pub own_types : List MessageType
own_types =
    message_type 1 (codes "system") system_names [] system_shape
    ∷ message_type 3 (codes "neighbors") neighbor_names (codes "pilots") neighbor_shape
    ∷ message_type 4 (codes "channels") channel_names (codes "freqs") channel_shape
    ∷ []

-- any other message type, which has neither fields nor names
abbrev pub other_type : ℕ → MessageType
other_type kind = message_type kind [] [] [] other_shape

-- whether a type is in a table, and its row there
abbrev pub has_type : List MessageType → ℕ → Bool
has_type types kind = list_any (λ row. kind == row.kind) types

abbrev pub type_in : List MessageType → ℕ → MessageType
type_in [] kind = other_type kind
type_in (row ∷ types) kind = if kind == row.kind then row else type_in types kind

-- the layout of a message type, and the names in its line
abbrev pub paging_shape_of : ℕ → MessageShape
paging_shape_of kind = (type_in own_types kind).shape

abbrev pub paging_names_of : ℕ → LineNames
paging_names_of kind = (type_in own_types kind).names

-- a message without fields of its own, whose type is not in the table
pub record IsOther (m : OtherFields) : Type 0 where
  pub spelled : IsSpelled m.kind other_shape (other_contents m)
  pub other : has_type own_types m.kind ≡ false
