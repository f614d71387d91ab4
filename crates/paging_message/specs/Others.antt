-- Messages of other types: the type, and all bits after it.
use Rattle.paging_message.specs.Common.{plain_contents, plain_shape, MessageShape, Contents}
use Rattle.std.specs.Prelude.{ℕ, [], ◌∷◌, None}
use Rattle.paging_message.specs.declared.other.OtherFields.{OtherFields}

abbrev pub other_shape : MessageShape
other_shape = plain_shape [] [] 0 None

-- the content of the message
abbrev pub other_contents : OtherFields → Contents
other_contents m = plain_contents [] ([] ∷ [] ∷ [] ∷ []) m.bits

-- the message of this type with this content
abbrev pub other_from : ℕ → Contents → OtherFields
other_from kind c = record { kind = kind; bits = c.rest }
