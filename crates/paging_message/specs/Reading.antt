-- The message that a body or a capsule spells, as a function of its bits: each field is the number
-- at its place.
use Rattle.paging_message.specs.Common.{CheckForm, list_said, if_spelled}
use Rattle.std.specs.Prelude.{ℕ, ◌-◌, ◌%◌, ◌==◌, ◌&&◌, if◌then◌else◌, Bool, List, length, take}
use Rattle.std.specs.Prelude.{drop, nat_le, Option, Some, None}
pub use Rattle.chip_core.specs.Readings.{number_at}
use Rattle.paging_message.specs.Admitted.{admits}
use Rattle.paging_message.specs.Layouts.{paging_shape_of}
use Rattle.paging_message.specs.Messages.{message_from, paging_capsule}
use Rattle.paging_message.specs.declared.message.PagingMessage.{PagingMessage}

-- the message of this type with these bits after the type
unfoldable pub message_at : ℕ → List Bool → PagingMessage
message_at kind bits =
    message_from kind (list_said (paging_shape_of kind).fixed (paging_shape_of kind).records bits)

-- whether the length is that of a capsule's body, and the message type admits it
unfoldable pub is_body : List Bool → Bool
is_body body =
    length body % 8 == 2 && (nat_le (length body) 1146 && admits (number_at 0 8 body) (length body))

-- the message whose body is this list
unfoldable pub body_reading : List Bool → Option PagingMessage
body_reading body = if is_body body then Some
    (message_at (number_at 0 8 body) (drop 8 body)) else None

-- the message whose capsule is this list
unfoldable pub paging_reading : CheckForm → List Bool → Option PagingMessage
paging_reading form capsule =
    if_spelled (paging_capsule form) capsule
    (body_reading (take (length capsule - 38) (drop 8 capsule)))
