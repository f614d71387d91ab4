-- The bodies of messages, by their type and length.
use Rattle.paging_message.specs.Common.{has_length}
use Rattle.std.specs.Prelude.{◌≡◌, ℕ, ◌-◌, ◌&&◌, Bool, List, nat_le}
use Rattle.paging_message.specs.Layouts.{paging_shape_of}
use Rattle.paging_message.specs.Messages.{message_body, IsPagingMessage}
use Rattle.paging_message.specs.declared.message.PagingMessage.{PagingMessage}

-- whether a body of this type may have `count` bits: the type, and what the type's layout admits
unfoldable pub admits : ℕ → ℕ → Bool
admits kind count = nat_le 8 count && has_length (paging_shape_of kind) (count - 8)

-- a message that a body spells
pub record HasMessage (body : List Bool) : Type 0 where
  pub message : PagingMessage
  pub spelled : IsPagingMessage message
  pub same : body ≡ message_body message
