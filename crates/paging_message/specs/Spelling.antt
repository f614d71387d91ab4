-- Bodies of messages: the message type, and the content by the type's layout.
use Rattle.paging_message.specs.Common.{binary, MessageShape, Contents, FillsCapsule, M30}
use Rattle.std.specs.Prelude.{ℕ, ◌^◌, ◌<◌, ◌++◌, Bool, List}
use Rattle.message_layout.specs.Spelling.{spelling, IsOf}

abbrev pub body_of : ℕ → MessageShape → Contents → List Bool
body_of kind s c = binary 8 kind ++ spelling s c

-- the contents have a spelling by the layout, the type fits its width, and the body fills a capsule
pub record IsSpelled (kind : ℕ) (s : MessageShape) (c : Contents) : Type 0 where
  pub typed : kind < 2 ^ 8
  pub said : IsOf s c
  pub fills : FillsCapsule M30 (body_of kind s c)
