-- The messages of the paging channel (TIA/EIA-95-B, 7.7.2.3).
use Rattle.paging_message.specs.Common.{CheckForm, Contents, capsule, M30}
use Rattle.std.specs.Prelude.{ℕ, ◌==◌, if◌then◌else◌, Bool, List}
use Rattle.paging_message.specs.Channels.{channel_contents, channels_from}
use Rattle.paging_message.specs.Layouts.{paging_shape_of, IsOther}
use Rattle.paging_message.specs.Neighbors.{neighbor_contents, neighbors_from}
use Rattle.paging_message.specs.Others.{other_contents, other_from}
use Rattle.paging_message.specs.Spelling.{body_of, IsSpelled}
use Rattle.paging_message.specs.System.{system_contents, system_from}
use Rattle.paging_message.specs.declared.message.PagingMessage.{PagingMessage}
use Rattle.paging_message.specs.declared.message.PagingMessage.TheVariants as messages

-- the type of a message, its content, and the message with this type and content
abbrev pub paging_kind_of : PagingMessage → ℕ
paging_kind_of (messages.System m) = 1
paging_kind_of (messages.Neighbors m) = 3
paging_kind_of (messages.Channels m) = 4
paging_kind_of (messages.Other m) = m.kind

abbrev pub contents_of : PagingMessage → Contents
contents_of (messages.System m) = system_contents m
contents_of (messages.Neighbors m) = neighbor_contents m
contents_of (messages.Channels m) = channel_contents m
contents_of (messages.Other m) = other_contents m

abbrev pub message_from : ℕ → Contents → PagingMessage
message_from kind c =
    if kind == 1 then messages.System (system_from c)
    else (if kind == 3 then messages.Neighbors (neighbors_from c)
    else (if kind == 4 then messages.Channels (channels_from c)
    else messages.Other (other_from kind c)))

-- the type, then the content by the type's layout
unfoldable pub message_body : PagingMessage → List Bool
message_body m = body_of (paging_kind_of m) (paging_shape_of (paging_kind_of m)) (contents_of m)

-- the message has a spelling
abbrev pub IsPagingMessage : PagingMessage → Type 0
IsPagingMessage (messages.Other m) = IsOther m
IsPagingMessage m =
    IsSpelled (paging_kind_of m) (paging_shape_of (paging_kind_of m)) (contents_of m)

unfoldable pub paging_capsule : CheckForm → PagingMessage → List Bool
paging_capsule form m = capsule M30 form (message_body m)
