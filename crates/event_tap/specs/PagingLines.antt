-- The lines of the messages of the paging channel, in the style of the lines of events, and of the
-- slots of a sleeping handset.
use Rattle.std.specs.Prelude.{ℕ, List, ◌++◌, codes, decimal}
use Rattle.paging_message.specs.Layouts.{paging_names_of, paging_shape_of}
use Rattle.paging_message.specs.Messages.{contents_of, paging_kind_of}
use Rattle.paging_message.specs.declared.message.PagingMessage.{PagingMessage}
use Rattle.event_tap.specs.SaidTexts.{message_text}

-- `paging at=A`
abbrev pub paging_start : ℕ → List ℕ
paging_start place = codes "paging at=" ++ decimal place

-- the line of a message that was decoded after `place` samples: `paging at=A`, and its contents by
-- its type's row in the table of types
unfoldable pub paging_line : ℕ → PagingMessage → List ℕ
paging_line place m =
    let kind = paging_kind_of m in
    paging_start place
    ++ message_text kind (paging_names_of kind) (paging_shape_of kind).records (contents_of m)

-- `slot at=A time=T messages=C` and LF, the first line of a slot: the number of samples after which
-- it ends, its system time in units of 80 ms, and the number of messages in it
unfoldable pub slot_line : ℕ → ℕ → ℕ → List ℕ
slot_line place time messages =
    codes "slot at=" ++ decimal place ++ codes " time=" ++ decimal time ++ codes " messages="
    ++ decimal messages ++ codes "\n"
