-- The CDMA Channel List Message (TIA/EIA-95-B, 7.7.2.3.2.4).
use Rattle.paging_message.specs.Common.{plain_contents, plain_shape, MessageShape, Contents}
use Rattle.std.specs.Prelude.{ℕ, List, [], ◌∷◌, codes, get_or, Some}
use Rattle.paging_message.specs.Spelling.{IsSpelled}
use Rattle.paging_message.specs.declared.channels.ChannelFields.{ChannelFields}

-- the widths of the first fields, and their names
abbrev pub channel_widths : List ℕ
channel_widths = 9 ∷ 6 ∷ []

abbrev pub channel_names : List (List ℕ)
channel_names = codes "pn" ∷ codes "seq" ∷ []

-- the layout: these fields, then as many frequencies as fit
abbrev pub channel_shape : MessageShape
channel_shape = plain_shape channel_widths (11 ∷ []) 0 (Some 7)

-- the values of the first fields, in the order of the table
abbrev pub channel_values : ChannelFields → List ℕ
channel_values m = m.pn ∷ m.seq ∷ []

-- the content of the message
abbrev pub channel_contents : ChannelFields → Contents
channel_contents m = plain_contents (channel_values m) (m.freqs ∷ [] ∷ [] ∷ []) m.rest

abbrev pub IsChannelList : ChannelFields → Type 0
IsChannelList m = IsSpelled 4 channel_shape (channel_contents m)

-- the message with this content
abbrev pub channels_from : Contents → ChannelFields
channels_from c = record {
  pn = get_or c.fixed 0 0;
  seq = get_or c.fixed 1 0;
  freqs = get_or c.columns 0 [];
  rest = c.rest;
}
