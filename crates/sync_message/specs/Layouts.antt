-- The layout after the message type, and the message as contents of that layout.
use Rattle.sync_message.specs.Common.{SyncFields}
use Rattle.std.specs.Prelude.{ℕ, ◌==◌, if◌then◌else◌, Bool, List, [], ◌∷◌, get_or, Option, None}
use Rattle.std.specs.Prelude.{Some}
use Rattle.message_layout.specs.Reading.{◌>>=◌, mapped, number_part, reading}
use Rattle.message_layout.specs.Shapes.{MessageShape}
use Rattle.message_layout.specs.declared.contents.Contents.{Contents}
use Rattle.message_layout.specs.declared.layout.Presence.TheVariants.{UnlessLeft}
use Rattle.sync_message.specs.Rows.{freq_row, sync_values, sync_widths}

-- the frequency is present unless 3 bits are left
abbrev pub sync_message_shape : MessageShape
sync_message_shape = record {
  fixed = sync_widths;
  presence = UnlessLeft 3;
  group = freq_row.width ∷ [];
  zeros = 0;
  count = 0;
  records = [];
  least = 0;
  most = None;
}

abbrev pub freq_group : Option ℕ → Option (List ℕ)
freq_group None = None
freq_group (Some freq) = Some (freq ∷ [])

abbrev pub freq_from : Option (List ℕ) → Option ℕ
freq_from None = None
freq_from (Some values) = Some (get_or values 0 0)

abbrev pub sync_contents : SyncFields → Contents
sync_contents m = record {
  fixed = sync_values m;
  group = freq_group m.freq;
  octets = [];
  columns = [] ∷ [] ∷ [] ∷ [];
  rest = m.rest;
}

-- the message with these values
unfoldable pub sync_of : List ℕ → Option ℕ → List Bool → SyncFields
sync_of values freq rest = record {
  prev = get_or values 0 0;
  min = get_or values 1 0;
  sid = get_or values 2 0;
  nid = get_or values 3 0;
  pn = get_or values 4 0;
  lc = get_or values 5 0;
  time = get_or values 6 0;
  lp = get_or values 7 0;
  ltm = get_or values 8 0;
  daylt = get_or values 9 0;
  prat = get_or values 10 0;
  freq = freq;
  rest = rest;
}

abbrev pub sync_from : Contents → SyncFields
sync_from c = sync_of c.fixed (freq_from c.group) c.rest

-- the message that a body spells after its type, 1
unfoldable pub sync_body_reading : List Bool → Option SyncFields
sync_body_reading body = do
  kind ← number_part 8 body
  if kind.0 == 1 then mapped sync_from (reading sync_message_shape kind.1) else None
