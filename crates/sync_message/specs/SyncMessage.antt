-- The Sync Channel Message (TIA/EIA-95-B, 7.7.1.3).
use Rattle.sync_message.specs.Common.{field, IsOf, FillsCapsule, capsule, M30, SyncFields}
use Rattle.std.specs.Prelude.{Bool, List, ◌∷◌, ◌++◌}
use Rattle.chip_core.specs.Bits.{binary}
use Rattle.chip_core.specs.declared.field.Field.{Field}
use Rattle.chip_core.specs.declared.check_form.CheckForm.{CheckForm}
unfoldable pub use Rattle.message_layout.specs.Spelling.{spelling}
use Rattle.sync_message.specs.Layouts.{sync_contents, sync_message_shape}
use Rattle.sync_message.specs.Rows.{in_widths, sync_values, sync_widths}

-- the message type, 1, and the fields that each message has
abbrev pub fixed_fields : SyncFields → List Field
fixed_fields m = field 8 1 ∷ in_widths sync_widths (sync_values m)

-- the type, and the message spelled by its layout
unfoldable pub sync_body : SyncFields → List Bool
sync_body m = binary 8 1 ++ spelling sync_message_shape (sync_contents m)

-- the fields have a spelling
pub record IsSyncMessage (m : SyncFields) : Type 0 where
  pub said : IsOf sync_message_shape (sync_contents m)
  pub fills : FillsCapsule M30 (sync_body m)

unfoldable pub sync_capsule : CheckForm → SyncFields → List Bool
sync_capsule form m = capsule M30 form (sync_body m)
