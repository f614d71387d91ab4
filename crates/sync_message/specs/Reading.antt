-- The message that a capsule spells, as a function of its bits: each field is the number at its
-- place.
use Rattle.sync_message.specs.Common.{if_spelled, SyncFields}
use Rattle.std.specs.Prelude.{◌-◌, ◌%◌, ◌==◌, ◌&&◌, Bool, if◌then◌else◌, List, length, take, drop}
use Rattle.std.specs.Prelude.{nat_le, Option, None}
use Rattle.chip_core.specs.declared.check_form.CheckForm.{CheckForm}
use Rattle.sync_message.specs.Layouts.{sync_body_reading}
use Rattle.sync_message.specs.SyncMessage.{sync_capsule}

-- whether a list has whole octets, at most 148
abbrev pub is_whole_capsule : List Bool → Bool
is_whole_capsule capsule = length capsule % 8 == 0 && nat_le (length capsule) 1184

-- the message whose capsule is the list
unfoldable pub sync_reading : CheckForm → List Bool → Option SyncFields
sync_reading form capsule =
    if is_whole_capsule capsule then if_spelled (sync_capsule form) capsule
    (sync_body_reading (take (length capsule - 38) (drop 8 capsule))) else None
