-- The capsule of the transmission that is kept.
use Rattle.std.specs.Prelude.{◌≡◌, ℕ, ◌≤◌, Bool, List}
use Rattle.sync_message.specs.SyncMessage.{sync_capsule}
use Rattle.sync_message.specs.declared.fields.SyncFields.{SyncFields}
use Rattle.cell_plan.specs.declared.plan.CellIdentity.{CellIdentity}
use Rattle.cell_plan.specs.Sendings.{message_of, superframes_a_sending}
use Rattle.cell_plan.specs.Transmitter.{IsSendable}

pub record IsKeptCapsule (cell : CellIdentity) (m : SyncFields) (superframes kept : ℕ)
    (capsule : List Bool) : Type 0 where
  pub sendable : IsSendable cell m
  pub needed : superframes ≡ superframes_a_sending cell m
  pub some : 1 ≤ superframes
  pub few : superframes ≤ 13
  pub spelled : capsule ≡ sync_capsule cell.check30 (message_of cell m kept)
