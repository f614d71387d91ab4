-- The bounds of the content of a statement.
use Rattle.cell_script.specs.Common.{IsStatedCell, IsStatedLink, IsTrafficFrame, Statement}
use Rattle.std.specs.Prelude.{◌≤◌, ◌<◌}
use Rattle.chip_core.specs.Complex.{norm}
use Rattle.sync_message.specs.SyncMessage.{IsSyncMessage}
use Rattle.paging_message.specs.Admitted.{HasMessage}
use Rattle.quality_bits.specs.Capsules.{FillsCapsule}
use Rattle.quality_bits.specs.declared.kind.Kind.TheVariants.{M30}
use Rattle.cell_script.specs.declared.statements.Statement.TheVariants as statements

-- the row of a channel is a Walsh row
abbrev pub HasRow : Statement → Type 0
HasRow (statements.Cell cell) = Unit {0}
HasRow (statements.Link link) = Unit {0}
HasRow (statements.Pilot pilot) = Unit {0}
HasRow (statements.Sync sync) = Unit {0}
HasRow (statements.Paging line) = line.number < 64
HasRow (statements.Page page) = Unit {0}
HasRow (statements.Traffic line) = line.row < 64
HasRow (statements.Frame frame) = Unit {0}

-- the content of a statement is within its bounds
abbrev pub IsLawfulStatement : Statement → Type 0
IsLawfulStatement (statements.Cell cell) = IsStatedCell cell
IsLawfulStatement (statements.Link link) = IsStatedLink link × (0 < norm link.factor)
IsLawfulStatement (statements.Pilot pilot) = Unit {0}
IsLawfulStatement (statements.Sync sync) = IsSyncMessage sync.message
IsLawfulStatement (statements.Paging line) = (1 ≤ line.number) × (line.number ≤ 7)
IsLawfulStatement (statements.Page page) = FillsCapsule M30 page.body × HasMessage page.body
IsLawfulStatement (statements.Traffic line) = (line.row ≤ 63) × (line.offset ≤ 15)
IsLawfulStatement (statements.Frame frame) = IsTrafficFrame frame
