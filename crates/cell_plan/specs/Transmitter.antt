-- The meaning of the transmitter's parts.
use Rattle.cell_plan.specs.Common.{Pair, IsState, Width, Sixteen, Eight, IsSyncMessage, SyncFields}
use Rattle.cell_plan.specs.Common.{CellIdentity, CellPlan, SyncPlan}
use Rattle.std.specs.Prelude.{ℕ, ◌+◌, ◌-◌, ◌*◌, ◌<◌, ◌≤◌, ◌%◌, ℤ, unsigned_abs, Option, None, Some}
use Rattle.cdma_io.specs.declared.header.Header.{Header}

-- a cell: the width of its samples, its plan, and the number of samples it has returned
pub record CellState : Type 0 where
  pub width : Width
  pub plan : CellPlan
  pub given : ℕ

-- the version of a file of this width
abbrev pub version_of : Width → ℕ
version_of Sixteen = 1
version_of Eight = 2

-- the header of a cell's file
abbrev pub header_of : Width → CellPlan → Header
header_of width plan =
    record {
      version = version_of width;
      check30 = plan.cell.check30;
      check16 = plan.cell.check16;
      count = plan.link.samples;
    }

-- the transmissions of a message by a cell
pub record Sent : Type 0 where
  pub cell : CellIdentity
  pub message : SyncFields

-- a cell that can send a message: the values that each transmission fills in fit their fields
pub record IsSendable (cell : CellIdentity) (m : SyncFields) : Type 0 where
  pub pn : cell.pn < 512
  pub time : cell.time ≤ 34359738368
  pub lc : IsState cell.lc
  pub message : IsSyncMessage m

-- the code's phase at a local chip
abbrev pub phase_at : CellPlan → ℕ → ℕ
phase_at plan chip = (chip + 32768 - 64 * plan.cell.pn) % 32768

-- two signs, and the point that they define
abbrev pub IsPoint : ℤ × ℤ → Type 0
IsPoint signs = (unsigned_abs signs.0 ≤ 1) × (unsigned_abs signs.1 ≤ 1)

abbrev pub point_of : ℤ × ℤ → Pair
point_of signs = record { i = signs.0; q = signs.1 }

-- the message of a plan's sync channel can be sent
abbrev pub IsSendableSync : CellPlan → Option SyncPlan → Type 0
IsSendableSync plan None = Unit {0}
IsSendableSync plan (Some sync) = IsSendable plan.cell sync.message
