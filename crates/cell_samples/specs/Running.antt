-- The state of a running cell before the next sample.
use Rattle.std.specs.Prelude.{◌≡◌, ℕ, ◌≤◌, map}
use Rattle.chip_core.specs.declared.width.Width.{Width}
use Rattle.cell_plan.specs.declared.plan.CellPlan.{CellPlan}
use Rattle.cell_plan.specs.Plan.{IsLawfulPlan}
use Rattle.cell_plan.specs.Signal.{carriers}
use Rattle.cell_samples.specs.Blocks.{BlockState}
use Rattle.cell_samples.specs.Channels.{carrier_of}

pub record IsRunning (width : Width) (plan : CellPlan) (block : BlockState) (given : ℕ) :
    Type 0 where
  pub lawful : IsLawfulPlan width plan
  pub within : given ≤ plan.link.samples
  pub sent : map carrier_of block.channels ≡ carriers plan
  pub link : block.factor ≡ plan.link.factor
