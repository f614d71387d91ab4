-- The samples of a cell as a sample file contains them.
use Rattle.cell_plan.specs.Common.{Pair, CellPlan}
use Rattle.std.specs.Prelude.{List, map}
use Rattle.chip_core.specs.declared.sample.Sample.{Sample}
use Rattle.cell_plan.specs.Signal.{samples_of}

-- the sample with the parts of a complex number
abbrev pub sample_with : Pair → Sample
sample_with z = record { i = z.i; q = z.q }

-- the samples of a cell
unfoldable pub made_samples : CellPlan → List Sample
made_samples plan = map sample_with (samples_of plan)
