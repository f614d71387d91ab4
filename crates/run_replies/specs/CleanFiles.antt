-- A clean link whose cell a script names.
use Rattle.run_replies.specs.Common.{Sample, Width, Header, best_phase, energy, made_samples}
use Rattle.run_replies.specs.Common.{phase_at, CellPlan, plan_named, events, Traffic, tuning_to}
use Rattle.run_replies.specs.Common.{IsNotDirected}
use Rattle.std.specs.Prelude.{ℕ, ◌≡◌, List, take, All, Option, Ok}

-- A file contains what a script's cell sends: its flags and samples are the cell's, the search
-- finds the cell's path, and there is one finger. The link's delay is in the chip at which the file
-- starts, and its rotation and strength are in the factor.
pub record IsCellFile (width : Width) (script : List ℕ) (plan : CellPlan) (span fingers : ℕ)
    (header : Header) (samples : List Sample) : Type 0 where
  pub named : plan_named width script ≡ Ok plan
  pub sent : samples ≡ made_samples plan
  pub checks_of_30 : header.check30 ≡ plan.cell.check30
  pub checks_of_16 : header.check16 ≡ plan.cell.check16
  pub found : best_phase (take span samples) ≡ phase_at plan plan.link.start
  pub alone : fingers ≡ 1

-- the energy of the first `span` samples of a cell at its phase
abbrev pub cell_energy : ℕ → CellPlan → ℕ
cell_energy span plan = energy (take span (made_samples plan)) (phase_at plan plan.link.start)

-- Such a file is a clean link if no message received on the followed traffic channel, if any,
-- directs a handoff.
pub record IsCleanLink (width : Width) (script : List ℕ) (plan : CellPlan) (span : ℕ)
    (fingers paging : ℕ) (traffic : Option Traffic) (header : Header)
    (samples : List Sample) : Type 0 where
  pub file : IsCellFile width script plan span fingers header samples
  pub undirected : All IsNotDirected
      (events (tuning_to plan (cell_energy span plan) paging traffic) samples)
