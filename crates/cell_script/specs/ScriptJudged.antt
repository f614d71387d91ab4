-- The knowledge of a plan while the lines that state it are checked.
use Rattle.cell_script.specs.Common.{Width, CellPlan, Statement, ScriptFault, sync_gain}
use Rattle.std.specs.Prelude.{◌≡◌, ℕ, ◌+◌, ◌*◌, ◌<◌, ◌^◌, false, length, get_or, List, [], ◌∷◌, Ok}
use Rattle.std.specs.Prelude.{◌++◌, Option, unsigned_abs}
use Rattle.std.specs.Option.{option_or}
use Rattle.cell_script.specs.declared.judge.Judge.{Judge}
use Rattle.cell_script.specs.declared.judge.ChannelRows.{ChannelRows}
use Rattle.cell_script.specs.Script.{ChannelLine, channel_lines, first_channels, gain_fault, silent}
use Rattle.cell_script.specs.Script.{is_used, long_fault, loud_fault, repeated, stated_plan}
use Rattle.cell_script.specs.Script.{walsh_fault}
use Rattle.cell_script.specs.declared.statements.Statement.TheVariants as statements

abbrev pub gains_of : List ChannelLine → ℕ
gains_of [] = 0
gains_of (l ∷ ls) = l.gain + gains_of ls

-- what is known of the channels with these lines, and of the rows of the pilot and the sync channel
pub record HasSeen (rows : ChannelRows) (ls : List ChannelLine) : Type 0 where
  pub long : length rows.used ≡ 64
  pub used : (k : ℕ) → k < 64 → get_or rows.used k false ≡ is_used k (first_channels ++ ls)
  pub repeated : rows.repeated ≡ repeated ls
  pub silent : rows.silent ≡ silent ls
  pub gains : rows.gains ≡ gains_of ls

-- a judge that knows this plan
pub record HasJudged (judge : Judge) (plan : CellPlan) : Type 0 where
  pub link : judge.link ≡ plan.link
  pub pilot : judge.pilot ≡ plan.pilot
  pub sync : judge.sync ≡ plan.sync
  pub channels : HasSeen judge.channels (channel_lines plan)

-- a statement whose channel comes after those of a plan: no paging channel comes after a traffic
-- channel
abbrev pub IsInOrder : CellPlan → Statement → Type 0
IsInOrder plan (statements.Cell cell) = Unit {0}
IsInOrder plan (statements.Link link) = Unit {0}
IsInOrder plan (statements.Pilot pilot) = Unit {0}
IsInOrder plan (statements.Sync sync) = Unit {0}
IsInOrder plan (statements.Paging line) = plan.traffic ≡ []
IsInOrder plan (statements.Page page) = Unit {0}
IsInOrder plan (statements.Traffic line) = Unit {0}
IsInOrder plan (statements.Frame frame) = Unit {0}

-- a judge that has read a whole script
pub record IsJudged (script : List ℕ) (judge : Judge) : Type 0 where
  pub plan : CellPlan
  pub stated : stated_plan script ≡ Ok plan
  pub judged : HasJudged judge plan
  pub few : judge.channels.gains < 2 ^ 40

abbrev pub judged_loudness : Judge → ℕ
judged_loudness judge =
    (unsigned_abs judge.link.factor.i + unsigned_abs judge.link.factor.q)
    * (judge.pilot.gain + (sync_gain judge.sync + judge.channels.gains))

abbrev pub judged_fault : Width → Judge → Option ScriptFault
judged_fault width judge =
    option_or (walsh_fault judge.channels.repeated)
    (option_or (gain_fault judge.pilot judge.sync judge.channels.silent)
    (option_or (loud_fault width (judged_loudness judge))
    (long_fault width judge.link.samples)))
