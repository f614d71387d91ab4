use Rattle.cell_script.proofs.Common.{refl}
use Rattle.cell_script.proofs.ScriptRows.{first_rows}
use Rattle.cell_script.proofs.judge.ChannelRows.none.Goals as goal

pub returns-clause-seen : goal.returns-clause-seen
returns-clause-seen c = first_rows _ _ _ c.from-pilot.ensures c.from-sync.ensures refl refl refl refl
