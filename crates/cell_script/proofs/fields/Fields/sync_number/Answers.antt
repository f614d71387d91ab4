use Rattle.cell_script.proofs.ScriptKeys.{narrow_sync_width}
use Rattle.cell_script.proofs.fields.Fields.sync_number.Goals as goal

pub number-requires : goal.number-requires
number-requires c = narrow_sync_width c.args.place _ c.sync_width.ensures
