use Rattle.cell_script.proofs.Common.{local_rows, network_rows, sym}
use Rattle.cell_script.proofs.ScriptBounds.{numbers_up_to}
use Rattle.cell_script.proofs.statements.sync_in.Goals as goal

pub sync_after-requires-clause-network : goal.sync_after-requires-clause-network
sync_after-requires-clause-network c =
    numbers_up_to network_rows _ c.in_ok-network.network (sym c.in_ok-network.ensures.value)

pub sync_after-requires-clause-local : goal.sync_after-requires-clause-local
sync_after-requires-clause-local c = numbers_up_to local_rows _ c.in_ok-local.local (sym c.in_ok-local.ensures.value)
