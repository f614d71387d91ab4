use Rattle.cell_script.proofs.Common.{codes, refl}
use Rattle.cell_script.proofs.ScriptKeys.{ascii_key}
use Rattle.cell_script.proofs.spelling.append_paging.Goals as goal

pub append_field-requires-clause-ascii : goal.append_field-requires-clause-ascii
append_field-requires-clause-ascii c = ascii_key (codes "paging channel=") refl

pub append_field-requires-2-clause-ascii : goal.append_field-requires-2-clause-ascii
append_field-requires-2-clause-ascii c = ascii_key (codes " gain=") refl
