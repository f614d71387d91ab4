use Rattle.cell_script.proofs.Common.{arith, codes, ints, refl, written_cell, common_steps}
use Rattle.cell_script.proofs.ScriptKeys.{ascii_key}
use Rattle.cell_script.proofs.spelling.append_cell.Goals as goal

pub append_field-requires-clause-ascii : goal.append_field-requires-clause-ascii
append_field-requires-clause-ascii c = ascii_key (codes "cell pn=") refl

pub append_field-requires-2-clause-ascii : goal.append_field-requires-2-clause-ascii
append_field-requires-2-clause-ascii c = ascii_key (codes " time=") refl

pub append_field-requires-3-clause-ascii : goal.append_field-requires-3-clause-ascii
append_field-requires-3-clause-ascii c = ascii_key (codes " lc=") refl

pub append_field-requires-4-clause-ascii : goal.append_field-requires-4-clause-ascii
append_field-requires-4-clause-ascii c = ascii_key (codes " checks=") refl

pub returns : goal.returns
unfolding written_cell
returns c = grind (ints, arith, common_steps)

pub append_field-requires-2-clause-room : goal.append_field-requires-2-clause-room
append_field-requires-2-clause-room c = grind (ints, arith, common_steps)

pub append_field-requires-4-clause-room : goal.append_field-requires-4-clause-room
append_field-requires-4-clause-room c = grind (ints, arith, common_steps)

pub append_field-requires-3-clause-room : goal.append_field-requires-3-clause-room
append_field-requires-3-clause-room c = grind (ints, arith, common_steps)
