use Rattle.cell_script.proofs.Common.{arith, codes, ints, refl, written_traffic, common_steps}
use Rattle.cell_script.proofs.ScriptKeys.{ascii_key}
use Rattle.cell_script.proofs.spelling.append_traffic.Goals as goal

pub append_field-requires-clause-ascii : goal.append_field-requires-clause-ascii
append_field-requires-clause-ascii c = ascii_key (codes "traffic row=") refl

pub append_field-requires-2-clause-ascii : goal.append_field-requires-2-clause-ascii
append_field-requires-2-clause-ascii c = ascii_key (codes " esn=") refl

pub append_field-requires-3-clause-ascii : goal.append_field-requires-3-clause-ascii
append_field-requires-3-clause-ascii c = ascii_key (codes " offset=") refl

pub append_field-requires-4-clause-ascii : goal.append_field-requires-4-clause-ascii
append_field-requires-4-clause-ascii c = ascii_key (codes " gain=") refl

pub returns : goal.returns
unfolding written_traffic
returns c = grind (ints, arith, common_steps)

pub append_field-requires-3-clause-room : goal.append_field-requires-3-clause-room
append_field-requires-3-clause-room c = grind (ints, arith, common_steps)

pub append_field-requires-2-clause-room : goal.append_field-requires-2-clause-room
append_field-requires-2-clause-room c = grind (ints, arith, common_steps)

pub append_field-requires-4-clause-room : goal.append_field-requires-4-clause-room
append_field-requires-4-clause-room c = grind (ints, arith, common_steps)
