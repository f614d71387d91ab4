use Rattle.cell_script.proofs.NamedPlans.{named_back}
use Rattle.cell_script.proofs.WrittenPlans.{stated_back}
use Rattle.script_laws.proofs.laws.written_script_names_its_plan.Goals as goal

pub returns-clause-stated : goal.returns-clause-stated
returns-clause-stated c script plan e = (stated_back script plan e).1

pub returns-clause-named : goal.returns-clause-named
returns-clause-named c = named_back
