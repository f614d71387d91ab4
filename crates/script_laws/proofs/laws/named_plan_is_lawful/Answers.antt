use Rattle.cell_script.proofs.NamedPages.{named_receivable}
use Rattle.cell_script.proofs.NamedPlans.{named_plan}
use Rattle.script_laws.proofs.laws.named_plan_is_lawful.Goals as goal

pub returns-clause-lawful : goal.returns-clause-lawful
returns-clause-lawful c = named_plan

pub returns-clause-receivable : goal.returns-clause-receivable
returns-clause-receivable c = named_receivable
