use Rattle.script_laws.proofs.LineFaults.{counted, least, missing, refused}
use Rattle.script_laws.proofs.laws.line_fault_is_the_first_that_no_script_has.Goals as goal

pub returns-clause-counted : goal.returns-clause-counted
returns-clause-counted c = counted

pub returns-clause-refused : goal.returns-clause-refused
returns-clause-refused c = refused

pub returns-clause-missing : goal.returns-clause-missing
returns-clause-missing c = missing

pub returns-clause-least : goal.returns-clause-least
returns-clause-least c = least
