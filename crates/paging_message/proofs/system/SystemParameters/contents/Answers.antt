use Rattle.paging_message.proofs.Common.{subst, IsSystem}
use Rattle.paging_message.proofs.system.SystemParameters.contents.Goals as goal

pub returns-clause-spelled : goal.returns-clause-spelled
returns-clause-spelled c = subst IsSystem c.self.view_is c.self.invariant
