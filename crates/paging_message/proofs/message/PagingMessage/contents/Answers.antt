use Rattle.paging_message.proofs.Common.{subst, sym, IsPagingMessage}
use Rattle.paging_message.proofs.message.PagingMessage.contents.Goals as goal

pub returns-in-System-clause-spelled : goal.returns-in-System-clause-spelled
returns-in-System-clause-spelled c = subst IsPagingMessage (sym c.in-System.is) c.contents.ensures.spelled
