use Rattle.paging_message.proofs.Common.{ap, ◌∙◌, body_reading}
use Rattle.paging_message.proofs.Messages.{body_found, reads_body}
use Rattle.paging_message.proofs.message.PagingMessage.from_body.Goals as goal

pub returns-clause-found : goal.returns-clause-found
returns-clause-found c = body_found c.args.body.now c.read.result (c.read.ensures ∙ ap body_reading c.whole.ensures)

pub returns-clause-only : goal.returns-clause-only
returns-clause-only c m is same = c.read.ensures ∙ ap body_reading (c.whole.ensures ∙ same) ∙ reads_body m is
