use Rattle.paging_message.proofs.Common.{ap, ◌∙◌, capsule, M30, paging_capsule}
use Rattle.paging_message.proofs.message.PagingMessage.encode.Goals as goal

pub returns : goal.returns
unfolding paging_capsule
returns c = c.capsule_of.ensures ∙ ap (capsule M30 c.args.form) c.body.ensures.value
