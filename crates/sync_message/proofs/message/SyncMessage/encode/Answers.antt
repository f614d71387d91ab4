use Rattle.sync_message.proofs.Common.{ap, ◌∙◌, capsule, M30, sync_capsule}
use Rattle.sync_message.proofs.message.SyncMessage.encode.Goals as goal

pub returns : goal.returns
unfolding sync_capsule
returns c = c.capsule_of.ensures ∙ ap (capsule M30 c.args.form) c.body.ensures.value
