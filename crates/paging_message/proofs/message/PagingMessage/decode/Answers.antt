use Rattle.paging_message.proofs.Common.{rules, decodes_capsule, decodes_no_capsule}
use Rattle.paging_message.proofs.Readings.{are_read}
use Rattle.paging_message.proofs.message.PagingMessage.decode.Goals as goal

pub returns-in_err-count : goal.returns-in_err-count
returns-in_err-count c =
    decodes_no_capsule _ (are_read c.args.form) _ _ c.in_err-count.ensures.only c.in_err-count.ensures.bad_length
    c.in_err-count.ensures.bad_check (search rules)

pub returns : goal.returns
returns c =
    decodes_capsule _ (are_read c.args.form) _ _ _ (rw c.of-body.ensures c.in_ok-count.ensures.found) c.read.ensures
    c.ok_or.ensures.value
