use Rattle.traffic_message.proofs.Common.{◌≡◌, Some, None, drop, ap, ◌∙◌}
use Rattle.traffic_message.proofs.ByLayout.{lawful, reads_by_form, read_has_fields}
use Rattle.traffic_message.proofs.body.TrafficBody.read.Goals as goal

pub read_from-requires-clause-lawful : goal.read_from-requires-clause-lawful
read_from-requires-clause-lawful c = rw c.layout_of.ensures.shape (lawful c.form_of-form.result)

pub returns-in_err-contents : goal.returns-in_err-contents
returns-in_err-contents c =
    let following = drop c.args.from c.args.bits.now in
    let none : c.from_residual.result ≡ None = cc in
    none ∙ reads_by_form c.args.kind c.args.encryption following c.form_of-form.result _ None
    c.form_of-form.ensures c.layout_of.ensures.shape c.in_err-contents.ensures.reading

pub of-requires : goal.of-requires
of-requires c =
    read_has_fields c.args.kind c.form_of-form.result _ c.in_ok-contents.contents c.layout_of.ensures.shape
    c.in_ok-contents.ensures.found.0

pub returns : goal.returns
returns c =
    let following = drop c.args.from c.args.bits.now in
    ap Some c.of.ensures
    ∙ reads_by_form c.args.kind c.args.encryption following c.form_of-form.result _
    (Some c.in_ok-contents.contents) c.form_of-form.ensures c.layout_of.ensures.shape
    c.in_ok-contents.ensures.reading
