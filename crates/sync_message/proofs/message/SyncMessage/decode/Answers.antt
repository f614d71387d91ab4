use Rattle.sync_message.proofs.Common.{◌≡◌, rules, refl, sym, None, Some, FillsCapsule, M30, capsule}
use Rattle.quality_bits.proofs.Decoded.{decodes_capsule, decodes_no_capsule}
use Rattle.sync_message.proofs.Readings.{are_read}
use Rattle.sync_message.proofs.message.SyncMessage.decode.Goals as goal

pub returns-in_err-count : goal.returns-in_err-count
returns-in_err-count c =
    decodes_no_capsule _ (are_read c.args.form) _ _ c.in_err-count.ensures.only c.in_err-count.ensures.bad_length
    c.in_err-count.ensures.bad_check (search rules)

pub returns-in-Some : goal.returns-in-Some
returns-in-Some c =
    decodes_capsule _ (are_read c.args.form) _ (Some c.in-Some.fields) _ (rw c.of-body.ensures c.in_ok-count.ensures.found)
    c.in-Some.ensures refl

pub returns-in-None : goal.returns-in-None
returns-in-None c =
    decodes_capsule _ (are_read c.args.form) _ None _ (rw c.of-body.ensures c.in_ok-count.ensures.found)
    c.in-None.ensures refl

pub invariant_of-result : goal.invariant_of-result
invariant_of-result c =
    let body = c.of-body.result in
    let found : FillsCapsule M30 body × (c.args.capsule.now ≡ capsule M30 c.args.form body) =
    rw c.of-body.ensures c.in_ok-count.ensures.found in
    ((are_read c.args.form).there body c.in-Some.fields found.0 (sym c.in-Some.ensures)).0
