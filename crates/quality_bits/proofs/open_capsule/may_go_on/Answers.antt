use Rattle.quality_bits.proofs.Common.{sym, false_from_ne_true, is_stated}
use Rattle.quality_bits.proofs.Opened.{awaits_stated, awaits_unstated}
use Rattle.quality_bits.proofs.open_capsule.may_go_on.Goals as goal

pub returns-in-Some : goal.returns-in-Some
returns-in-Some c =
    let told = c.in-Some.ensures in
    let long = c.len.ensures.value in
    rw (told.1, long) (sym (awaits_stated c.args.bits.now told.0))

pub returns-in-None : goal.returns-in-None
returns-in-None c =
    let untold = false_from_ne_true (is_stated c.args.bits.now) c.in-None.ensures in
    rw c.len-in-None.ensures.value (sym (awaits_unstated c.args.bits.now untold))
