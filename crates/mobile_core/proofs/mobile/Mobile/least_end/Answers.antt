use Rattle.mobile_core.proofs.Common.{arith}
use Rattle.mobile_core.proofs.mobile.Mobile.least_end.Goals as goal

pub returns-clause-waits : goal.returns-clause-waits
returns-clause-waits c =
    let m = c.args.self.now in
    let end = c.end.ensures in
    c.end_before.ensures.one m.ring.taken (omega (arith, m.sound.waits, end)) m.sound.others_wait
