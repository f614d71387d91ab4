use Rattle.cdma_replay.proofs.Lines.{pilot_alone, unheard_for}
use Rattle.cdma_replay.proofs.opening.listener_for.Goals as goal

pub returns-in_ok-best-in-Follow : goal.returns-in_ok-best-in-Follow
returns-in_ok-best-in-Follow g c = rw c.in-Follow.is c.handset_near.ensures

pub returns-in_ok-ranks-in-Survey : goal.returns-in_ok-ranks-in-Survey
returns-in_ok-ranks-in-Survey g c =
    rw c.in-Survey.is (unheard_for c.in_ok-ranks-in-Survey.ensures.text c.in_ok-ranks-in-Survey.ensures.writable)

pub returns-in_ok-pilot-in_default : goal.returns-in_ok-pilot-in_default
returns-in_ok-pilot-in_default g c =
    let arm = c.in_default in
    pilot_alone c.args.job c.args.header c.args.first.now c.args.header.count
    arm.not-Follow arm.not-Rate2 arm.not-List arm.not-Idle arm.not-Survey
    (unheard_for c.in_ok-pilot-in_default.ensures.text c.in_ok-pilot-in_default.ensures.writable)
