use Rattle.mobile_core.proofs.Common.{ap, refl, sync_stream, FrameClock}
use Rattle.mobile_core.proofs.SyncHeard.{hears_come}
use Rattle.mobile_core.proofs.sync_receiver.SyncReceiver.take_ended.Goals as goal

pub returns-then-end-taken-clause-stands : goal.returns-then-end-taken-clause-stands
returns-then-end-taken-clause-stands c = λ t heard holds none st.
    let come = c.take_frame.ensures in
    hears_come st c.take_frame.new.self (ap (λ (k : FrameClock). k.next) come.clock)
    (come.stands t.count (sync_stream t) heard holds refl none st.receives)
