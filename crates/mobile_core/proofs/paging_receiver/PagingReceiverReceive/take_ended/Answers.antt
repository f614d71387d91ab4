use Rattle.mobile_core.proofs.Common.{◌∙◌, ap, refl, paging_stream, FrameClock}
use Rattle.mobile_core.proofs.PagesFollowed.{come_left, follows_on}
use Rattle.mobile_core.proofs.PagesHeard.{hears_come}
use Rattle.mobile_core.proofs.paging_receiver.PagingReceiverReceive.take_ended.Goals as goal

-- A frame that has come leaves the pages that are still to tell as they are: its soft values are
-- taken with the chips of the long code for this frame, and none of its bits is heard yet.
pub returns-then-self-taken-clause-hears : goal.returns-then-self-taken-clause-hears
returns-then-self-taken-clause-hears c = λ t _ mark heard pages holds none following.
    let st = following.hears in
    let r = c.args.self.now in
    let received = c.take_frame.new.self in
    let come = c.take_frame.ensures in
    let next = ap (λ (k : FrameClock). k.next) come.clock in
    let bits = c.frame_bits-bits.ensures.value ∙ rw (st.tuned.state_is, st.tuned.mask_is) refl in
    let on = hears_come st received none next
    (come.stands t.count (paging_stream t t.paging following.set) heard holds bits none st.receives) in (
      follows_on following (record r { received = received }) heard on,
      come_left following (record r { received = received }) next refl,
    )
