use Rattle.mobile_core.proofs.Common.{ap, paging_channel, paging_stream, frame_own_bits}
use Rattle.mobile_core.proofs.paging_receiver.PagingReceiver.due_bits.Goals as goal

pub returns-clause-value : goal.returns-clause-value
unfolding frame_own_bits
returns-clause-value c = λ t channel m heard d st.
    c.own_bits.ensures.value t.count (paging_stream t channel m) heard st.receives
    (ap paging_channel st.tuned.rate_is) d
