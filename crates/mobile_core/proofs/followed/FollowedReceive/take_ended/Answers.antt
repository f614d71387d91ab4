use Rattle.mobile_core.proofs.Common.{[], inl, inr, sym, paging_events_left, joined}
use Rattle.mobile_core.proofs.ChannelsFollowed.{moved}
use Rattle.mobile_core.proofs.followed.FollowedReceive.take_ended.Goals as goal

pub returns-clause-hears : goal.returns-clause-hears
returns-clause-hears c = λ t _ mark heard pages holds idle st.
    let left = paging_events_left t mark heard c.args.self.now.paging in
    let paging = c.take_ended.ensures.hears t t.traffic mark heard [] holds (λ d. idle (inl d)) st.paging in
    let traffic = c.take_ended-2.ensures.hears t t.traffic mark heard left holds (λ d. idle (inr d))
    st.traffic in (
      moved st c.take_ended.new.self c.take_ended-2.new.self mark heard left (sym paging.1) paging.0
          traffic.0,
      joined paging.1 traffic.1,
    )
