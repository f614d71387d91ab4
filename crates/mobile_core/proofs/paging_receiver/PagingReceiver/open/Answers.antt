use Rattle.mobile_core.proofs.Common.{◌∙◌, ap, refl, rules, ◌≡◌, half_frame_body, paging_rate, paging_stream}
use Rattle.mobile_core.proofs.ChannelsOpened.{receives_opened}
use Rattle.mobile_core.proofs.PagesHeard.{hears_none}
use Rattle.mobile_core.proofs.paging_receiver.PagingReceiver.open.Goals as goal

-- A paging channel that is opened at a mark stands for no bit heard: it has the fingers of the
-- reference base station, the long code state and mask of the channel, and the rate that the mark's
-- PRAT tells.
pub returns-clause-hears : goal.returns-clause-hears
returns-clause-hears c = λ t heard phase deltas within early.
    let m = c.args.mark.now in
    let rate : c.in_ok-rate.rate ≡ paging_rate m.prat = search rules in
    let scrambling = c.paging_scrambling.ensures in
    let opened = receives_opened t.count (paging_stream t c.args.channel m) c.new.result
    c.reference_fingers-fingers.result m.sample refl
    (c.reference_fingers-fingers.ensures.value ∙ rw (phase, deltas) refl) refl c.new.ensures.fingers
    c.new.ensures.sound c.new.ensures.clock heard within early in
    hears_none t c.args.channel m _ heard opened.0 opened.1
    (record {
      state_is = scrambling.state;
      mask_is = scrambling.mask;
      rate_is = rate;
      size_is = c.new-2.ensures.size ∙ ap half_frame_body rate;
    })
    refl c.new-2.ensures.stands
