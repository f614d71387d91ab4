use Rattle.tuned_listener.proofs.Common.{◌∙◌, ap, sym, state_at, CodeChannel}
use Rattle.mobile_core.proofs.FramesHeard.{state_on}
use Rattle.tuned_listener.proofs.channel_receiver.scrambling_of.Goals as goal

pub returns-in-Traffic-clause-state : goal.returns-in-Traffic-clause-state
returns-in-Traffic-clause-state c = λ k.
    state_on c.in-Traffic.traffic c.args.mark.now c.traffic_scrambling.result.state k
    c.traffic_scrambling.ensures.state
    ∙ ap (λ (channel : CodeChannel). state_at channel c.args.mark.now k) (sym c.in-Traffic.is)
