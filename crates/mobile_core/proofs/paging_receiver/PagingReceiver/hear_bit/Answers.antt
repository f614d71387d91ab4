use Rattle.mobile_core.proofs.Common.{◌∙◌, ap, page_in}
use Rattle.mobile_core.proofs.PagesHeard.{hears_bit}
use Rattle.mobile_core.proofs.paging_receiver.PagingReceiver.hear_bit.Goals as goal

pub returns-clause-hears : goal.returns-clause-hears
returns-clause-hears c = λ t channel m heard check d st.
    let pushed = c.push-capsule.ensures in
    let own = c.due_bits-self.ensures.value t channel m heard d st in
    hears_bit st d c.push-capsule.new.self c.due_bits-self.result c.get.result c.page_in.result
    own c.get.ensures c.due_bits-self.ensures.within pushed.size pushed.stands
    (λ bits stands. c.page_in.ensures
    ∙ ap (λ form. page_in form c.push-capsule.result) check
    ∙ ap (page_in t.check30) (pushed.capsule bits stands))
    c.pass_bit.new.self c.pass_bit.ensures.value
