use Rattle.mobile_core.proofs.Common.{◌++◌, ◌∙◌, ℕ, List, ap, option_to_list, map, subst, page_event, IsDueAt, paging_left, Event}
use Rattle.mobile_core.proofs.PagesFollowed.{bit_left, follows_on}
use Rattle.mobile_core.proofs.paging_receiver.PagingReceiverReceive.hear_next.Goals as goal

-- The page that the next bit completes is told at the samples taken so far, if there is one, and
-- what the receiver has left after it are the pages that it had left but this one.
pub returns-clause-hears : goal.returns-clause-hears
returns-clause-hears c = λ t _ mark heard holds check count following.
    let r = c.args.self.now in
    let after = c.hear_bit-page.new.self in
    let page = c.hear_bit-page.result in
    let due = subst (λ (n : ℕ). IsDueAt n r.received.clock) count c.requires.due in
    let bit = c.hear_bit-page.ensures.hears t t.paging following.set heard check due following.hears in
    let event = c.event_of_page.ensures.value
    ∙ ap (λ (n : ℕ). map (page_event n) (option_to_list page))
    (c.taken.ensures.value ∙ holds.taken) in (
      follows_on following after heard bit.hears,
      ap (λ (es : List Event). es ++ paging_left t mark heard after) event
          ∙ bit_left following after page bit,
    )
