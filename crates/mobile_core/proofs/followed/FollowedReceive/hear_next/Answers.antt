use Rattle.mobile_core.proofs.Common.{arith, common_steps, ints, ℕ, ◌≡◌, ◌∙◌, refl, subst, sym, append_assoc, None, IfSome, IsSomeAnd}
use Rattle.mobile_core.proofs.Common.{IsDueAt, at_of, event_list, HearsFrames, paging_events_left, traffic_events_left, joined}
use Rattle.std.proofs.lemmas.Bool.{false≢true}
use Rattle.mobile_core.proofs.ChannelsFollowed.{heard_other, moved}
use Rattle.mobile_core.proofs.followed.FollowedReceive.hear_next.Goals as goal

pub returns-then-not-is_due-clause-hears : goal.returns-then-not-is_due-clause-hears
returns-then-not-is_due-clause-hears c = λ t _ mark heard holds check count st.
    let f = c.args.self.now in
    let none = subst (λ (n : ℕ). ¬ IsSomeAnd f.paging (λ r. IsDueAt n r.received.clock)) count
    (λ d. absurd (false≢true (sym c.if-not-is_due.true ∙ c.is_due.ensures.1 d))) in
    heard_other st none holds.taken c.requires.waits c.hear_next.new.self c.hear_next.result
    (c.hear_next.ensures.hears t t.traffic mark heard holds st.check_is count)

pub returns-clause-waits : goal.returns-clause-waits
returns-clause-waits c = record {
  paging = c.hear_next-event.ensures.waits;
  traffic = c.note.ensures.waits c.args.ring.now.taken c.requires.waits.traffic;
}

-- The event that is heard next is the first of those that were left of the paging channel; the
-- traffic channel takes note of it, and what is then left of both channels is what was left without
-- it.
pub returns-clause-hears : goal.returns-clause-hears
returns-clause-hears c = λ t _ mark heard holds check count st.
    let event = c.hear_next-event.result in
    let next = c.hear_next-event.ensures in
    let paging = c.hear_next-event.new.self in
    let traffic = c.note.new.traffic in
    let left = paging_events_left t mark heard paging in
    let pages = next.hears t None mark heard holds check count st.paging in
    let ends = subst (λ (n : ℕ). IfSome event (λ told. at_of told ≡ n)) holds.taken next.ends in
    let frames = c.note.ensures.hears t t.traffic mark heard left ends
    (subst (HearsFrames t t.traffic mark c.args.self.now.traffic heard) (sym pages.1) st.traffic) in (
      moved st paging traffic mark heard left refl pages.0 frames.0,
      sym (append_assoc (event_list event) left (traffic_events_left t t.traffic mark heard traffic))
          ∙ joined pages.1 frames.1,
    )

pub hear_next-requires-clause-due : goal.hear_next-requires-clause-due
hear_next-requires-clause-due c = grind (ints, arith, common_steps)

pub hear_next-event-requires-clause-due : goal.hear_next-event-requires-clause-due
hear_next-event-requires-clause-due c = grind (ints, arith, common_steps)
