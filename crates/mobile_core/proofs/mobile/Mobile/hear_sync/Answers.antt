use Rattle.mobile_core.proofs.Common.{common_steps, ints, ◌≡◌, ◌∙◌, ap, arith, length, subst, sym, refl, Option, HearsFollowed, SetsMark}
use Rattle.mobile_core.proofs.Common.{followed_events_left, FrameClock, Mark, WaitFrom}
use Rattle.mobile_core.proofs.StepJoins.{ends_here, one_or_none}
use Rattle.mobile_core.proofs.Stood.{heard_sets, stands_heard}
use Rattle.mobile_core.proofs.mobile.Mobile.hear_sync.Goals as goal

-- A frame of the sync channel that is due is told first: a mark that it sets lies after all samples
-- that were taken, so the receivers of the other channels are opened in time, and what is left to
-- tell is theirs and the sync channel's.
pub returns-clause-steps : goal.returns-clause-steps
returns-clause-steps c =
    let m = c.args.self.now in
    let event = c.hear_next-event.result in
    let next = c.hear_next-event.ensures in
    let after = c.hear_next-event.new.self in
    let others = c.follow.new.self in
    let set = c.mark.ensures in
    let next_is = ap (λ (k : FrameClock). k.next) next.clock in
    record {
      room = refl;
      more = omega (arith, one_or_none event, next_is, c.follow.ensures.further);
      told = λ t heard given st.
          let taken = st.ring.taken in
          let at' = c.taken-at.ensures in
          let here : c.taken-at.result ≡ length heard = omega (arith, taken, at') in
          let due = rw st.count_is at c.requires.due in
          let hears = next.hears t heard here st.check_is due st.sync in
          let sets = subst (λ n. SetsMark n m.sync.mark after.mark) (sym here)
          (heard_sets st after hears.hears next.sound due next_is) in
          let within = m.sound.within in
          let count = st.count_is in
          let on = c.follow.ensures.hears t m.sync.mark heard here (omega (arith, within, at', count))
          (subst (SetsMark c.taken-at.result m.sync.mark) (sym set) sets) st.followed in (
            ends_here event next.ends here,
            stands_heard st after others event c.requires.told hears
                (subst (λ (x : Option Mark). HearsFollowed t others x heard) set on.0)
                (ap (λ (x : Option Mark). followed_events_left t x heard others) (sym set) ∙ on.1),
          );
    }

pub invariant_of-self : goal.invariant_of-self
invariant_of-self c =
    let is = c.args.self.now.sound in
    let next = c.hear_next-event.ensures in
    record {
      sound = record {
        few = is.few;
        within = is.within;
        room = is.room;
        decodes = next.kept ∙ is.decodes;
        hears = next.sound;
        waits = rw next.clock is.waits;
        follows = c.follow.ensures.sound;
        others_wait = subst (λ n. WaitFrom n c.follow.new.self) c.taken-at.ensures.value
            c.follow.ensures.waits;
      };
    }

pub returns-clause-nearer : goal.returns-clause-nearer
returns-clause-nearer c = grind (ints, arith, common_steps)

pub follow-requires-clause-waits : goal.follow-requires-clause-waits
follow-requires-clause-waits c = grind (ints, arith, common_steps)
