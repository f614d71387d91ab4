use Rattle.mobile_core.proofs.Common.{◌∙◌, arith, refl}
use Rattle.mobile_core.proofs.StepJoins.{ends_here, one_or_none}
use Rattle.mobile_core.proofs.Stood.{stands_followed}
use Rattle.mobile_core.proofs.mobile.Mobile.hear_followed.Goals as goal

-- The handset stands for the same samples with one event more told, if there is one: only the
-- followed channels have changed, their event sets no mark, and the sync channel has nothing left
-- to tell before it.
pub returns-clause-steps : goal.returns-clause-steps
returns-clause-steps c =
    let m = c.args.self.now in
    let event = c.hear_next.result in
    let next = c.hear_next.ensures in
    record {
      room = refl;
      more = omega (arith, one_or_none event, next.further);
      told = λ t heard given st.
          let taken = st.ring.taken in
          let on = next.hears t t.traffic m.sync.mark heard st.ring st.check_is st.count_is st.followed in (
            ends_here event next.ends taken,
            stands_followed st c.hear_next.new.self event c.requires.told c.requires.silent
                (omega (arith, taken, m.sound.waits)) next.unset on.0 on.1,
          );
    }

pub invariant_of-self : goal.invariant_of-self
invariant_of-self c =
    let is = c.args.self.now.sound in
    let next = c.hear_next.ensures in
    record {
      sound = record {
        few = is.few;
        within = is.within;
        room = is.room;
        decodes = next.kept ∙ is.decodes;
        hears = is.hears;
        waits = is.waits;
        follows = next.sound;
        others_wait = next.waits;
      };
    }
