use Rattle.mobile_core.proofs.Common.{[], arith, refl, tuning_by, none-some}
use Rattle.mobile_core.proofs.Stood.{stands_new}
use Rattle.mobile_core.proofs.mobile.Mobile.new.Goals as goal

-- A new handset stands for no samples and no events: its pilot is still to be told, its sync
-- receiver has taken nothing, and without a mark no other channel is open.
pub returns-clause-stands : goal.returns-clause-stands
returns-clause-stands c =
    let t = tuning_by c.args.settings c.args.best c.args.near in
    let sync = c.new-3.ensures in
    let followed = c.new-4.ensures in
    let (follows, none_left) = followed.hears t [] refl refl refl refl refl in
    stands_new refl c.in_ok-new.ensures.holds (sync.hears t refl refl) follows sync.sound
    sync.unmarked none_left

pub invariant_of-result-2 : goal.invariant_of-result-2
invariant_of-result-2 c =
    let taken = c.in_ok-new.ensures.holds.taken in
    let followed = c.new-4.ensures in
    record {
      sound = record {
        few = c.requires.count;
        within = omega (arith, taken);
        room = c.in_ok-new.ensures.room;
        decodes = c.in_ok-new-2.ensures;
        hears = c.new-3.ensures.sound;
        waits = omega (arith, taken, c.new-3.ensures.begins);
        follows = followed.sound;
        others_wait = record {
          paging = rw followed.closed.0 (λ r e. absurd (none-some r e));
          traffic = rw followed.closed.1 (λ r e. absurd (none-some r e));
        };
      };
    }
