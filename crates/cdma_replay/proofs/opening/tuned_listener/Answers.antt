use Rattle.cdma_replay.proofs.Common.{◌≡◌, [], length, merely, refl, rules, sym, best_phase-only, tuning_for}
use Rattle.run_replies.proofs.Handsets.{near_taken}
use Rattle.cdma_replay.proofs.opening.tuned_listener.Goals as goal

-- The handset that is opened was told no mark: it has given no event.
pub open-requires-clause-untold : goal.open-requires-clause-untold
open-requires-clause-untold c =
    merely (record {
      tuning = _;
      heard = [];
      has = record { given = []; stands = c.in_ok-mobile.ensures.stands; unset = refl };
    })

-- The listener is tuned as the file's first samples tell: the phase that was searched is the only
-- best one, its paths are those that are found near it, and the handset up to the mark was opened
-- with the same ones.
pub returns-clause-listens : goal.returns-clause-listens
returns-clause-listens c first found near =
    let best = c.args.best in
    let long : length c.args.near.deltas ≡ 3 = search rules in
    let settings = c.args.settings in
    let boxed : c.in_ok-new.field-0.value ≡ c.in_ok-tuned.tuned = search rules in
    rw boxed (c.in_ok-tuned.ensures.listens (tuning_for settings first) (c.in_ok-mobile.ensures.given first found near)
    (sym (best_phase-only first best.phase best.energy found))
    (sym (near_taken first settings.fingers best c.args.near found near.0 c.requires.settings.0.1 long near.1)))
