use Rattle.cdma_replay.proofs.Common.{arith, refl, rules, subst, ap, [], AreNearTo, Settings, StandsFor, tuning_for}
use Rattle.cdma_replay.proofs.opening.handset_near.Goals as goal

-- The listener is one by a handset: from the header's settings and the paths near the best phase,
-- `boxed_handset` promises a handset of their tuning that has taken no sample yet.
pub returns : goal.returns
returns c =
    let first = c.args.first.now in
    let best = c.args.best.now in
    let made = c.settings_for-settings in
    let near : AreNearTo first best.phase made.result.fingers c.near-paths.result = search rules in
    record {
      fresh = λ taps. (
        subst (λ (s : Settings). StandsFor (tuning_for s first) c.in_ok-mobile.mobile.value [] [])
            made.ensures (c.in_ok-mobile.ensures.given first c.requires.best near),
        refl,
      );
      tellable = tt;
      room = omega (arith, c.in_ok-mobile.ensures.room, ap (λ (s : Settings). s.count) made.ensures);
    }
