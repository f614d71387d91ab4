use Rattle.cdma_replay.proofs.Common.{arith, rules, subst, ap, [], AreNearTo, ListensTuned, Settings, tuning_for}
use Rattle.cdma_replay.proofs.opening.tuned_near.Goals as goal

-- The listener is one for the frames of a channel: from the header's settings and the paths near the best phase,
-- `tuned_listener` promises one that hears the channel by their tuning and has taken no sample yet.
pub returns : goal.returns
returns c =
    let first = c.args.first.now in
    let best = c.args.best.now in
    let made = c.settings_for-settings in
    let near : AreNearTo first best.phase made.result.fingers c.near-paths.result = search rules in
    record {
      fresh = λ taps.
          subst (λ (s : Settings).
          ListensTuned (tuning_for s first) c.args.channel c.args.text c.in_ok-tuned.tuned.value [])
          made.ensures (c.in_ok-tuned.ensures.listens first c.requires.best near);
      tellable = tt;
      room = omega (arith, c.in_ok-tuned.ensures.room, ap (λ (s : Settings). s.count) made.ensures);
    }
