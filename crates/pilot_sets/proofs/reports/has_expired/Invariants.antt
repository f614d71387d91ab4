use Rattle.pilot_sets.proofs.Common.{◌≡◌, drop, list_any, ActivePilot, is_expired as is_expired_by}
use Rattle.pilot_sets.proofs.reports.has_expired.Given as goal

abbrev pub invariant-loop-a : goal.invariant-loop-a
invariant-loop-a l =
    list_any (λ (a : ActivePilot). is_expired_by l.thresholds l.time a.timer) l.actives
    ≡ list_any (λ (a : ActivePilot). is_expired_by l.thresholds l.time a.timer) (drop l.a-index l.actives)
