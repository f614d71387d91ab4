use Rattle.cdma_replay.proofs.Common.{refl, file_run, made_run, trial_run, with_taps}
use Rattle.cdma_replay.proofs.replaying.run_job.Goals as goal

pub returns-in-Make : goal.returns-in-Make
returns-in-Make g c =
    rw (c.in-Make.is, c.status_of.ensures) (made_run _ c.in-Make.width _ c.make.ensures)

pub returns-in-Trial : goal.returns-in-Trial
returns-in-Trial g c =
    let ends = c.trial.ensures in
    rw (c.in-Trial.is, c.status_of-in-Trial.ensures)
    (trial_run _ c.in-Trial.number c.in-Trial.workers c.trial.result
    (g.S.Source.rest c.args.source.now) (g.S.Source.faults c.args.source.now)
    (record { ok = ends.ok; err = ends.err; failed = ends.failed })
    ends.memory ends.write_fault ends.later refl)

-- All other jobs receive a file, with the taps that their limits leave.
pub returns-in_default : goal.returns-in_default
returns-in_default g c =
    rw c.status_of-in_default.ensures
    (file_run _ c.args.job _ c.in_default.not-Make c.in_default.not-Trial
    (with_taps (rw c.limits.ensures at c.new-taps.ensures.value) c.receive.ensures))
