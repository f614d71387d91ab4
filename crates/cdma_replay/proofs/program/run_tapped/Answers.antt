use Rattle.cdma_replay.proofs.Common.{ap, ◌∙◌, passed_run, run_passed}
use Rattle.cdma_replay.proofs.program.run_tapped.Goals as goal

pub returns-clause-ran : goal.returns-clause-ran
returns-clause-ran g c =
    passed_run c.replay-status.ensures (λ still same. same ∙ still) (ap (λ k. g.K.Sink.written k))
    c.pass_on.ensures

pub returns-clause-flushed : goal.returns-clause-flushed
returns-clause-flushed g c = run_passed c.replay-status.ensures c.pass_on.ensures
