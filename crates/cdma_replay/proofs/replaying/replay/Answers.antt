use Rattle.cdma_replay.proofs.Common.{refl, rules}
use Rattle.cdma_replay.proofs.Refused.{refused_run, starved_run}
use Rattle.run_replies.proofs.Commands.{command_run}
use Rattle.cdma_replay.proofs.replaying.replay.Goals as goal

pub returns-in-Ok : goal.returns-in-Ok
returns-in-Ok g c = command_run c.in-Ok.ensures.lawful c.in-Ok.ensures.job c.run_job.ensures

-- arguments that name no job, or no memory to read them

pub returns-in-Err-Bad : goal.returns-in-Err-Bad
returns-in-Err-Bad g c = refused_run (c.words_of.ensures.bad.0 (search rules)) refl refl

pub returns : goal.returns
returns g c = starved_run c.words_of.result (search rules) c.words_of.ensures.bad.1 refl refl
