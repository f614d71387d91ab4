use Rattle.command_line.proofs.Common.{◌≡◌, ◌∙◌, ap, map, refl, rules, string_bytes, sym, IfOk-weaker, Text, job_after, job_named}
use Rattle.command_line.proofs.ArgJobs.{command_first, no_args}
use Rattle.command_line.proofs.job.words_of.Goals as goal

pub returns-in_default-clause-bad : goal.returns-in_default-clause-bad
returns-in_default-clause-bad c = (λ e. no_args c.args.args.now (search rules), λ e. refl)

pub returns-clause-job : goal.returns-clause-job
returns-clause-job c =
    let options = map string_bytes c.in-Some.options.now in
    let is : job_named c.args.args.now ≡ job_after c.as_str.result.now options =
    command_first c.args.args.now c.in-Some.command.now c.in-Some.options.now
    c.in-Some.ensures.cases.0
    ∙ ap (λ (name : Text). job_after name options) (sym c.as_str.ensures.value) in
    IfOk-weaker c.command_of.result _ _ (λ job e. is ∙ e) c.command_of.ensures.job

pub returns-clause-bad : goal.returns-clause-bad
returns-clause-bad c =
    let options = map string_bytes c.in-Some.options.now in
    let is : job_named c.args.args.now ≡ job_after c.as_str.result.now options =
    command_first c.args.args.now c.in-Some.command.now c.in-Some.options.now
    c.in-Some.ensures.cases.0
    ∙ ap (λ (name : Text). job_after name options) (sym c.as_str.ensures.value) in
    (λ e. is ∙ c.command_of.ensures.bad.0 e, λ none. c.command_of.ensures.bad.1 (sym is ∙ none))
