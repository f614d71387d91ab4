use Rattle.command_line.proofs.Common.{◌≡◌, ◌∙◌, Option, ap, map, option_and_then, refl, string_bytes, sym, IfOk-weaker, CommandEntry}
use Rattle.command_line.proofs.Common.{command_entry, job_after, job_by}
use Rattle.command_line.proofs.job.command_of.Goals as goal

pub returns-in_default-clause-bad : goal.returns-in_default-clause-bad
returns-in_default-clause-bad c =
    let texts = map string_bytes c.args.options.now in (
      λ e. ap (λ (o : Option CommandEntry). option_and_then (λ entry. job_by entry texts) o)
          (sym c.in_default.ensures),
      λ e. refl,
    )

pub returns-clause-job : goal.returns-clause-job
returns-clause-job c =
    let texts = map string_bytes c.args.options.now in
    let is : job_after c.args.name.now texts ≡ job_by (command_entry c.in-Some.command) texts =
    ap (λ (o : Option CommandEntry). option_and_then (λ entry. job_by entry texts) o) (sym c.in-Some.ensures) in
    IfOk-weaker c.job_by.result _ _ (λ job e. is ∙ e) c.job_by.ensures.job

pub returns-clause-bad : goal.returns-clause-bad
returns-clause-bad c =
    let texts = map string_bytes c.args.options.now in
    let is : job_after c.args.name.now texts ≡ job_by (command_entry c.in-Some.command) texts =
    ap (λ (o : Option CommandEntry). option_and_then (λ entry. job_by entry texts) o) (sym c.in-Some.ensures) in
    (λ e. is ∙ c.job_by.ensures.bad.0 e, λ none. c.job_by.ensures.bad.1 (sym is ∙ none))
