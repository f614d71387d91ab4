use Rattle.command_line.proofs.Common.{arith, common_steps, ints, ◌≡◌, ◌∙◌, List, [], Option, Some, Err, ap, is_some, map, refl, not, ok_or}
use Rattle.command_line.proofs.Common.{rules, string_bytes, sym, found_of, Job, Bad, OutOfMemory, OptionEntry, command_entry, given_after}
use Rattle.command_line.proofs.Common.{job_by, first_value}
use Rattle.command_line.proofs.ArgJobs.{AreLawful, bad_where, job_found, job_none, job_read, job_where, none_where, not_bad}
use Rattle.command_line.proofs.job.job_by.Goals.{After-is_none, After-ok_or}
use Rattle.command_line.proofs.job.job_by.Goals as goal

-- Options that aren't lawful are bad, and the definition has no job for them either: it reads them
-- by the command's rules, and the test has just said that by these they give nothing.
pub returns-then-not-are_lawful-clause-bad : goal.returns-then-not-are_lawful-clause-bad
returns-then-not-are_lawful-clause-bad c =
    let entry = command_entry c.args.command in
    let texts = map string_bytes c.args.options.now in (
      λ e. job_none entry texts
          (ap (λ (entries : List OptionEntry). is_some (given_after entries (Some []) texts))
          (sym c.options-rules.ensures) ∙ sym c.are_lawful.ensures ∙ c.if-not-are_lawful.true),
      λ e. refl,
    )

-- the options are lawful where the job is read
lawful : (c : After-is_none) → AreLawful (command_entry c.args.command) (map string_bytes c.args.options.now)
lawful c =
    ap (λ (entries : List OptionEntry).
    is_some (given_after entries (Some []) (map string_bytes c.args.options.now)))
    (sym c.options-rules.ensures) ∙ sym c.are_lawful.ensures ∙ c.if-not-are_lawful.false

pub returns-then-is_none-clause-bad : goal.returns-then-is_none-clause-bad
returns-then-is_none-clause-bad c = (
  λ e. sym (job_read (command_entry c.args.command) (map string_bytes c.args.options.now)
      (lawful (goal.at.returns-then-is_none-clause-bad c).After-is_none))
      ∙ sym c.job.ensures.value
      ∙ none_where c.job.result (c.is_none.ensures ∙ ap not c.if-is_none.true),
  λ e. refl,
)

-- Where clap has no memory the arguments still aren't bad: they are lawful, and the job that was
-- read of them before is the definition's, so there is one.
pub returns-in_default-clause-bad : goal.returns-in_default-clause-bad
returns-in_default-clause-bad c =
    let entry = command_entry c.args.command in
    let texts = map string_bytes c.args.options.now in
    not_bad (job_by entry texts) (Err OutOfMemory)
    (ap is_some (sym (job_read entry texts
    (lawful (goal.at.returns-in_default-clause-bad c).After-is_none)) ∙ sym c.job.ensures.value)
    ∙ c.is_none.ensures ∙ ap not c.if-is_none.false) (λ e. search rules)

-- and what clap finds makes the same job
found : (c : After-ok_or) → AreLawful (command_entry c.args.command) (map string_bytes c.args.options.now) →
    c.ok_or.result ≡ ok_or (job_by (command_entry c.args.command) (map string_bytes c.args.options.now)) Bad
found c lawful_options =
    let entry = command_entry c.args.command in
    let texts = map string_bytes c.args.options.now in
    c.ok_or.ensures.value
    ∙ ap (λ (o : Option Job). ok_or o Bad)
    (c.job-job.ensures.value
    ∙ job_found entry texts (first_value (found_of c.in-Ok.matches)) lawful_options
    (λ given following. c.in-Ok.ensures.ok given
    (ap (λ (entries : List OptionEntry). given_after entries (Some []) texts) c.options-rules.ensures
    ∙ following)))

pub returns-clause-job : goal.returns-clause-job
returns-clause-job c =
    job_where (job_by (command_entry c.args.command) (map string_bytes c.args.options.now))
    c.ok_or.result
    (found (goal.at.returns-clause-job c).After-ok_or (lawful (goal.at.returns-clause-job c).After-is_none))

pub returns-clause-bad : goal.returns-clause-bad
returns-clause-bad c =
    bad_where (job_by (command_entry c.args.command) (map string_bytes c.args.options.now))
    c.ok_or.result
    (found (goal.at.returns-clause-bad c).After-ok_or (lawful (goal.at.returns-clause-bad c).After-is_none))

pub returns-clause-lawful : goal.returns-clause-lawful
returns-clause-lawful c = grind (ints, arith, common_steps)
