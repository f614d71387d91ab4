-- Lemmas on the jobs of the commands.
use Rattle.command_line.proofs.Common.{◌≡◌, ◌≤◌, ◌↔◌, List, [], ◌∷◌, true, false, refl, sym, ap, ap₂, ◌∙◌, arith, rules, Result, Ok, Err}
use Rattle.command_line.proofs.Common.{IfOk, ok_or, length, map, string_bytes, String, Global, Option, None, Some, is_some, option_and_then}
use Rattle.command_line.proofs.Common.{Job, WordFault, Bad, CommandEntry, Given, OptionEntry, Text, given_after, job_after, job_by, job_in}
use Rattle.command_line.proofs.Common.{job_named, job_with, number_by, numbers_by, text_in, option_text}
use Rattle.command_line.proofs.ArgTexts.{texts_given}

pub given_of : (o : Option Given) → is_some o ≡ true → (given : Given) × (o ≡ Some given)
given_of None e = search rules
given_of (Some given) e = (given, refl)

-- ---- the job of a command

-- the arguments are in the grammar
abbrev pub AreLawful : CommandEntry → List Text → Type 0
AreLawful entry args = is_some (given_after entry.options (Some []) args) ≡ true

numbers_same : (entries : List OptionEntry) (one other : Text → Option Text) →
    ((name : Text) → one name ≡ other name) → numbers_by entries one ≡ numbers_by entries other
numbers_same [] one other same = refl
numbers_same (entry ∷ entries) one other same =
    ap₂ (λ n ns. n ∷ ns) (ap (number_by entry) (same entry.name)) (numbers_same entries one other same)

-- texts that are those that the arguments give make the job of the arguments
pub job_found : (entry : CommandEntry) (args : List Text) (found : Text → Option Text) → AreLawful entry args →
    ((given : Given) → given_after entry.options (Some []) args ≡ Some given →
    (name : Text) → found name ≡ option_text name given) → job_with entry found ≡ job_by entry args
unfolding job_by
job_found entry args found lawful finds =
    let g = given_of (given_after entry.options (Some []) args) lawful in
    ap entry.job (numbers_same entry.options found (λ name. option_text name g.0) (finds g.0 g.1))
    ∙ sym (ap (option_and_then (λ given. job_with entry (λ name. option_text name given))) g.1)

pub job_read : (entry : CommandEntry) (args : List Text) → AreLawful entry args →
    job_with entry (λ name. text_in name args) ≡ job_by entry args
job_read entry args lawful =
    job_found entry args (λ name. text_in name args) lawful
    (λ given is name. texts_given entry.options args given name is)

pub job_none : (entry : CommandEntry) (args : List Text) →
    is_some (given_after entry.options (Some []) args) ≡ false → job_by entry args ≡ None
unfolding job_by
job_none entry args e = by_cases (given_after entry.options (Some []) args) e
  where
    by_cases : (g : Option Given) → is_some g ≡ false →
        option_and_then (λ given. job_with entry (λ name. option_text name given)) g ≡ None
    by_cases None none = refl
    by_cases (Some given) none = search rules

-- ---- the arguments of a command line

pub no_args : (args : List (String Global)) → length args ≤ 0 → job_named args ≡ None
unfolding job_in
no_args [] few = refl
no_args (arg ∷ args) few = absurd (omega (arith, few))

pub command_first : (args : List (String Global)) (command : String Global)
    (options : List (String Global)) → args ≡ command ∷ options →
    job_named args ≡ job_after (string_bytes command) (map string_bytes options)
unfolding job_in
command_first args command options is = ap job_named is

-- ---- jobs and refusals

-- a job, or none, as a result
pub bad_where : (job : Option Job) (result : Result Job WordFault) → result ≡ ok_or job Bad →
    (result ≡ Err Bad) ↔ (job ≡ None)
bad_where None result is = (λ e. refl, λ e. is)
bad_where (Some job) result is = (
  λ e. let bad : Ok job ≡ Err Bad = sym is ∙ e in search rules,
  λ none. search rules,
)

pub job_where : (job : Option Job) (result : Result Job WordFault) → result ≡ ok_or job Bad →
    IfOk result (λ j. job ≡ Some j)
job_where None result is = rw is tt
job_where (Some job) result is = rw is refl

-- a fault other than `Bad`, where there is a job
pub not_bad : (job : Option Job) (result : Result Job WordFault) → is_some job ≡ true →
    ¬ (result ≡ Err Bad) → (result ≡ Err Bad) ↔ (job ≡ None)
not_bad None result has other = search rules
not_bad (Some job) result has other = (λ e. absurd (other e), λ none. search rules)

pub none_where : (job : Option Job) → is_some job ≡ false → job ≡ None
none_where None e = refl
none_where (Some job) e = search rules
