use Rattle.command_line.proofs.Common.{◌≡◌, ◌∙◌, map, ap, string_bytes, IfErr-weaker, IfOk-weaker, is_simple, matches_of, App, app_of}
use Rattle.command_line.proofs.Common.{found_of, entry_of, takes}
use Rattle.command_line.proofs.ArgApps.{app_bare, app_built, app_simple, arg_app}
use Rattle.command_line.proofs.ArgJobs.{given_of}
use Rattle.command_line.proofs.ArgWalks.{finds_args, takes_args, value_is}
use Rattle.command_line.proofs.matching.matches_by.Goals as goal

-- Each option's value is the text that the arguments give it: the command is the one of the rules,
-- which has nothing but options, so clap finds what its walk over the arguments finds, and that is
-- what the grammar gives.
pub returns-clause-ok : goal.returns-clause-ok
returns-clause-ok c = λ given is.
    let name = c.args.name.now in
    let entries = map entry_of c.args.rules.now in
    let texts = map string_bytes c.args.args.now in
    let app : app_of c.in_ok-command.command ≡ arg_app name entries = c.in_ok-command.ensures in
    IfOk-weaker c.try_get_matches_from.result _ _ (λ m h option.
    value_is (found_of m) given option ((h (ap is_simple app ∙ app_simple name entries)).0
    ∙ ap (λ (a : App). matches_of a texts) app
    ∙ finds_args (arg_app name entries) name entries texts given (app_bare name entries)
    (app_built name entries) is)) c.try_get_matches_from.ensures.matches

-- Clap fails only if memory runs out: it promises this for arguments that its walk takes, and
-- arguments that the grammar takes are such.
pub returns-clause-err : goal.returns-clause-err
returns-clause-err c =
    let name = c.args.name.now in
    let entries = map entry_of c.args.rules.now in
    let texts = map string_bytes c.args.args.now in
    let app : app_of c.in_ok-command.command ≡ arg_app name entries = c.in_ok-command.ensures in
    let given = given_of _ c.requires in
    IfErr-weaker c.try_get_matches_from.result _ _ (λ e h.
    h (ap (λ (a : App). takes a texts) app
    ∙ takes_args (arg_app name entries) name entries texts given.0 (app_simple name entries)
    (app_bare name entries) (app_built name entries) given.1)) c.try_get_matches_from.ensures.passes
