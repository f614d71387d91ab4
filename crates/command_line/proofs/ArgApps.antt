-- Lemmas on the commands of clap that the table of options makes.
use Rattle.command_line.proofs.Common.{is_early_multiple, is_ready_leaf, append_assoc, filled_from, OptionEntry, append-nil, is_simple, ◌≡◌}
use Rattle.command_line.proofs.Common.{with_rule, count_by, list_all, list_any, is_ready, app_from, bare_app, is_some, rule_by, false, ◌&&◌}
use Rattle.command_line.proofs.Common.{Shape, built, ◌++◌, Bool, true, List, refl, Text, Rule, ◌∙◌, not, ◌∷◌, ap₂, map, sym, App, [], ap, ℕ}
use Rattle.command_line.proofs.ArgWalks.{names_in, opt, opts, shape}

pub app-none : (app : App) → app_from app [] ≡ app
unfolding app_from
app-none app = refl

pub app-more : (app : App) (entry : OptionEntry) (entries : List OptionEntry) →
    app_from app (entry ∷ entries) ≡ app_from (with_rule app (rule_by entry)) entries
unfolding app_from
app-more app entry entries = refl

-- ---- the command, with all of its options

-- a plain command with these arguments
abbrev app_with : Text → List Rule → App
app_with name rules =
    record (bare_app name) { top = record (bare_app name).top { rules = rules } }

app_all : (name : Text) (rules : List Rule) (entries : List OptionEntry) →
    app_from (app_with name rules) entries ≡ app_with name (rules ++ map rule_by entries)
unfolding app_from
app_all name rules [] = ap (app_with name) (sym (append-nil rules))
app_all name rules (entry ∷ entries) =
    app_all name (rules ++ rule_by entry ∷ []) entries
    ∙ ap (app_with name) (append_assoc rules (rule_by entry ∷ []) (map rule_by entries))

filled_all : (i : ℕ) (entries : List OptionEntry) → filled_from i (map rule_by entries) ≡ opts (names_in entries)
filled_all i [] = refl
filled_all i (entry ∷ entries) = ap (λ rules. opt entry.name ∷ rules) (filled_all i entries)

simple_all : (entries : List OptionEntry) → list_all (λ a. a.is_simple) (map rule_by entries) ≡ true
simple_all [] = refl
simple_all (entry ∷ entries) = simple_all entries

simple_opts : (names : List Text) → list_all (λ a. a.is_simple) (opts names) ≡ true
simple_opts [] = refl
simple_opts (name ∷ names) = simple_opts names

no_multiple : (n : ℕ) (names : List Text) → list_any (is_early_multiple n) (opts names) ≡ false
no_multiple n [] = refl
no_multiple n (name ∷ names) = no_multiple n names

abbrev pub arg_app : Text → List OptionEntry → App
arg_app name entries = app_from (bare_app name) entries

arg_app_is : (name : Text) (entries : List OptionEntry) → arg_app name entries ≡ app_with name (map rule_by entries)
arg_app_is name entries = app_all name [] entries

abbrev leaf : Shape → App
leaf s = record { top = s; subs = [] }

pub app_built : (name : Text) (entries : List OptionEntry) →
    built (arg_app name entries) ≡ record { top = shape name (names_in entries); subs = [] }
app_built name entries =
    ap built (arg_app_is name entries)
    ∙ ap (λ (rules : List Rule). leaf (record (shape name []) { rules = rules })) (filled_all 1 entries)

pub app_bare : (name : Text) (entries : List OptionEntry) → (arg_app name entries).top.no_binary_name ≡ true
app_bare name entries = ap (λ (a : App). a.top.no_binary_name) (arg_app_is name entries)

pub app_simple : (name : Text) (entries : List OptionEntry) → is_simple (arg_app name entries) ≡ true
app_simple name entries =
    ap is_simple (arg_app_is name entries)
    ∙ ap₂ (λ (a : Bool) (b : App). (a && true) && (is_ready b.top && list_all is_ready_leaf b.subs))
    (simple_all entries) (ap built (sym (arg_app_is name entries)) ∙ app_built name entries)
    ∙ ap₂ (λ (a b : Bool). (a && not b) && true) (simple_opts (names_in entries))
    (no_multiple (count_by (λ (a : Rule). is_some a.index) (opts (names_in entries))) (names_in entries))
