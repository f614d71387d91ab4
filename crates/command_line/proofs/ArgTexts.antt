-- Lemmas on the texts of options, as the arguments after a command give them.
use Rattle.command_line.proofs.Common.{◌≡◌, ◌++◌, ◌∙◌, Bool, true, false, if◌then◌else◌, List, [], ◌∷◌, refl, sym, ap, rules, find, Option}
use Rattle.command_line.proofs.Common.{option_map, option_and_then, None, Some, option_map_or, bytes_eq, long_of, Given, OptionEntry, Text}
use Rattle.command_line.proofs.Common.{added, given_after, is_joined, option_joined, part_by, parted, text_in, option_text}
use Rattle.command_line.proofs.ArgTests.{IsPlain, none_stays}
use Rattle.command_line.proofs.ArgWalks.{is_added}

-- ---- the first of two texts that is there

abbrev first_text : Option Text → Option Text → Option Text
first_text None other = other
first_text (Some text) other = Some text

first_text-none : (o : Option Text) → first_text o None ≡ o
first_text-none None = refl
first_text-none (Some text) = refl

first_text-if : (o : Option Text) (b : Bool) (text : Text) (other : Option Text) →
    first_text o (if b then Some text else other) ≡ first_text (first_text o (if b then Some text else None)) other
first_text-if None true text other = refl
first_text-if None false text other = refl
first_text-if (Some first) true text other = refl
first_text-if (Some first) false text other = refl

-- ---- one option more

text_of-more : (name : Text) (given : Given) (p : Text × Text) → option_text name (given ++ p ∷ []) ≡
    first_text (option_text name given) (if bytes_eq p.0 name then Some p.1 else None)
text_of-more name [] p = by_cases (bytes_eq p.0 name)
  where
    by_cases : (b : Bool) → option_map (λ (r : Text × Text). r.1) (if b then Some p else None) ≡
        (if b then Some p.1 else None)
    by_cases true = refl
    by_cases false = refl
text_of-more name (q ∷ given) p = by_cases (bytes_eq q.0 name) (text_of-more name given p)
  where
    by_cases : (b : Bool) → option_text name (given ++ p ∷ []) ≡
        first_text (option_text name given) (if bytes_eq p.0 name then Some p.1 else None) →
        option_map (λ (r : Text × Text). r.1) (if b then Some q else find (λ r. bytes_eq r.0 name) (given ++ p ∷ [])) ≡
        first_text (option_map (λ (r : Text × Text). r.1)
        (if b then Some q else find (λ r. bytes_eq r.0 name) given))
        (if bytes_eq p.0 name then Some p.1 else None)
    by_cases true more = refl
    by_cases false more = more

text_of-added : (entries : List OptionEntry) (option text : Text) (before after : Given)
    (name : Text) → added entries option text before ≡ Some after → option_text name after ≡
    first_text (option_text name before) (if bytes_eq option name then Some text else None)
text_of-added entries option text before after name e =
    ap (option_text name) (sym (is_added entries option text before after e).after_is)
    ∙ text_of-more name before (option, text)

-- ---- all arguments

-- the texts of the arguments stand after those that were given before
abbrev Adds : Text → Given → List Text → Given → Type 0
Adds name before args given = first_text (option_text name before) (text_in name args) ≡ option_text name given

-- an option and its text, and the arguments after them
adds_one : (entries : List OptionEntry) (name option text : Text) (before onward given : Given)
    (args rest : List Text) → added entries option text before ≡ Some onward →
    text_in name args ≡ (if bytes_eq option name then Some text else text_in name rest) →
    Adds name onward rest given → Adds name before args given
adds_one entries name option text before onward given args rest is first more =
    ap (first_text (option_text name before)) first
    ∙ first_text-if (option_text name before) (bytes_eq option name) text (text_in name rest)
    ∙ ap (λ (o : Option Text). first_text o (text_in name rest))
    (sym (text_of-added entries option text before onward name is))
    ∙ more

text_in-arg : (name arg : Text) (args : List Text) (p : Option (Text × Option Text)) →
    long_of arg ≡ p → text_in name (arg ∷ args) ≡
    (if option_map_or (λ q. bytes_eq q.0 name) p false
    then option_map (λ q. q.1) (part_by p args) else text_in name args)
text_in-arg name arg args p is =
    ap (λ (p : Option (Text × Option Text)). if option_map_or (λ q. bytes_eq q.0 name) p false
    then option_map (λ q. q.1) (part_by p args) else text_in name args) is

text_in-two : (name arg option text : Text) (args : List Text) →
    long_of arg ≡ Some (option, None) → IsPlain text → text_in name (arg ∷ text ∷ args) ≡
    (if bytes_eq option name then Some text else text_in name args)
text_in-two name arg option text args is plain =
    text_in-arg name arg (text ∷ args) (Some (option, None)) is
    ∙ ap (λ (o : Option Text). if bytes_eq option name then Some text else o)
    (text_in-arg name text args None plain.long)

adds_joined : (entries : List OptionEntry) (name arg option text : Text) (args : List Text)
    (before onward given : Given) → long_of arg ≡ Some (option, Some text) →
    added entries option text before ≡ Some onward → Adds name onward args given → Adds name before (arg ∷ args) given
adds_joined entries name arg option text args before onward given long is more =
    adds_one entries name option text before onward given (arg ∷ args) args is
    (text_in-arg name arg args (Some (option, Some text)) long) more

adds_parted : (entries : List OptionEntry) (name arg option text : Text) (args : List Text)
    (before onward given : Given) → long_of arg ≡ Some (option, None) →
    added entries option text before ≡ Some onward → Adds name onward args given →
    Adds name before (arg ∷ text ∷ args) given
adds_parted entries name arg option text args before onward given long is more =
    adds_one entries name option text before onward given (arg ∷ text ∷ args) args is
    (text_in-two name arg option text args long (is_added entries option text before onward is).plain) more

args_add : (entries : List OptionEntry) (name : Text) (args : List Text) (before given : Given) →
    given_after entries (Some before) args ≡ Some given → Adds name before args given
unfolding given_after
args_add entries name [] before given e =
    let same : before ≡ given = search rules in
    first_text-none (option_text name before) ∙ ap (option_text name) same
args_add entries name (arg ∷ []) before given e = by_cases (long_of arg) refl e
  where
    by_cases : (p : Option (Text × Option Text)) → long_of arg ≡ p → option_joined entries p before ≡ Some given →
        Adds name before (arg ∷ []) given
    by_cases None long is = search rules
    by_cases (Some (option, None)) long is = search rules
    by_cases (Some (option, Some text)) long is =
        adds_joined entries name arg option text [] before given given long is
        (first_text-none (option_text name given))
args_add entries name (arg ∷ text ∷ args) before given e =
    by_cases (long_of arg) refl e (λ onward. args_add entries name (text ∷ args) onward given)
    (λ onward. args_add entries name args onward given)
  where
    on_joined : (option value : Text) → long_of arg ≡ Some (option, Some value) →
        (onward : Option Given) → added entries option value before ≡ onward →
        given_after entries onward (text ∷ args) ≡ Some given →
        ((mid : Given) → given_after entries (Some mid) (text ∷ args) ≡ Some given →
        Adds name mid (text ∷ args) given) → Adds name before (arg ∷ text ∷ args) given
    on_joined option value long None is rest more =
        let bad : None ≡ Some given = sym (none_stays entries (text ∷ args)) ∙ rest in search rules
    on_joined option value long (Some onward) is rest more =
        adds_joined entries name arg option value (text ∷ args) before onward given long is (more onward rest)

    on_parted : (option : Text) → long_of arg ≡ Some (option, None) →
        (onward : Option Given) → added entries option text before ≡ onward →
        given_after entries onward args ≡ Some given →
        ((mid : Given) → given_after entries (Some mid) args ≡ Some given →
        Adds name mid args given) → Adds name before (arg ∷ text ∷ args) given
    on_parted option long None is rest more =
        let bad : None ≡ Some given = sym (none_stays entries args) ∙ rest in search rules
    on_parted option long (Some onward) is rest more =
        adds_parted entries name arg option text args before onward given long is (more onward rest)

    by_cases : (p : Option (Text × Option Text)) → long_of arg ≡ p →
        (if is_joined p then given_after entries (option_and_then (option_joined entries p) (Some before))
        (text ∷ args) else given_after entries
        (option_and_then (parted entries p text) (Some before)) args) ≡ Some given →
        ((mid : Given) → given_after entries (Some mid) (text ∷ args) ≡ Some given →
        Adds name mid (text ∷ args) given) →
        ((mid : Given) → given_after entries (Some mid) args ≡ Some given →
        Adds name mid args given) → Adds name before (arg ∷ text ∷ args) given
    by_cases None long is first second =
        let bad : None ≡ Some given = sym (none_stays entries args) ∙ is in search rules
    by_cases (Some (option, Some value)) long is first second =
        on_joined option value long (added entries option value before) refl is first
    by_cases (Some (option, None)) long is first second =
        on_parted option long (added entries option text before) refl is second

-- the text of an option stands after the first argument that names it
pub texts_given : (entries : List OptionEntry) (args : List Text) (given : Given) (name : Text) →
    given_after entries (Some []) args ≡ Some given → text_in name args ≡ option_text name given
texts_given entries args given name is = args_add entries name args [] given is
