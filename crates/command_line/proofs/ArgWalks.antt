-- What clap makes of arguments that are in the grammar: one lemma a step of its walk.
use Rattle.command_line.proofs.Common.{◌≡◌, nat_lt, Bool, true, false, not, ◌&&◌, ◌||◌, List, [], ◌∷◌, ◌++◌, map, refl, sym, ap, ap₂, ◌∙◌}
use Rattle.command_line.proofs.Common.{subst, rules, Option, None, Some, find, fold, is_some, option_map, option_and_then, append-nil, drop}
use Rattle.command_line.proofs.Common.{if◌then◌else◌, slice_get, bytes_eq, list_any, list_all, option_map_or, map-append, bytes_eq-Decides}
use Rattle.command_line.proofs.Common.{Bor, Entry, first_value, Found, long_of, Held, Row, Rule, Walk, Step, idle, option, next, arg_by_id}
use Rattle.command_line.proofs.Common.{arg_by_long, has_row, reacted, settled, used_by_id, used, walk_from, walked, walk, with_values, Set}
use Rattle.command_line.proofs.Common.{more_values, without, at_row, word_met, long_or_other, after_flag, after_step, long_met, option_word}
use Rattle.command_line.proofs.Common.{short_or_plain, pushed, with_default, nothing_held, trailing, finished, rows_after, rows_of, takes}
use Rattle.command_line.proofs.Common.{first_of, bundle_passes, settle_passes, turn_passes, walk_passes, word_passes, flag_word_passes, App}
use Rattle.command_line.proofs.Common.{long_passes, use_passes, step_passes, default_passes, is_valid, is_given, level_passes, built_takes}
use Rattle.command_line.proofs.Common.{entered_passes, Shape, new_rule, new_app, is_simple, built, matches_of, names_of, entered, Given}
use Rattle.command_line.proofs.Common.{CommandLine, OptionEntry, Text, added, given_after, has_name, is_allowed, is_joined, option_joined}
use Rattle.command_line.proofs.Common.{append_assoc, parted, option_text, value_in, row_of}
use Rattle.std.proofs.lemmas.List.Sums.{fold-append}
use Rattle.command_line.proofs.ArgTests.{IsPlain, none_stays, value_plain}
use Rattle.clap.specs.declared.builder.value_parser.ValueParser.TheVariants as vp
use Rattle.clap.specs.declared.builder.value_parser.Reading.TheVariants as reading

abbrev pub names_in : List OptionEntry → List Text
names_in rows = map (λ row. row.name) rows

abbrev is_among : List Text → Text → Bool
is_among names name = list_any (λ n. bytes_eq n name) names

-- an option of this name, as a built command has it
abbrev pub opt : Text → Rule
opt name = record (new_rule name) {
  long = Some name;
  action = Some Set;
  range = Some (record { start_inclusive = 1; end_inclusive = 1 });
  parser = Some vp.String;
}

abbrev pub opts : List Text → List Rule
opts names = map opt names

-- what is found of an option that was given
abbrev pub row : Text × Text → Row
row p = record { id = p.0; values = p.1 ∷ []; count = None; source = Some CommandLine; reading = reading.AsWritten }

abbrev pub found_rows : Given → List Row
found_rows given = map row given

bytes_same : (a : Text) → bytes_eq a a ≡ true
bytes_same a = by_cases (bytes_eq a a) refl
  where
    by_cases : (b : Bool) → bytes_eq a a ≡ b → bytes_eq a a ≡ true
    by_cases true e = e
    by_cases false e = search (rules, bytes_eq-Decides)

-- ---- look-ups

-- a look-up by names that goes through them finds what stands for one that is among them
by_look : {A : Type 0} (made : Text → A) (look : List Text → Text → Option A) →
    ((n : Text) (names : List Text) (name : Text) → bytes_eq n name ≡ true →
    look (n ∷ names) name ≡ Some (made n)) →
    ((n : Text) (names : List Text) (name : Text) → bytes_eq n name ≡ false →
    look (n ∷ names) name ≡ look names name) →
    (names : List Text) (name : Text) → is_among names name ≡ true → look names name ≡ Some (made name)
by_look made look hit miss [] name e = absurd (cc e)
by_look made look hit miss (n ∷ names) name e =
    by_cases (bytes_eq n name) refl (by_look made look hit miss names name)
  where
    by_cases : (b : Bool) → bytes_eq n name ≡ b → (is_among names name ≡ true → look names name ≡ Some (made name)) →
        look (n ∷ names) name ≡ Some (made name)
    by_cases true same more =
        hit n names name same
        ∙ ap (λ (t : Text). Some (made t)) ((bytes_eq-Decides n name).0 same)
    by_cases false other more = miss n names name other ∙ more (rw other at e)

by_long : (names : List Text) (name : Text) → is_among names name ≡ true →
    arg_by_long (opts names) name ≡ Some (opt name)
by_long =
    by_look opt (λ names name. arg_by_long (opts names) name) (λ n names name same. rw same refl)
    (λ n names name other. rw other refl)

by_id : (names : List Text) (name : Text) → is_among names name ≡ true → arg_by_id (opts names) name ≡ Some (opt name)
by_id =
    by_look opt (λ names name. arg_by_id (opts names) name) (λ n names name same. rw same refl)
    (λ n names name other. rw other refl)

-- ---- rows

entry_has : (name : Text) (given : Given) → has_row name (found_rows given) ≡ has_name name given
entry_has name [] = refl
entry_has name (p ∷ given) = ap (λ (b : Bool). bytes_eq p.0 name || b) (entry_has name given)

-- a use of an option that wasn't given before puts its row after the others
at_missing : (name : Text) (change : Row → List Row) (missing : List Row) (given : Given) →
    has_name name given ≡ false → at_row name change missing (found_rows given) ≡ found_rows given ++ missing
at_missing name change missing [] e = refl
at_missing name change missing (p ∷ given) e =
    by_cases (bytes_eq p.0 name) refl (at_missing name change missing given)
  where
    by_cases : (b : Bool) → bytes_eq p.0 name ≡ b → (has_name name given ≡ false →
        at_row name change missing (found_rows given) ≡ found_rows given ++ missing) →
        at_row name change missing (found_rows (p ∷ given)) ≡ found_rows (p ∷ given) ++ missing
    by_cases true same more = let bad : true ≡ false = rw same at e in search rules
    by_cases false other more = rw other (ap (λ (rs : List Row). row p ∷ rs) (more (rw other at e)))

rows_more : (given : Given) (p : Text × Text) → found_rows given ++ row p ∷ [] ≡ found_rows (given ++ p ∷ [])
rows_more given p = sym (map-append row given (p ∷ []))

-- the rows after one use of an option that wasn't given before
used_new : (name text : Text) (given : Given) → has_name name given ≡ false →
    used (opt name) (text ∷ []) (found_rows given) ≡ found_rows (given ++ (name, text) ∷ [])
used_new name text given fresh =
    let gone : without name (found_rows given) ≡ found_rows given =
    at_missing name (λ (r : Row). []) [] given fresh ∙ append-nil (found_rows given) in
    ap (λ (rs : List Row). with_values name reading.AsWritten CommandLine (text ∷ []) rs) gone
    ∙ at_missing name (more_values CommandLine (text ∷ [])) (row (name, text) ∷ []) given fresh
    ∙ rows_more given (name, text)

-- such a use passes
use_new : (name text : Text) (given : Given) → has_name name given ≡ false →
    use_passes false (opt name) (text ∷ []) (found_rows given) ≡ true
use_new name text given fresh = ap (λ (b : Bool). (not b || false) && true) (entry_has name given ∙ fresh)

-- ---- between two options

-- a command with just these options, built
abbrev pub shape : Text → List Text → Shape
shape name names = record (new_app name).top {
  rules = opts names;
  no_binary_name = true;
  disable_help_flag = true;
  disable_help_subcommand = true;
  is_built = true;
}

-- what is held stands for what was given
pub record IsHeld (names : List Text) (h : Held) (given : Given) : Type 0 where
  pub rows : (settled (opts names) h).rows ≡ found_rows given
  pub passes : settle_passes (opts names) false h ≡ true

pub held_nothing : (names : List Text) → IsHeld names nothing_held []
held_nothing names = record { rows = refl; passes = refl }

-- a step of the walk: arguments pass, and lead from one thing held to another
pub record Walks (name : Text) (names : List Text) (h after : Held)
    (args : List Text) : Type 0 where
  pub passes : (more : List Text) → walk_passes (shape name names) [] (walk_from h) (args ++ more)
      ≡ walk_passes (shape name names) [] (walk_from after) more
  pub walked : fold (walked (opts names) []) (walk_from h) args ≡ walk_from after

not_dashes : (arg : Text) (p : Text × Option Text) → long_of arg ≡ Some p → bytes_eq arg (45 ∷ 45 ∷ []) ≡ false
not_dashes arg p e = by_cases (bytes_eq arg (45 ∷ 45 ∷ [])) refl
  where
    by_cases : (b : Bool) → bytes_eq arg (45 ∷ 45 ∷ []) ≡ b → bytes_eq arg (45 ∷ 45 ∷ []) ≡ false
    by_cases false other = other
    by_cases true same =
        let is : arg ≡ 45 ∷ 45 ∷ [] = (bytes_eq-Decides arg (45 ∷ 45 ∷ [])).0 same in
        let none : None ≡ Some p = ap long_of (sym is) ∙ e in
        search rules

-- an argument `--name=TEXT` in the walk
joined_met : (names : List Text) (h : Held) (arg name text : Text) →
    long_of arg ≡ Some (name, Some text) → is_among names name ≡ true → word_met (opts names) [] false idle 1 arg h
    ≡ (reacted (opts names) (opt name) (text ∷ []) h, next idle)
joined_met names h arg name text long among =
    ap (λ (b : Bool). if b then (h, trailing 1)
    else long_or_other (opts names) idle arg (long_of arg) h)
    (not_dashes arg (name, Some text) long)
    ∙ ap (λ (p : Option (Text × Option Text)). long_or_other (opts names) idle arg p h) long
    ∙ ap (λ (a : Option Rule). after_flag (opts names) idle arg
    (long_met (opts names) a (Some text) h).0 (long_met (opts names) a (Some text) h).1)
    (by_long names name among)

joined_passes : (command : Text) (names : List Text) (h : Held) (given : Given)
    (arg name text : Text) → long_of arg ≡ Some (name, Some text) → is_among names name ≡ true →
    IsHeld names h given → has_name name given ≡ false → word_passes (shape command names) [] false idle arg h ≡ true
joined_passes command names h given arg name text long among held fresh =
    ap (λ (b : Bool). b || flag_word_passes (opts names) false (long_of arg) arg h)
    (not_dashes arg (name, Some text) long)
    ∙ ap (λ (p : Option (Text × Option Text)). flag_word_passes (opts names) false p arg h) long
    ∙ ap (λ (a : Option Rule). long_passes (opts names) false a (Some text) h) (by_long names name among)
    ∙ ap (λ (b : Bool). b && use_passes false (opt name) (text ∷ []) (settled (opts names) h).rows)
    held.passes
    ∙ ap (λ (rs : List Row). use_passes false (opt name) (text ∷ []) rs) held.rows
    ∙ use_new name text given fresh

-- one option `--name=TEXT`
pub joined_walks : (command : Text) (names : List Text) (h : Held) (given : Given)
    (arg name text : Text) → long_of arg ≡ Some (name, Some text) → is_among names name ≡ true →
    IsHeld names h given → has_name name given ≡ false →
    Walks command names h (reacted (opts names) (opt name) (text ∷ []) h) (arg ∷ [])
unfolding walked walk_passes
joined_walks command names h given arg name text long among held fresh =
    let after = reacted (opts names) (opt name) (text ∷ []) h in
    let met = joined_met names h arg name text long among in
    let step : walked (opts names) [] (walk_from h) arg ≡ walk_from after =
    ap (λ (m : Held × Step). after_step (opts names) arg (walk_from h) m.0 m.1) met in
    let turn : turn_passes (shape command names) [] (walk_from h) arg ≡ true =
    ap₂ (λ (b : Bool) (m : Held × Step). b && step_passes (shape command names) 1 m.0 m.1)
    (joined_passes command names h given arg name text long among held fresh) met in
    record {
      passes = λ more. ap₂ (λ (b : Bool) (w : Walk). b
          && walk_passes (shape command names) [] w more) turn step;
      walked = step;
    }

pub joined_held : (names : List Text) (h : Held) (given : Given) (name text : Text) →
    IsHeld names h given → has_name name given ≡ false →
    IsHeld names (reacted (opts names) (opt name) (text ∷ []) h) (given ++ (name, text) ∷ [])
joined_held names h given name text held fresh = record {
  rows = ap (λ (rs : List Row). used (opt name) (text ∷ []) rs) held.rows
      ∙ used_new name text given fresh;
  passes = refl;
}

-- what is held between an option's name and its text
abbrev waiting_for : List Text → Text → Held → Held
waiting_for names name h = record (settled (opts names) h) { pending = Some (name, []) }

parted_met : (names : List Text) (h : Held) (arg name : Text) → long_of arg ≡ Some (name, None) →
    is_among names name ≡ true →
    word_met (opts names) [] false idle 1 arg h ≡ (waiting_for names name h, next (option name))
parted_met names h arg name long among =
    ap (λ (b : Bool). if b then (h, trailing 1)
    else long_or_other (opts names) idle arg (long_of arg) h)
    (not_dashes arg (name, None) long)
    ∙ ap (λ (p : Option (Text × Option Text)). long_or_other (opts names) idle arg p h) long
    ∙ ap (λ (a : Option Rule). after_flag (opts names) idle arg (long_met (opts names) a None h).0
    (long_met (opts names) a None h).1) (by_long names name among)

parted_passes : (command : Text) (names : List Text) (h : Held) (given : Given) (arg name : Text) →
    long_of arg ≡ Some (name, None) → is_among names name ≡ true →
    IsHeld names h given → word_passes (shape command names) [] false idle arg h ≡ true
parted_passes command names h given arg name long among held =
    ap (λ (b : Bool). b || flag_word_passes (opts names) false (long_of arg) arg h) (not_dashes arg (name, None) long)
    ∙ ap (λ (p : Option (Text × Option Text)). flag_word_passes (opts names) false p arg h) long
    ∙ ap (λ (a : Option Rule). long_passes (opts names) false a None h) (by_long names name among)
    ∙ held.passes

text_met : (names : List Text) (h : Held) (name text : Text) → IsPlain text → is_among names name ≡ true →
    word_met (opts names) [] false (option name) 1 text (waiting_for names name h)
    ≡ (pushed name text (waiting_for names name h), next idle)
text_met names h name text plain among =
    let now = waiting_for names name h in
    ap (λ (b : Bool). if b then (now, trailing 1)
    else long_or_other (opts names) (option name) text (long_of text) now) plain.dashes
    ∙ ap (λ (p : Option (Text × Option Text)). long_or_other (opts names) (option name) text p now)
    plain.long
    ∙ ap (λ (p : Option Text). short_or_plain (opts names) (option name) text p now) plain.short
    ∙ ap (λ (a : Option Rule). (
      (option_word a name text now).0,
      next (option_word a name text now).1,
    )) (by_id names name among)
    ∙ ap (λ (b : Bool). (
      pushed name text now,
      next (if nat_lt (if b then 1 else 0) 1 then option name else idle),
    )) (bytes_same name)

text_passes : (command : Text) (names : List Text) (h : Held) (name text : Text) → IsPlain text →
    word_passes (shape command names) [] false (option name) text h ≡ true
text_passes command names h name text plain =
    ap (λ (b : Bool). b || flag_word_passes (opts names) false (long_of text) text h) plain.dashes
    ∙ ap (λ (p : Option (Text × Option Text)). flag_word_passes (opts names) false p text h)
    plain.long
    ∙ ap (λ (p : Option Text). option_map_or (λ flags. bundle_passes (opts names) false flags h) p
    true) plain.short

-- one option `--name TEXT`
pub parted_walks : (command : Text) (names : List Text) (h : Held) (given : Given)
    (arg name text : Text) → long_of arg ≡ Some (name, None) → is_among names name ≡ true → IsPlain text →
    IsHeld names h given → Walks command names h (pushed name text (waiting_for names name h)) (arg ∷ text ∷ [])
unfolding walked walk_passes
parted_walks command names h given arg name text long among plain held =
    let mid : Walk = record (walk_from (waiting_for names name h)) { waiting = option name } in
    let after = pushed name text (waiting_for names name h) in
    let met = parted_met names h arg name long among in
    let met2 = text_met names h name text plain among in
    let step : walked (opts names) [] (walk_from h) arg ≡ mid =
    ap (λ (m : Held × Step). after_step (opts names) arg (walk_from h) m.0 m.1) met in
    let step2 : walked (opts names) [] mid text ≡ walk_from after =
    ap (λ (m : Held × Step). after_step (opts names) text mid m.0 m.1) met2 in
    let turn : turn_passes (shape command names) [] (walk_from h) arg ≡ true =
    ap₂ (λ (b : Bool) (m : Held × Step). b && step_passes (shape command names) 1 m.0 m.1)
    (parted_passes command names h given arg name long among held) met in
    let turn2 : turn_passes (shape command names) [] mid text ≡ true =
    ap₂ (λ (b : Bool) (m : Held × Step). b && step_passes (shape command names) 1 m.0 m.1)
    (text_passes command names (waiting_for names name h) name text plain) met2 in
    record {
      passes = λ more. ap₂ (λ (b : Bool) (w : Walk). b
          && walk_passes (shape command names) [] w (text ∷ more)) turn step
          ∙ ap₂ (λ (b : Bool) (w : Walk). b && walk_passes (shape command names) [] w more) turn2
          step2;
      walked = ap (λ (w : Walk). walked (opts names) [] w text) step ∙ step2;
    }

pub parted_held : (names : List Text) (h : Held) (given : Given) (name text : Text) →
    is_among names name ≡ true → IsHeld names h given → has_name name given ≡ false →
    IsHeld names (pushed name text (waiting_for names name h)) (given ++ (name, text) ∷ [])
parted_held names h given name text among held fresh = record {
  rows = ap (λ (a : Option Rule). used_by_id a (text ∷ []) (settled (opts names) h).rows) (by_id names name among)
      ∙ ap (λ (rs : List Row). used (opt name) (text ∷ []) rs) held.rows
      ∙ used_new name text given fresh;
  passes = ap (λ (a : Option Rule). option_map_or
      (λ b. use_passes false b (text ∷ []) (settled (opts names) h).rows) a true)
      (by_id names name among)
      ∙ ap (λ (rs : List Row). use_passes false (opt name) (text ∷ []) rs) held.rows
      ∙ use_new name text given fresh;
}

-- ---- all arguments

-- what an option that is admitted tells
pub record IsOptionAdded (rows : List OptionEntry) (name text : Text) (before after : Given) : Type 0 where
  pub among : is_among (names_in rows) name ≡ true
  pub fresh : has_name name before ≡ false
  pub plain : IsPlain text
  pub after_is : before ++ (name, text) ∷ [] ≡ after

allowed_among : (rows : List OptionEntry) (name text : Text) → is_allowed rows name text ≡ true →
    is_among (names_in rows) name ≡ true
allowed_among [] name text e = search rules
allowed_among (row ∷ rows) name text e = by_cases (bytes_eq row.name name) e (allowed_among rows name text)
  where
    by_cases : (b : Bool) → option_map_or (λ r. is_some (value_in r.form text))
        (if b then Some row else find (λ r. bytes_eq r.name name) rows) false ≡ true →
        (is_allowed rows name text ≡ true → is_among (names_in rows) name ≡ true) →
        b || is_among (names_in rows) name ≡ true
    by_cases true is more = refl
    by_cases false is more = more is

pub is_added : (rows : List OptionEntry) (name text : Text) (before after : Given) →
    added rows name text before ≡ Some after → IsOptionAdded rows name text before after
is_added rows name text before after e = by_cases (is_allowed rows name text) (has_name name before) refl refl e
  where
    by_cases : (a b : Bool) → is_allowed rows name text ≡ a → has_name name before ≡ b →
        (if a && not b then Some (before ++ (name, text) ∷ []) else None) ≡ Some after →
        IsOptionAdded rows name text before after
    by_cases true false ae be is = record {
      among = allowed_among rows name text ae;
      fresh = be;
      plain = value_plain rows name text ae;
      after_is = search rules;
    }
    by_cases false b ae be is = search rules
    by_cases true true ae be is = search rules

-- a walk over arguments, and what it leaves held
abbrev Leads : Text → List Text → Held → List Text → Given → Type 0
Leads command names h args given = (after : Held) × Walks command names h after args
    × IsHeld names after given

lead_joined : (command : Text) (rows : List OptionEntry) (h : Held) (before onward : Given)
    (arg name text : Text) → long_of arg ≡ Some (name, Some text) → added rows name text before ≡ Some onward →
    IsHeld (names_in rows) h before → Leads command (names_in rows) h (arg ∷ []) onward
lead_joined command rows h before onward arg name text long e held =
    let a = is_added rows name text before onward e in (
      reacted (opts (names_in rows)) (opt name) (text ∷ []) h,
      joined_walks command (names_in rows) h before arg name text long a.among held a.fresh,
      subst (IsHeld (names_in rows) (reacted (opts (names_in rows)) (opt name) (text ∷ []) h))
          a.after_is (joined_held (names_in rows) h before name text held a.fresh),
    )

lead_parted : (command : Text) (rows : List OptionEntry) (h : Held) (before onward : Given)
    (arg name text : Text) → long_of arg ≡ Some (name, None) → added rows name text before ≡ Some onward →
    IsHeld (names_in rows) h before → Leads command (names_in rows) h (arg ∷ text ∷ []) onward
lead_parted command rows h before onward arg name text long e held =
    let a = is_added rows name text before onward e in (
      pushed name text (waiting_for (names_in rows) name h),
      parted_walks command (names_in rows) h before arg name text long a.among a.plain held,
      subst (IsHeld (names_in rows) (pushed name text (waiting_for (names_in rows) name h)))
          a.after_is (parted_held (names_in rows) h before name text a.among held a.fresh),
    )

-- two walks, one after the other
leads_on : (command : Text) (names : List Text) (h : Held) (front args : List Text)
    (onward given : Given) → Leads command names h front onward →
    ((mid : Held) → IsHeld names mid onward → Leads command names mid args given) →
    Leads command names h (front ++ args) given
leads_on command names h front args onward given first more =
    let last = more first.0 first.2 in (
      last.0,
      record {
        passes = λ rest. ap (walk_passes (shape command names) [] (walk_from h)) (append_assoc front args rest)
            ∙ first.1.passes (args ++ rest) ∙ last.1.passes rest;
        walked = fold-append (walked (opts names) []) (walk_from h) front args
            ∙ ap (λ (w : Walk). fold (walked (opts names) []) w args) first.1.walked ∙ last.1.walked;
      },
      last.2,
    )

pub args_lead : (command : Text) (rows : List OptionEntry) (args : List Text) (h : Held)
    (before given : Given) → IsHeld (names_in rows) h before →
    given_after rows (Some before) args ≡ Some given → Leads command (names_in rows) h args given
unfolding given_after
args_lead command rows [] h before given held e =
    let same : before ≡ given = search rules in
    (h, record { passes = λ rest. refl; walked = refl }, subst (IsHeld (names_in rows) h) same held)
args_lead command rows (arg ∷ []) h before given held e = by_cases (long_of arg) refl e
  where
    by_cases : (p : Option (Text × Option Text)) → long_of arg ≡ p → option_joined rows p before ≡ Some given →
        Leads command (names_in rows) h (arg ∷ []) given
    by_cases None long is = search rules
    by_cases (Some (name, None)) long is = search rules
    by_cases (Some (name, Some text)) long is = lead_joined command rows h before given arg name text
        long is held
args_lead command rows (arg ∷ text ∷ args) h before given held e =
    by_cases (long_of arg) refl e (λ onward mid held2 e2. args_lead command rows (text ∷ args) mid onward given held2 e2)
    (λ onward mid held2 e2. args_lead command rows args mid onward given held2 e2)
  where
    on_joined : (name value : Text) → long_of arg ≡ Some (name, Some value) →
        (onward : Option Given) → added rows name value before ≡ onward →
        given_after rows onward (text ∷ args) ≡ Some given →
        ((then_given : Given) (mid : Held) → IsHeld (names_in rows) mid then_given →
        given_after rows (Some then_given) (text ∷ args) ≡ Some given →
        Leads command (names_in rows) mid (text ∷ args) given) →
        Leads command (names_in rows) h (arg ∷ text ∷ args) given
    on_joined name value long None is rest more = let bad : None ≡ Some given =
        sym (none_stays rows (text ∷ args)) ∙ rest in search rules
    on_joined name value long (Some onward) is rest more =
        leads_on command (names_in rows) h (arg ∷ []) (text ∷ args) onward given
        (lead_joined command rows h before onward arg name value long is held) (λ mid held2. more onward mid held2 rest)

    on_parted : (name : Text) → long_of arg ≡ Some (name, None) → (onward : Option Given) →
        added rows name text before ≡ onward → given_after rows onward args ≡ Some given →
        ((then_given : Given) (mid : Held) → IsHeld (names_in rows) mid then_given →
        given_after rows (Some then_given) args ≡ Some given →
        Leads command (names_in rows) mid args given) →
        Leads command (names_in rows) h (arg ∷ text ∷ args) given
    on_parted name long None is rest more = let bad : None ≡ Some given =
        sym (none_stays rows args) ∙ rest in search rules
    on_parted name long (Some onward) is rest more =
        leads_on command (names_in rows) h (arg ∷ text ∷ []) args onward given
        (lead_parted command rows h before onward arg name text long is held) (λ mid held2. more onward mid held2 rest)

    by_cases : (p : Option (Text × Option Text)) → long_of arg ≡ p →
        (if is_joined p then given_after rows (option_and_then (option_joined rows p) (Some before))
        (text ∷ args) else given_after rows
        (option_and_then (parted rows p text) (Some before)) args) ≡ Some given →
        ((onward : Given) (mid : Held) → IsHeld (names_in rows) mid onward →
        given_after rows (Some onward) (text ∷ args) ≡ Some given →
        Leads command (names_in rows) mid (text ∷ args) given) →
        ((onward : Given) (mid : Held) → IsHeld (names_in rows) mid onward →
        given_after rows (Some onward) args ≡ Some given →
        Leads command (names_in rows) mid args given) →
        Leads command (names_in rows) h (arg ∷ text ∷ args) given
    by_cases None long is first second = let bad : None ≡ Some given = sym (none_stays rows args) ∙ is in
        search rules
    by_cases (Some (name, Some value)) long is first second =
        on_joined name value long (added rows name value before) refl is first
    by_cases (Some (name, None)) long is first second = on_parted name long (added rows name text before) refl is second

-- ---- the parse

defaults_pass : (names : List Text) → list_all default_passes (opts names) ≡ true
defaults_pass [] = refl
defaults_pass (n ∷ names) = defaults_pass names

all_free : (names : List Text) → list_all (λ a. a.is_free) (opts names) ≡ true
all_free [] = refl
all_free (n ∷ names) = all_free names

none_required : (names : List Text) (found : List Row) →
    list_all (λ a. not a.required || is_given a.id found) (opts names) ≡ true
none_required [] found = refl
none_required (n ∷ names) found = none_required names found

valid : (command : Text) (names : List Text) (found : List Row) → is_valid (shape command names) found false ≡ true
valid command names found = ap₂ (λ (a b : Bool). a && b) (all_free names) (none_required names found)

default_same : (n : Text) (found : List Row) → with_default found (opt n) ≡ found
default_same n found = by_cases (has_row n found)
  where
    by_cases : (b : Bool) → (if b then found else found) ≡ found
    by_cases true = refl
    by_cases false = refl

defaults_same : (names : List Text) (found : List Row) → fold with_default found (opts names) ≡ found
defaults_same [] found = refl
defaults_same (n ∷ names) found = ap (λ (rs : List Row). fold with_default rs (opts names))
    (default_same n found) ∙ defaults_same names found

-- a command with just these options takes the arguments, and finds what they give
pub record Reads (command : Text) (rows : List OptionEntry) (args : List Text)
    (given : Given) : Type 0 where
  pub stopped : (walk (opts (names_in rows)) [] nothing_held args).stopped ≡ None
  pub passes : level_passes (shape command (names_in rows)) [] nothing_held args false ≡ true
  pub found : rows_after (opts (names_in rows)) [] args ≡ found_rows given

-- Arguments that the grammar takes are read by clap's walk to their end, and it finds what they
-- give: from nothing held the walk leads to what holds just these options, and the defaults and the
-- tests that come after the walk pass and change nothing.
pub args_read : (command : Text) (rows : List OptionEntry) (args : List Text) (given : Given) →
    given_after rows (Some []) args ≡ Some given → Reads command rows args given
unfolding walk_passes
args_read command rows args given e =
    let led = args_lead command rows args nothing_held [] given (held_nothing (names_in rows)) e in
    let after = led.0 in
    let walked_is : walk (opts (names_in rows)) [] nothing_held args ≡ walk_from after = led.1.walked in
    let pass : walk_passes (shape command (names_in rows)) [] (walk_from nothing_held) args
    ≡ true =
    ap (λ (ws : List Text). walk_passes (shape command (names_in rows)) []
    (walk_from nothing_held) ws) (sym (append-nil args)) ∙ led.1.passes [] in
    record {
      stopped = ap (λ (w : Walk). w.stopped) walked_is;
      passes = ap
          (λ (b : Bool). b && (settle_passes (opts (names_in rows)) false
          (walk (opts (names_in rows)) [] nothing_held args).held
          && (list_all default_passes (opts (names_in rows))
          && is_valid (shape command (names_in rows))
          (finished (opts (names_in rows)) (walk (opts (names_in rows)) [] nothing_held args).held) false))) pass
          ∙ ap (λ (w : Walk). settle_passes (opts (names_in rows)) false w.held
          && (list_all default_passes (opts (names_in rows))
          && is_valid (shape command (names_in rows)) (finished (opts (names_in rows)) w.held) false)) walked_is
          ∙ ap (λ (b : Bool). b && (list_all default_passes (opts (names_in rows))
          && is_valid (shape command (names_in rows)) (finished (opts (names_in rows)) after) false)) led.2.passes
          ∙ ap₂ (λ (a b : Bool). a && b) (defaults_pass (names_in rows))
          (valid command (names_in rows) (finished (opts (names_in rows)) after));
      found = ap (λ (w : Walk). finished (opts (names_in rows)) w.held) walked_is
          ∙ defaults_same (names_in rows) (settled (opts (names_in rows)) after).rows ∙ led.2.rows;
    }

pub takes_args : (a : App) (command : Text) (rows : List OptionEntry) (args : List Text)
    (given : Given) → is_simple a ≡ true → a.top.no_binary_name ≡ true →
    built a ≡ record { top = shape command (names_in rows); subs = [] } →
    given_after rows (Some []) args ≡ Some given → takes a args ≡ true
takes_args a command rows args given simple bare build e =
    let r = args_read command rows args given e in
    ap₂ (λ (b c : Bool). b && built_takes (built a) nothing_held (if c then args else drop 1 args)) simple bare
    ∙ ap (λ (x : App). built_takes x nothing_held args) build
    ∙ ap (λ (stop : Option (Text × List Text)). entered_passes
    (record { top = shape command (names_in rows); subs = [] }) stop
    && level_passes (shape command (names_in rows)) [] nothing_held args
    (is_some (entered (record { top = shape command (names_in rows); subs = [] }) stop)))
    r.stopped
    ∙ r.passes

pub finds_args : (a : App) (command : Text) (rows : List OptionEntry) (args : List Text)
    (given : Given) → a.top.no_binary_name ≡ true →
    built a ≡ record { top = shape command (names_in rows); subs = [] } →
    given_after rows (Some []) args ≡ Some given → matches_of a args ≡ found_rows given
finds_args a command rows args given bare build e =
    let r = args_read command rows args given e in
    ap (λ (c : Bool). rows_after (built a).top.rules (names_of (built a)) (if c then args else drop 1 args)) bare
    ∙ ap (λ (x : App). rows_after x.top.rules (names_of x) args) build ∙ r.found

-- ---- values

now_of : (xs : List (Bor Text)) → option_map (λ s. s.now) (slice_get xs 0) ≡ slice_get (map (λ s. s.now) xs) 0
now_of [] = refl
now_of (x ∷ xs) = refl

first_in : (es : List Entry) (id : Text) → option_and_then (λ a. option_map (λ s. s.now) (slice_get a.vals.items 0))
    (option_map (λ e. e.1) (find (λ e. bytes_eq e.0.now id) es))
    ≡ option_and_then (λ r. slice_get r.values 0) (find (λ r. bytes_eq r.id id) (map row_of es))
first_in [] id = refl
first_in (e ∷ es) id = by_cases (bytes_eq e.0.now id) (first_in es id)
  where
    by_cases : (b : Bool) → option_and_then (λ a. option_map (λ s. s.now) (slice_get a.vals.items 0))
        (option_map (λ e. e.1) (find (λ e. bytes_eq e.0.now id) es))
        ≡ option_and_then (λ r. slice_get r.values 0) (find (λ r. bytes_eq r.id id) (map row_of es)) →
        option_and_then (λ a. option_map (λ s. s.now) (slice_get a.vals.items 0))
        (option_map (λ e. e.1) (if b then Some e else find (λ e. bytes_eq e.0.now id) es))
        ≡ option_and_then (λ r. slice_get r.values 0)
        (if b then Some (row_of e) else find (λ r. bytes_eq r.id id) (map row_of es))
    by_cases true more = now_of e.1.vals.items
    by_cases false more = more

text_in : (given : Given) (name : Text) → first_of name (found_rows given) ≡ option_text name given
text_in [] name = refl
text_in (p ∷ given) name = by_cases (bytes_eq p.0 name) (text_in given name)
  where
    by_cases : (b : Bool) → first_of name (found_rows given) ≡ option_text name given →
        option_and_then (λ r. slice_get r.values 0)
        (if b then Some (row p) else find (λ r. bytes_eq r.id name) (found_rows given))
        ≡ option_map (λ q. q.1) (if b then Some p else find (λ q. bytes_eq q.0 name) given)
    by_cases true more = refl
    by_cases false more = more

-- a getter of a matched command gives the text that the arguments give
pub value_is : (f : Found) (given : Given) (name : Text) → rows_of f ≡ found_rows given →
    first_value f name ≡ option_text name given
value_is f given name same = first_in f.entries.items name ∙ ap (first_of name) same
    ∙ text_in given name
