-- The arguments of the command line, as lists of bytes, and the job that they name.
use Rattle.std.specs.Prelude.{ℕ, ◌≡◌, ◌≢◌, ◌≤◌, ◌<◌, ◌^◌, ◌⊎◌, nat_eq, nat_le, Bool, true, false}
use Rattle.std.specs.Prelude.{not, ◌&&◌, ◌||◌, if◌then◌else◌, List, [], ◌∷◌, ◌++◌, length, map}
use Rattle.std.specs.Prelude.{codes, string_bytes, Option, None, Some, find, is_some, option_map}
use Rattle.std.specs.Prelude.{option_and_then, unwrap_or}
use Rattle.std.specs.List.{list_all, list_any}
use Rattle.std.specs.Option.{option_map_or}
use Rattle.std.specs.Result.{result_ok}
use Rattle.std.specs.Cmp.Lexicographic.{pointwise}
use Rattle.std.specs.Int.{from_be_bytes, w32}
use Rattle.std.specs.Str.{bytes_eq}
use Rattle.std.specs.declared.string.String.{String}
use Rattle.std.specs.declared.alloc.Global.{Global}
use Rattle.chip_core.specs.Air.{IsListLength}
use Rattle.chip_core.specs.Decimals.{digits_from}
use Rattle.clap.specs.Lexer.{long_of}
use Rattle.clap.specs.Words.{App, Rule, new_app, new_rule, with_rule}
use Rattle.clap.specs.Simple.{on_top}
use Rattle.clap.specs.declared.builder.ArgAction.TheVariants.{Set}
use Rattle.hex.specs.Hex.{decode_sized}
use Rattle.chip_core.specs.declared.width.Width.{Width}
use Rattle.chip_core.specs.declared.width.Width.TheVariants.{Sixteen, Eight}
use Rattle.command_line.specs.declared.job.Job.{Job}
use Rattle.command_line.specs.declared.job.Job.TheVariants.{Find, Follow, Rate2, Idle, Survey, Make}
use Rattle.command_line.specs.declared.job.Job.TheVariants.{Trial}
use Rattle.command_line.specs.declared.job.JobSearch.{JobSearch}
use Rattle.chip_core.specs.declared.assignment.Traffic.{Traffic}
use Rattle.command_line.specs.declared.commands.Command.{Command}
use Rattle.command_line.specs.declared.grammar.ValueForm.{ValueForm}
use Rattle.command_line.specs.declared.grammar.ValueForm.TheVariants.{Between, EightDigits, Either}
use Rattle.command_line.specs.declared.grammar.OptionRule.{OptionRule}
use Rattle.command_line.specs.declared.receiving.ReceptionOptions.{ReceptionOptions}
use Rattle.command_line.specs.declared.job.Job.TheVariants as jobs
use Rattle.command_line.specs.declared.commands.Command.TheVariants as named

abbrev pub Text : Type 0
Text = List ℕ

-- ---- the table of options

-- an entry of the table: an option's name, the form of its values, and its default, if it has one
pub record OptionEntry : Type 0 where
  pub name : Text
  pub form : ValueForm
  pub default : Option ℕ

-- the entry of a rule in the program's own table
abbrev pub entry_of : OptionRule → OptionEntry
entry_of rule = record { name = rule.name.now; form = rule.form; default = rule.default }

abbrev pub span_entry : OptionEntry
span_entry = record { name = codes "span"; form = Between 64 32768; default = Some 2048 }

abbrev pub workers_entry : OptionEntry
workers_entry = record { name = codes "workers"; form = Between 1 64; default = Some 4 }

abbrev pub fingers_entry : OptionEntry
fingers_entry = record { name = codes "fingers"; form = Between 1 3; default = Some 1 }

abbrev pub paging_entry : OptionEntry
paging_entry = record { name = codes "paging"; form = Between 1 7; default = Some 1 }

-- the key (required) from which a handset's slots are computed, and the index of its slot cycle
abbrev pub key_entry : OptionEntry
key_entry = record { name = codes "key"; form = EightDigits; default = None }

abbrev pub cycle_entry : OptionEntry
cycle_entry = record { name = codes "cycle"; form = Between 0 7; default = Some 0 }

-- the handset's electronic serial number, and the Walsh row and FRAME_OFFSET of its traffic channel
abbrev pub serial_entry : OptionEntry
serial_entry = record { name = codes "esn"; form = EightDigits; default = None }

abbrev pub walsh_row_entry : OptionEntry
walsh_row_entry = record { name = codes "row"; form = Between 1 63; default = None }

abbrev pub offset_entry : OptionEntry
offset_entry = record { name = codes "offset"; form = Between 0 15; default = None }

-- how many of the best codewords of a rate are listed; required
abbrev pub list_length_entry : OptionEntry
list_length_entry = record { name = codes "k"; form = Between 1 16; default = None }

-- an option that limits how many lines of one kind are written
abbrev pub limit_entry : Text → ℕ → OptionEntry
limit_entry name default =
    record { name = name; form = Between 0 4294967295; default = Some default }

abbrev pub bits_entry : OptionEntry
bits_entry = record { name = codes "bits"; form = Either 8 16; default = Some 16 }

-- the number of the link that a trial makes; required
abbrev pub number_entry : OptionEntry
number_entry = record {
  name = codes "number";
  form = Between 0 18446744073709551615;
  default = None;
}

-- the phase of the pilot of offset 0, how many chips on each side of its phase a pilot is measured,
-- and how many ranks are written
abbrev pub base_entry : OptionEntry
base_entry = record { name = codes "base"; form = Between 0 32767; default = Some 0 }

abbrev pub width_entry : OptionEntry
width_entry = record { name = codes "width"; form = Between 0 31; default = Some 10 }

abbrev pub top_entry : OptionEntry
top_entry = record { name = codes "top"; form = Between 1 512; default = Some 512 }

-- ---- the table of commands

-- an entry of the table: a command's name, its options, and the job for their numbers, of which any
-- may be missing; no job if a required one is missing or if they don't go together
pub record CommandEntry : Type 0 where
  pub name : Text
  pub options : List OptionEntry
  pub job : List (Option ℕ) → Option Job

abbrev pub find_with : List (Option ℕ) → Option Job
find_with (Some span ∷ Some workers ∷ []) = Some (Find span workers)
find_with _ = None

-- how many samples the pilot search uses, how many workers search, and how many fingers follow the
-- signal
abbrev pub reception_with : List (Option ℕ) → Option ReceptionOptions
reception_with (Some span ∷ Some workers ∷ Some fingers ∷ []) =
    Some (record { span = span; workers = workers; fingers = fingers })
reception_with _ = None

-- the traffic channel of a serial number, a row other than the sync channel's 32, and an offset
-- (default 0)
abbrev pub channel_with : List (Option ℕ) → Option Traffic
channel_with (Some esn ∷ Some row ∷ offset ∷ []) =
    if nat_eq row 32 then None
    else Some (record { esn = esn; row = row; offset = unwrap_or offset 0 })
channel_with _ = None

-- whether all of these numbers are missing
abbrev pub has_none : List (Option ℕ) → Bool
has_none numbers = list_all (λ number. not (is_some number)) numbers

-- a traffic channel whose row isn't the paging channel's
abbrev pub on_another_row : ℕ → Traffic → Option Traffic
on_another_row paging channel = if nat_eq channel.row paging then None else Some channel

-- the traffic channel of these numbers, followed together with a paging channel; none is followed
-- if all of them are missing
abbrev pub traffic_with : ℕ → List (Option ℕ) → Option (Option Traffic)
traffic_with paging numbers =
    if has_none numbers then Some None
    else option_map Some (option_and_then (on_another_row paging) (channel_with numbers))

-- how many pilots, messages, frames and raw capsules are written
abbrev pub limits_with : List (Option ℕ) → Option (List ℕ)
limits_with (Some pilots ∷ Some messages ∷ Some frames ∷ Some raw ∷ []) =
    Some (pilots ∷ messages ∷ frames ∷ raw ∷ [])
limits_with _ = None

abbrev pub follow_with : List (Option ℕ) → Option Job
follow_with (span ∷ workers ∷ fingers ∷ Some paging ∷ esn ∷ row ∷ offset ∷ limits) =
    option_and_then (λ reception. option_and_then (λ traffic. option_map (λ told.
    Follow reception.span reception.workers reception.fingers paging traffic told)
    (limits_with limits)) (traffic_with paging (esn ∷ row ∷ offset ∷ [])))
    (reception_with (span ∷ workers ∷ fingers ∷ []))
follow_with _ = None

abbrev pub rate2_with : List (Option ℕ) → Option Job
rate2_with (span ∷ workers ∷ fingers ∷ channel) =
    option_and_then (λ reception. option_map (λ traffic.
    Rate2 reception.span reception.workers reception.fingers traffic.offset traffic.esn traffic.row)
    (channel_with channel))
    (reception_with (span ∷ workers ∷ fingers ∷ []))
rate2_with _ = None

abbrev pub list_with : List (Option ℕ) → Option Job
list_with (span ∷ workers ∷ fingers ∷ esn ∷ row ∷ offset ∷ Some k ∷ []) =
    option_and_then (λ reception. option_map (λ traffic.
    jobs.List reception.span reception.workers reception.fingers traffic.offset traffic.esn
    traffic.row k)
    (channel_with (esn ∷ row ∷ offset ∷ []))) (reception_with (span ∷ workers ∷ fingers ∷ []))
list_with _ = None

abbrev pub idle_with : List (Option ℕ) → Option Job
idle_with (span ∷ workers ∷ fingers ∷ Some paging ∷ Some key ∷ Some cycle ∷ []) =
    option_map (λ reception.
    Idle reception.span reception.workers reception.fingers paging key cycle)
    (reception_with (span ∷ workers ∷ fingers ∷ []))
idle_with _ = None

abbrev pub survey_with : List (Option ℕ) → Option Job
survey_with (Some span ∷ Some workers ∷ Some base ∷ Some width ∷ Some top ∷ []) =
    Some (Survey span workers base width top)
survey_with _ = None

-- the sample width for `bits` bits per part
abbrev pub width_of_bits : ℕ → Width
width_of_bits bits = if nat_eq bits 8 then Eight else Sixteen

abbrev pub make_with : List (Option ℕ) → Option Job
make_with (Some bits ∷ []) = Some (Make (width_of_bits bits))
make_with _ = None

abbrev pub trial_with : List (Option ℕ) → Option Job
trial_with (Some number ∷ Some workers ∷ []) = Some (Trial number workers)
trial_with _ = None

abbrev pub find_entry : CommandEntry
find_entry = record {
  name = codes "find";
  options = span_entry ∷ workers_entry ∷ [];
  job = find_with;
}

abbrev pub reception_entries : List OptionEntry
reception_entries = span_entry ∷ workers_entry ∷ fingers_entry ∷ []

abbrev pub channel_entries : List OptionEntry
channel_entries = serial_entry ∷ walsh_row_entry ∷ offset_entry ∷ []

abbrev pub limit_entries : List OptionEntry
limit_entries = limit_entry (codes "pilots") 4294967295 ∷ limit_entry (codes "messages") 4294967295
    ∷ limit_entry (codes "frames") 4294967295 ∷ limit_entry (codes "raw") 0 ∷ []

abbrev pub follow_entry : CommandEntry
follow_entry = record {
  name = codes "follow";
  options = reception_entries ++ paging_entry ∷ channel_entries ++ limit_entries;
  job = follow_with;
}

abbrev pub rate2_entry : CommandEntry
rate2_entry = record {
  name = codes "rate2";
  options = reception_entries ++ channel_entries;
  job = rate2_with;
}

abbrev pub list_entry : CommandEntry
list_entry = record {
  name = codes "list";
  options = reception_entries ++ channel_entries ++ list_length_entry ∷ [];
  job = list_with;
}

abbrev pub idle_entry : CommandEntry
idle_entry = record {
  name = codes "idle";
  options = reception_entries ++ paging_entry ∷ key_entry ∷ cycle_entry ∷ [];
  job = idle_with;
}

abbrev pub survey_entry : CommandEntry
survey_entry = record {
  name = codes "survey";
  options = span_entry ∷ workers_entry ∷ base_entry ∷ width_entry ∷ top_entry ∷ [];
  job = survey_with;
}

abbrev pub make_entry : CommandEntry
make_entry = record { name = codes "make"; options = bits_entry ∷ []; job = make_with }

abbrev pub trial_entry : CommandEntry
trial_entry = record {
  name = codes "trial";
  options = number_entry ∷ workers_entry ∷ [];
  job = trial_with;
}

abbrev pub command_entry : Command → CommandEntry
command_entry named.Find = find_entry
command_entry named.Follow = follow_entry
command_entry named.Rate2 = rate2_entry
command_entry named.List = list_entry
command_entry named.Idle = idle_entry
command_entry named.Survey = survey_entry
command_entry named.Make = make_entry
command_entry named.Trial = trial_entry

abbrev pub commands : List CommandEntry
commands =
    find_entry ∷ follow_entry ∷ rate2_entry ∷ list_entry ∷ idle_entry ∷ survey_entry ∷ make_entry ∷
    trial_entry ∷ []

-- ---- values

-- the number that 1 to 20 decimal digits spell; leading zeros are allowed
abbrev pub argument_number_in : Text → Option ℕ
argument_number_in text =
    if nat_le 1 (length text) then (if nat_le (length text) 20 then digits_from 0 text else None)
    else None

-- the number that eight hex digits of either case spell
unfoldable pub eight_digits_in : Text → Option ℕ
eight_digits_in text =
    option_map (λ octets. from_be_bytes w32 octets) (result_ok (decode_sized text 4))

-- the number that a text spells in the notation of this form
abbrev pub value_spelled_in : ValueForm → Text → Option ℕ
value_spelled_in EightDigits text = eight_digits_in text
value_spelled_in form text = argument_number_in text

-- the numbers that this form admits, as a test and as a proposition
abbrev pub form_admits : ValueForm → ℕ → Bool
form_admits (Between least most) number = nat_le least number && nat_le number most
form_admits (Either one other) number = nat_eq number one || nat_eq number other
form_admits EightDigits number = nat_le number 4294967295

abbrev pub IsAdmitted : ValueForm → ℕ → Type 0
IsAdmitted (Between least most) number = (least ≤ number) × (number ≤ most)
IsAdmitted (Either one other) number = (number ≡ one) ⊎ (number ≡ other)
IsAdmitted EightDigits number = number ≤ 4294967295

-- the number of a text, if it is a value of this form
unfoldable pub value_in : ValueForm → Text → Option ℕ
value_in form text =
    option_and_then (λ number. if form_admits form number then Some number else None)
    (value_spelled_in form text)

-- whether there is an option with this name, and it admits this value
abbrev pub is_allowed : List OptionEntry → Text → Text → Bool
is_allowed entries name text =
    option_map_or (λ entry. is_some (value_in entry.form text))
    (find (λ entry. bytes_eq entry.name name) entries) false

-- ---- the options after a command

-- the options that were given: names, each with the text of its value
abbrev pub Given : Type 0
Given = List (Text × Text)

abbrev pub has_name : Text → Given → Bool
has_name name given = list_any (λ p. bytes_eq p.0 name) given

-- another option added, if the command has it with that value and it wasn't given before
abbrev pub added : List OptionEntry → Text → Text → Given → Option Given
added entries name text given =
    if is_allowed entries name text && not (has_name name given)
    then Some (given ++ (name, text) ∷ []) else None

-- an argument `--name=VALUE`, and an argument `--name` with the argument after it
abbrev pub option_joined : List OptionEntry → Option (Text × Option Text) → Given → Option Given
option_joined entries (Some (name, Some text)) given = added entries name text given
option_joined entries _ given = None

abbrev pub parted : List OptionEntry → Option (Text × Option Text) → Text → Given → Option Given
parted entries (Some (name, None)) text given = added entries name text given
parted entries _ text given = None

abbrev pub is_joined : Option (Text × Option Text) → Bool
is_joined (Some (name, Some text)) = true
is_joined _ = false

-- the options of these arguments after those given before; none if the arguments aren't options of
-- the table
unfoldable pub given_after : List OptionEntry → Option Given → List Text → Option Given
given_after entries given [] = given
given_after entries given (arg ∷ []) = option_and_then (option_joined entries (long_of arg)) given
given_after entries given (arg ∷ text ∷ args) =
    if is_joined (long_of arg)
    then given_after entries (option_and_then (option_joined entries (long_of arg)) given)
    (text ∷ args)
    else given_after entries (option_and_then (parted entries (long_of arg) text) given) args

-- the text of an option
abbrev pub option_text : Text → Given → Option Text
option_text name given = option_map (λ p. p.1) (find (λ p. bytes_eq p.0 name) given)

-- ---- from arguments to jobs

-- the number of an option: that of its text if it was given, otherwise its default
unfoldable pub number_by : OptionEntry → Option Text → Option ℕ
number_by entry None = entry.default
number_by entry (Some text) = value_in entry.form text

-- the numbers of options, by their texts
abbrev pub numbers_by : List OptionEntry → (Text → Option Text) → List (Option ℕ)
numbers_by entries texts = map (λ entry. number_by entry (texts entry.name)) entries

-- the job of a command, by the texts of its options
abbrev pub job_with : CommandEntry → (Text → Option Text) → Option Job
job_with entry texts = entry.job (numbers_by entry.options texts)

-- the job of a command with the arguments after it
unfoldable pub job_by : CommandEntry → List Text → Option Job
job_by entry args =
    option_and_then (λ given. job_with entry (λ name. option_text name given))
    (given_after entry.options (Some []) args)

-- the job of a command's name with the arguments after it
abbrev pub job_after : Text → List Text → Option Job
job_after command args =
    option_and_then (λ entry. job_by entry args)
    (find (λ entry. pointwise nat_eq command entry.name) commands)

-- the job of the arguments: a command and the arguments after it
unfoldable pub job_in : List Text → Option Job
job_in [] = None
job_in (command ∷ args) = job_after command args

-- the job that the strings of a command line name
abbrev pub job_named : List (String Global) → Option Job
job_named args = job_in (map string_bytes args)

-- ---- the first option of arguments, and the arguments that name an option

-- the name and the value of the first option, and how many arguments it takes
abbrev pub part_by : Option (Text × Option Text) → List Text → Option (Text × Text × ℕ)
part_by None args = None
part_by (Some (name, Some text)) args = Some (name, text, 1)
part_by (Some (name, None)) [] = None
part_by (Some (name, None)) (text ∷ args) = Some (name, text, 2)

abbrev pub part_of : List Text → Option (Text × Text × ℕ)
part_of [] = None
part_of (arg ∷ args) = part_by (long_of arg) args

-- whether one of the arguments names this option
abbrev pub names : Text → Text → Bool
names name arg = option_map_or (λ p. bytes_eq p.0 name) (long_of arg) false

abbrev pub is_named_in : Text → List Text → Bool
is_named_in name args = list_any (names name) args

-- the text of an option, from the first argument that names it
abbrev pub text_in : Text → List Text → Option Text
text_in name [] = None
text_in name (arg ∷ args) =
    if names name arg then option_map (λ p. p.1) (part_of (arg ∷ args)) else text_in name args

-- ---- clap's command for a command with these options

abbrev pub rule_by : OptionEntry → Rule
rule_by entry = record (new_rule entry.name) { long = Some entry.name; action = Some Set }

abbrev pub bare_app : Text → App
bare_app name =
    on_top (λ s. record s { disable_help_flag = true })
    (on_top (λ s. record s { no_binary_name = true }) (new_app name))

unfoldable pub app_from : App → List OptionEntry → App
app_from app [] = app
app_from app (entry ∷ entries) = app_from (with_rule app (rule_by entry)) entries

-- ---- numbers that the options admit

abbrev pub IsSpan : ℕ → Type 0
IsSpan span = (64 ≤ span) × (span ≤ 32768)

abbrev pub IsWorkers : ℕ → Type 0
IsWorkers workers = (1 ≤ workers) × (workers ≤ 64)

abbrev pub IsFingers : ℕ → Type 0
IsFingers fingers = (1 ≤ fingers) × (fingers ≤ 3)

-- the number of a paging channel
abbrev pub IsPaging : ℕ → Type 0
IsPaging paging = (1 ≤ paging) × (paging ≤ 7)

-- the index of a slot cycle
abbrev pub IsSlotCycleIndex : ℕ → Type 0
IsSlotCycleIndex cycle = cycle ≤ 7

-- the base, the width and the number of ranks of a survey
abbrev pub IsBase : ℕ → Type 0
IsBase base = base < 32768

abbrev pub IsWidth : ℕ → Type 0
IsWidth width = width ≤ 31

abbrev pub IsTop : ℕ → Type 0
IsTop top = (1 ≤ top) × (top ≤ 512)

-- the options for receiving a signal
abbrev pub IsLawfulReception : ReceptionOptions → Type 0
IsLawfulReception reception =
    IsSpan reception.span × IsWorkers reception.workers × IsFingers reception.fingers

-- a traffic channel whose Walsh row isn't the sync channel's
pub record IsLawfulChannel (channel : Traffic) : Type 0 where
  pub esn : channel.esn < 2 ^ 32
  pub least : 1 ≤ channel.row
  pub most : channel.row ≤ 63
  pub sync : channel.row ≢ 32
  pub offset : channel.offset ≤ 15

-- no traffic channel, or one whose Walsh row isn't the paging channel's either
abbrev pub IsLawfulTraffic : ℕ → Option Traffic → Type 0
IsLawfulTraffic paging None = Unit {0}
IsLawfulTraffic paging (Some channel) = IsLawfulChannel channel × (channel.row ≢ paging)

-- the numbers of a job are admitted by its options, and go together
abbrev pub IsLawfulJob : Job → Type 0
IsLawfulJob (Find span workers) = IsSpan span × IsWorkers workers
IsLawfulJob (Follow span workers fingers paging traffic limits) =
    IsSpan span × IsWorkers workers × IsFingers fingers × IsPaging paging
    × IsLawfulTraffic paging traffic
IsLawfulJob (Rate2 span workers fingers offset esn row) =
    IsSpan span × IsWorkers workers × IsFingers fingers
    × IsLawfulChannel (record { esn = esn; row = row; offset = offset })
IsLawfulJob (jobs.List span workers fingers offset esn row k) =
    IsSpan span × IsWorkers workers × IsFingers fingers
    × IsLawfulChannel (record { esn = esn; row = row; offset = offset }) × IsListLength k
IsLawfulJob (Idle span workers fingers paging key cycle) =
    IsSpan span × IsWorkers workers × IsFingers fingers × IsPaging paging × (key < 2 ^ 32)
    × IsSlotCycleIndex cycle
IsLawfulJob (Survey span workers base width top) =
    IsSpan span × IsWorkers workers × IsBase base × IsWidth width × IsTop top
IsLawfulJob (Make width) = Unit {0}
IsLawfulJob (Trial number workers) = (number < 2 ^ 64) × IsWorkers workers

-- ---- the search and the taps of a job

abbrev pub searching : ℕ → ℕ → JobSearch
searching span workers = record { span = span; workers = workers }

-- how many of the first samples are searched or measured, and by how many workers; `make` searches
-- none
abbrev pub job_search : Job → JobSearch
job_search (Find span workers) = searching span workers
job_search (Follow span workers fingers paging traffic limits) = searching span workers
job_search (Rate2 span workers fingers offset esn row) = searching span workers
job_search (jobs.List span workers fingers offset esn row k) = searching span workers
job_search (Idle span workers fingers paging key cycle) = searching span workers
job_search (Survey span workers base width top) = searching span workers
job_search (Make width) = searching 0 1
job_search (Trial number workers) = searching 2048 workers

-- a search that a lawful job may ask for
abbrev pub IsLawfulSearch : JobSearch → Type 0
IsLawfulSearch search = (search.span ≤ 32768) × IsWorkers search.workers

-- how many pilots, messages, frames and raw capsules the taps write; only `follow` has taps
abbrev pub job_limits : Job → List ℕ
job_limits (Follow span workers fingers paging traffic limits) = limits
job_limits job = 0 ∷ 0 ∷ 0 ∷ 0 ∷ []
