-- The text that taps write for events. A tap has a form, which determines the kinds of event that
-- it reports and their lines, and a number of events left. Contracts see taps as a list of both.
use Rattle.event_tap.specs.Common.{Event, Pilot, Sync, Frame, Traffic, Sets}
use Rattle.std.specs.Prelude.{ℕ, ◌-◌, ◌≤◌, slice_index, nat_eq, Bool, if◌then◌else◌, List, [], ◌∷◌}
use Rattle.std.specs.Prelude.{◌++◌, map, codes, Option, None, Some}
use Rattle.std.specs.List.{flat_map}
use Rattle.heard_events.specs.declared.event.Event.TheVariants.{Paging}
use Rattle.event_tap.specs.EventLines.{event_line}
use Rattle.event_tap.specs.Parts.{capsule_line}
use Rattle.event_tap.specs.declared.tap.Heard.{Heard}
use Rattle.event_tap.specs.declared.tap.Heard.TheVariants.{Keep, Done}

-- a kept tap: its form, and how many events it may still report
pub record KeptTap : Type 0 where
  pub form : ℕ
  pub left : ℕ

-- taps as contracts see them, by the functions that return a tap's form and its events left
abbrev pub kept_of : {T : Type 0} → (T → ℕ) → (T → ℕ) → List T → List KeptTap
kept_of shape left taps = map (λ t. record { form = shape t; left = left t }) taps

-- `raw at=A sync BITS` and LF
abbrev pub raw_line : ℕ → List Bool → List ℕ
raw_line place capsule = capsule_line (codes " sync ") place capsule

-- `raw at=A paging BITS` and LF
abbrev pub raw_paging_line : ℕ → List Bool → List ℕ
raw_paging_line place capsule = capsule_line (codes " paging ") place capsule

-- `raw at=A traffic BITS` and LF
abbrev pub raw_traffic_line : ℕ → List Bool → List ℕ
raw_traffic_line place capsule = capsule_line (codes " traffic ") place capsule

-- the line of a message as received; other events have none
abbrev pub raw_of : Event → Option (List ℕ)
raw_of (Sync place capsule message) = Some (raw_line place capsule)
raw_of (Paging place capsule message) = Some (raw_paging_line place capsule)
raw_of (Traffic place capsule message) = Some (raw_traffic_line place capsule)
raw_of event = None

-- the form that reports events of this kind by their lines
abbrev pub plain_form : Event → ℕ
plain_form (Pilot phase energy) = 0
plain_form (Sync place capsule message) = 1
plain_form (Paging place capsule message) = 1
plain_form (Frame place rate good bits power_bits) = 2
plain_form (Traffic place capsule message) = 1
plain_form (Sets place time active candidate report) = 0

-- a form's line for an event, if it reports events of this kind: form 0 reports the pilot and the
-- pilot sets, 1 messages, 2 frames, and 3 messages as received, bit by bit
unfoldable pub form_line : ℕ → Event → Option (List ℕ)
form_line form event =
    if nat_eq form 3 then raw_of event
    else if nat_eq form (plain_form event) then Some (event_line event)
    else None

-- the line, or nothing if there is none
abbrev pub line_text : Option (List ℕ) → List ℕ
line_text None = []
line_text (Some line) = line

-- how many events are left after one that has this line, or no line
abbrev pub left_after : Option (List ℕ) → ℕ → ℕ
left_after None left = left
left_after (Some line) left = left - 1

-- whether a tap with `left` events left is kept or done
abbrev pub kept_or_done : ℕ → Heard
kept_or_done left = if nat_eq left 0 then Done else Keep

-- a tap of this form, if it has events left
abbrev pub kept_with : ℕ → ℕ → List KeptTap
kept_with form left = if nat_eq left 0 then [] else record { form = form; left = left } ∷ []

-- a kept tap after an event, if it has events left
abbrev pub tap_after : Event → KeptTap → List KeptTap
tap_after event tap = kept_with tap.form (left_after (form_line tap.form event) tap.left)

-- the text that kept taps make of an event, in their order
abbrev pub heard_text : List KeptTap → Event → List ℕ
heard_text taps event = flat_map (λ tap. line_text (form_line tap.form event)) taps

-- the taps that are kept after an event
abbrev pub taps_after : List KeptTap → Event → List KeptTap
taps_after taps event = flat_map (tap_after event) taps

-- the text of a run: that of kept taps for each event, one after the other
unfoldable pub run_text : List KeptTap → List Event → List ℕ
run_text taps [] = []
run_text taps (event ∷ events) = heard_text taps event ++ run_text (taps_after taps event) events

-- the taps that are kept after events
unfoldable pub run_taps : List KeptTap → List Event → List KeptTap
run_taps taps [] = taps
run_taps taps (event ∷ events) = run_taps (taps_after taps event) events

-- a list with the line, empty if there is none
abbrev pub line_list : Option (List ℕ) → List (List ℕ)
line_list None = []
line_list (Some line) = line ∷ []

-- a form's lines for events, in order
unfoldable pub form_lines : ℕ → List Event → List (List ℕ)
form_lines form [] = []
form_lines form (event ∷ events) = line_list (form_line form event) ++ form_lines form events

-- the lines, one after the other
abbrev pub joined_lines : List (List ℕ) → List ℕ
joined_lines lines = flat_map (λ line. line) lines

-- the taps of these forms that are kept by limits, one for each form
abbrev pub kept_by : List ℕ → List ℕ → List KeptTap
kept_by limits forms = flat_map (λ form. kept_with form (slice_index limits form)) forms

-- a kept tap has events left, and its form is 0 to 3
abbrev pub IsKept : KeptTap → Type 0
IsKept tap = (1 ≤ tap.left) × (tap.form ≤ 3)
