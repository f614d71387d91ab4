-- Lemmas on the text of a run: on events that follow one another, on taps that are no longer there,
-- and on what a single tap, and the taps of a run without limits, write.
use Rattle.event_tap.proofs.Common.{◌≡◌, ℕ, zero, suc, ◌+◌, ◌-◌, ◌≤◌, ◌<◌, List, [], ◌∷◌, ◌++◌, length, take, Option, None, Some, refl, sym}
use Rattle.event_tap.proofs.Common.{ap, ◌∙◌, arith, rules, append_assoc, append-nil, Event}
use Rattle.heard_events.specs.declared.event.Event.TheVariants.{Pilot}
use Rattle.event_tap.specs.EventLines.{event_line, events_text}
use Rattle.event_tap.specs.Taps.{KeptTap, form_line, form_lines, heard_text, joined_lines, kept_by, kept_with, left_after, line_text}
use Rattle.event_tap.specs.Taps.{line_list, run_taps, run_text, taps_after}

-- EVENTS THAT FOLLOW ONE ANOTHER

-- the text of events is the text of the first of them, and then that of the others by the taps that
-- are kept after the first
pub run_text-append : (taps : List KeptTap) (events more : List Event) →
    run_text taps (events ++ more) ≡ run_text taps events ++ run_text (run_taps taps events) more
unfolding run_text run_taps
run_text-append taps [] more = refl
run_text-append taps (event ∷ events) more =
    ap (λ (text : List ℕ). heard_text taps event ++ text) (run_text-append (taps_after taps event) events more)
    ∙ sym (append_assoc (heard_text taps event) (run_text (taps_after taps event) events)
    (run_text (run_taps (taps_after taps event) events) more))

pub run_taps-append : (taps : List KeptTap) (events more : List Event) →
    run_taps taps (events ++ more) ≡ run_taps (run_taps taps events) more
unfolding run_taps
run_taps-append taps [] more = refl
run_taps-append taps (event ∷ events) more = run_taps-append (taps_after taps event) events more

-- no event
pub run_text-none : (taps : List KeptTap) → run_text taps [] ≡ []
unfolding run_text
run_text-none taps = refl

-- one event
pub run_text-one : (taps : List KeptTap) (event : Event) → run_text taps (event ∷ []) ≡ heard_text taps event
unfolding run_text
run_text-one taps event = append-nil (heard_text taps event)

pub run_taps-one : (taps : List KeptTap) (event : Event) → run_taps taps (event ∷ []) ≡ taps_after taps event
unfolding run_taps
run_taps-one taps event = refl

-- one event more
pub run_text-more : (taps : List KeptTap) (events : List Event) (event : Event) → run_text taps (events ++ event ∷ []) ≡
    run_text taps events ++ heard_text (run_taps taps events) event
run_text-more taps events event =
    run_text-append taps events (event ∷ [])
    ∙ ap (λ (text : List ℕ). run_text taps events ++ text) (run_text-one (run_taps taps events) event)

pub run_taps-more : (taps : List KeptTap) (events : List Event) (event : Event) →
    run_taps taps (events ++ event ∷ []) ≡ taps_after (run_taps taps events) event
run_taps-more taps events event = run_taps-append taps events (event ∷ []) ∙ run_taps-one (run_taps taps events) event

-- NO TAPS

-- no tap writes nothing
pub run_text-no_taps : (events : List Event) → run_text [] events ≡ []
unfolding run_text
run_text-no_taps [] = refl
run_text-no_taps (event ∷ events) = run_text-no_taps events

-- TAPS THAT ARE KEPT

-- a tap of this form with n events left
abbrev pub tap : ℕ → ℕ → KeptTap
tap form left = record { form = form; left = left }

-- a tap with events left is kept
kept_with-left : (form left : ℕ) → 1 ≤ left → kept_with form left ≡ tap form left ∷ []
kept_with-left form zero some = absurd (omega (arith, some))
kept_with-left form (suc left) some = search rules

-- A SINGLE TAP

single_step : (form left : ℕ) (line : Option (List ℕ)) (events : List Event) (lines : List (List ℕ)) →
    ((n : ℕ) → run_text (kept_with form n) events ≡ joined_lines (take n lines)) →
    (line_text line ++ []) ++ run_text (kept_with form (left_after line (suc left)) ++ []) events
    ≡ joined_lines (take (suc left) (line_list line ++ lines))
single_step form left None events lines below =
    ap (λ (taps : List KeptTap). run_text taps events) (append-nil (kept_with form (suc left)))
    ∙ below (suc left)
single_step form left (Some line) events lines below =
    let one : suc left - 1 ≡ left = omega arith in
    ap (λ (text : List ℕ). text ++ run_text (kept_with form (suc left - 1) ++ []) events) (append-nil line)
    ∙ ap (λ (n : ℕ). line ++ run_text (kept_with form n ++ []) events) one
    ∙ ap (λ (taps : List KeptTap). line ++ run_text taps events) (append-nil (kept_with form left))
    ∙ ap (λ (text : List ℕ). line ++ text) (below left)

-- a tap hears just the first events of its form's kinds, as many as its limit says
pub run_text-single : (form limit : ℕ) (events : List Event) →
    run_text (kept_with form limit) events ≡ joined_lines (take limit (form_lines form events))
unfolding run_text form_lines
run_text-single form zero [] = refl
run_text-single form (suc limit) [] = refl
run_text-single form zero (event ∷ events) = run_text-no_taps (event ∷ events)
run_text-single form (suc limit) (event ∷ events) =
    ap (λ (taps : List KeptTap). run_text taps (event ∷ events)) (kept_with-left form (suc limit) (omega arith))
    ∙ single_step form limit (form_line form event) events (form_lines form events) (λ n. run_text-single form n events)

-- A RUN WITHOUT LIMITS

-- a tap of the pilot, one of messages, and one of frames
abbrev pub plain_taps : ℕ → ℕ → ℕ → List KeptTap
plain_taps pilots messages frames = tap 0 pilots ∷ tap 1 messages ∷ tap 2 frames ∷ []

plain_heard : (pilots messages frames : ℕ) (event : Event) →
    heard_text (plain_taps pilots messages frames) event ≡ event_line event
unfolding form_line
plain_heard pilots messages frames (Pilot phase energy) = append-nil (event_line (Pilot phase energy))
plain_heard pilots messages frames event = append-nil (event_line event)

left_after-least : (line : Option (List ℕ)) (left more : ℕ) → more + 1 < left → more < left_after line left
left_after-least None left more few = omega (arith, few)
left_after-least (Some line) left more few = omega (arith, few)

plain_after : (pilots messages frames : ℕ) (event : Event) →
    1 ≤ left_after (form_line 0 event) pilots → 1 ≤ left_after (form_line 1 event) messages →
    1 ≤ left_after (form_line 2 event) frames → taps_after (plain_taps pilots messages frames) event ≡
    plain_taps (left_after (form_line 0 event) pilots) (left_after (form_line 1 event) messages)
    (left_after (form_line 2 event) frames)
plain_after pilots messages frames event one two three =
    let first = left_after (form_line 0 event) pilots in
    let second = left_after (form_line 1 event) messages in
    let third = left_after (form_line 2 event) frames in
    ap (λ (taps : List KeptTap). taps ++ (kept_with 1 second ++ (kept_with 2 third ++ []))) (kept_with-left 0 first one)
    ∙ ap (λ (taps : List KeptTap). tap 0 first ∷ (taps ++ (kept_with 2 third ++ []))) (kept_with-left 1 second two)
    ∙ ap (λ (taps : List KeptTap). tap 0 first ∷ tap 1 second ∷ (taps ++ [])) (kept_with-left 2 third three)

-- they write the lines of fewer events than their limits, each once
pub plain_text : (pilots messages frames : ℕ) (events : List Event) →
    length events < pilots → length events < messages → length events < frames →
    run_text (plain_taps pilots messages frames) events ≡ events_text events
unfolding run_text events_text
plain_text pilots messages frames [] few_pilots few_messages few_frames = refl
plain_text pilots messages frames (event ∷ events) few_pilots few_messages few_frames =
    let first : length events < left_after (form_line 0 event) pilots =
    left_after-least (form_line 0 event) pilots (length events) (omega (arith, few_pilots)) in
    let second : length events < left_after (form_line 1 event) messages =
    left_after-least (form_line 1 event) messages (length events) (omega (arith, few_messages)) in
    let third : length events < left_after (form_line 2 event) frames =
    left_after-least (form_line 2 event) frames (length events) (omega (arith, few_frames)) in
    ap (λ (text : List ℕ). text ++
    run_text (taps_after (plain_taps pilots messages frames) event) events)
    (plain_heard pilots messages frames event)
    ∙ ap (λ (taps : List KeptTap). event_line event ++ run_text taps events)
    (plain_after pilots messages frames event (omega (arith, first)) (omega (arith, second)) (omega (arith, third)))
    ∙ ap (λ (text : List ℕ). event_line event ++ text)
    (plain_text (left_after (form_line 0 event) pilots) (left_after (form_line 1 event) messages)
    (left_after (form_line 2 event) frames) events first second third)

-- the text of the taps that a run has where nothing is said of limits: each form once, in order,
-- and none of raw messages
pub plain_text-forms : (pilots messages frames : ℕ) (events : List Event) →
    length events < pilots → length events < messages → length events < frames →
    run_text (kept_by (pilots ∷ messages ∷ frames ∷ 0 ∷ []) (0 ∷ 1 ∷ 2 ∷ 3 ∷ [])) events ≡ events_text events
plain_text-forms pilots messages frames events few_pilots few_messages few_frames =
    ap (λ (taps : List KeptTap).
    run_text (taps ++ (kept_with 1 messages ++ (kept_with 2 frames ++ []))) events)
    (kept_with-left 0 pilots (omega (arith, few_pilots)))
    ∙ ap (λ (taps : List KeptTap).
    run_text (tap 0 pilots ∷ (taps ++ (kept_with 2 frames ++ []))) events)
    (kept_with-left 1 messages (omega (arith, few_messages)))
    ∙ ap (λ (taps : List KeptTap).
    run_text (tap 0 pilots ∷ tap 1 messages ∷ (taps ++ [])) events)
    (kept_with-left 2 frames (omega (arith, few_frames)))
    ∙ plain_text pilots messages frames events few_pilots few_messages few_frames
