-- Which line of a script is at fault: what is read can be completed up to that line, and no
-- further.
use Rattle.std.proofs.Common.{◌≡◌, ◌≢◌, ℕ, zero, suc, ◌+◌, ◌-◌, ◌<◌, ◌≤◌, Bool, true, false, cond, List, [], ◌∷◌, ◌++◌, length, take, refl}
use Rattle.std.proofs.Common.{sym, ap, ◌∙◌, arith, append_assoc, Option, None, Some, Result, Ok, Err, IsOk}
use Rattle.std.proofs.lemmas.Bool.{cond-true, cond-false, le-ltb, ltb-false}
use Rattle.std.proofs.lemmas.List.{take_at, length-take-le}
use Rattle.std.specs.Option.{option_or}
use Rattle.std.specs.Prelude.{codes, nat_lt, ok_or, option_map, ◌↔◌}
use Rattle.hex.specs.Hex.{decode_pairs}
use Rattle.chip_core.specs.Bits.{binary}
use Rattle.chip_core.specs.Decimals.{digits_from}
use Rattle.chip_core.specs.declared.width.Width.{Width}
use Rattle.quality_bits.specs.declared.rate.Rate.{Rate}
use Rattle.quality_bits.specs.declared.rate.Rate.TheVariants.{R9600}
use Rattle.paging_message.specs.Admitted.{admits}
use Rattle.paging_message.specs.HalfFrames.{bits_left}
use Rattle.paging_message.specs.Laying.{fill}
use Rattle.paging_message.specs.Reading.{is_body}
use Rattle.cell_plan.specs.declared.plan.CellPlan.{CellPlan}
use Rattle.cell_plan.specs.declared.plan.SyncPlan.{SyncPlan}
use Rattle.cell_script.specs.Script.{draft_after, is_line, lines, named, plan_fault, plan_named, stated, stated_plan, sync_gain_fault}
use Rattle.cell_script.specs.Script.{unless}
use Rattle.cell_script.specs.ScriptDrafts.{Draft, empty_draft, plan_at, with_line, with_next}
use Rattle.cell_script.specs.ScriptFields.{script_field, past}
use Rattle.cell_script.specs.ScriptLines.{cell_in, traffic_frame_in, link_in, stated_page_in, pilot_in, statement_in}
use Rattle.cell_script.specs.ScriptStages.{page_stage}
use Rattle.line_text.specs.StatedValues.{bits_in_text, hex_bits, hex_from, length_before, power_bits_in, digits_after, number_up_to}
use Rattle.line_text.specs.StatedValues.{signed_in, state_in}
use Rattle.cell_script.specs.declared.script_fault.ScriptFault.{ScriptFault}
use Rattle.cell_script.specs.declared.script_fault.ScriptFault.TheVariants.{Line, Walsh, Gain, TooLoud, TooLong, TooBig}
use Rattle.cell_script.specs.declared.stage.Stage.{Stage}
use Rattle.cell_script.specs.declared.stage.Stage.TheVariants.{Cell, Link, Pilot, FirstPage, FirstFrame}
use Rattle.cell_script.proofs.ScriptSplits.{lines-append, draft_after-other, stated-fault, stated-next, stated-none, stated_plan-lines}

-- ---- completions

abbrev cell_text : List ℕ
cell_text = codes "cell pn=0 time=0 lc=00000000001 checks=0" ++ 10 ∷ []

abbrev link_text : List ℕ
link_text = codes "link re=1 im=0 start=0 samples=1" ++ 10 ∷ []

abbrev pilot_text : List ℕ
pilot_text = codes "pilot gain=1" ++ 10 ∷ []

-- a page of six octets, which every cycle has room for
abbrev page_text : List ℕ
page_text = codes "page half 10:0000" ++ 10 ∷ []

-- a frame of the lowest rate
abbrev frame_text : List ℕ
frame_text = codes "frame 1200 16:0000 0000000000000000" ++ 10 ∷ []

-- lines that complete a script at a stage
abbrev completion : Stage → List ℕ
completion Cell = cell_text ++ link_text ++ pilot_text
completion Link = link_text ++ pilot_text
completion Pilot = pilot_text
completion (FirstPage rate) = page_text
completion FirstFrame = frame_text
completion other = []

first_page_completed : (rate : Rate) (plan : CellPlan) (n : ℕ) →
    IsOk (stated (record { stage = FirstPage rate; plan = plan }) n (lines page_text))
unfolding stated draft_after lines is_line with_line with_next statement_in stated_page_in script_field past
    length_before number_up_to digits_from bits_in_text hex_bits decode_pairs binary is_body admits
    page_stage bits_left fill
first_page_completed R9600 plan n = refl
first_page_completed rate plan n = refl

first_frame_completed : (plan : CellPlan) (n : ℕ) →
    IsOk (stated (record { stage = FirstFrame; plan = plan }) n (lines frame_text))
unfolding stated draft_after lines is_line with_line with_next statement_in traffic_frame_in script_field past
    length_before number_up_to digits_from bits_in_text hex_bits decode_pairs binary power_bits_in
    digits_after
first_frame_completed plan n = refl

completed_at : (stage : Stage) (plan : CellPlan) (n : ℕ) →
    IsOk (stated (record { stage = stage; plan = plan }) n (lines (completion stage)))
unfolding stated draft_after lines is_line with_line with_next statement_in cell_in link_in
    pilot_in script_field past length_before number_up_to digits_from signed_in state_in hex_from
completed_at (FirstPage rate) plan n = first_page_completed rate plan n
completed_at FirstFrame plan n = first_frame_completed plan n
completed_at stage plan n = refl

completed : (draft : Draft) (n : ℕ) → IsOk (stated draft n (lines (completion draft.stage)))
completed draft n = completed_at draft.stage draft.plan n

-- ---- where the fault is

err_injective : (k n : ℕ) → ◌≡◌ {A = Result CellPlan ℕ} (Err k) (Err n) → k ≡ n
err_injective k n e = cc

end_fault : (plan : Option CellPlan) (k n : ℕ) → ok_or plan k ≡ Err n → k ≡ n
end_fault None k n e = err_injective k n e
end_fault (Some plan) k n e = absurd (cc e)

within_step : (draft : Draft) (k n : ℕ) (line : List ℕ) (more : List (List ℕ))
    (next : Option Draft) → draft_after draft line ≡ next →
    ((s : Draft) → stated s (k + 1) more ≡ Err n → (k + 1 ≤ n) × (n ≤ k + 1 + length more)) →
    stated draft k (line ∷ more) ≡ Err n → (k ≤ n) × (n ≤ k + (length more + 1))
within_step draft k n line more None is rest fault =
    let here = err_injective k n (sym (stated-fault draft k line more is) ∙ fault) in
    (omega (arith, here), omega (arith, here))
within_step draft k n line more (Some next) is rest fault =
    let there = rest next (sym (stated-next draft next k line more is) ∙ fault) in
    (omega (arith, there.0), omega (arith, there.1))

-- the fault is at one of the lines, or after the last
within : (draft : Draft) (k n : ℕ) (ls : List (List ℕ)) → stated draft k ls ≡ Err n → (k ≤ n) × (n ≤ k + length ls)
within draft k n [] fault =
    let here = end_fault (plan_at draft) k n (sym (stated-none draft k) ∙ fault) in
    (omega (arith, here), omega (arith, here))
within draft k n (line ∷ more) fault =
    let told = within_step draft k n line more (draft_after draft line) refl (λ s f. within s (k + 1) n more f) fault in
    (told.0, omega (arith, told.1))

-- ---- no whole script begins with the lines up to the fault

not_ok : {r : Result CellPlan ℕ} (n : ℕ) → r ≡ Err n → ¬ IsOk r
not_ok n e ok = cc

same_head : (a b : List ℕ) (ls os : List (List ℕ)) → a ∷ ls ≡ b ∷ os → a ≡ b
same_head a b ls os e = cc

same_tail : (a b : List ℕ) (ls os : List (List ℕ)) → a ∷ ls ≡ b ∷ os → ls ≡ os
same_tail a b ls os e = cc

-- No script that begins with the same lines up to the fault is whole, one line at a time: where
-- this line is at fault the other script stops there too, and where it isn't both go on from the
-- same draft, for which it is known already.
refuses_step : (draft : Draft) (k j : ℕ) (line other : List ℕ) (more others : List (List ℕ))
    (next : Option Draft) → draft_after draft line ≡ next → other ≡ line → stated draft k (line ∷ more) ≡ Err (k + j) →
    IsOk (stated draft k (other ∷ others)) →
    ¬ ((s : Draft) (i : ℕ) → j ≡ suc i → stated s (k + 1) more ≡ Err (k + 1 + i) →
    ¬ IsOk (stated s (k + 1) others))
refuses_step draft k j line other more others None is same fault ok rest =
    not_ok k (stated-fault draft k other others (ap (draft_after draft) same ∙ is)) ok
refuses_step draft k zero line other more others (Some next) is same fault ok rest =
    let there = within next (k + 1) (k + 0) more (sym (stated-next draft next k line more is) ∙ fault) in
    absurd (omega (arith, there.0))
refuses_step draft k (suc i) line other more others (Some next) is same fault ok rest =
    let number : k + suc i ≡ k + 1 + i = omega arith in
    let there : IsOk (stated next (k + 1) others) =
    rw (sym (stated-next draft next k other others (ap (draft_after draft) same ∙ is))) ok in
    rest next i refl (sym (stated-next draft next k line more is) ∙ fault ∙ ap Err number) there

refuses : (draft : Draft) (k j : ℕ) (ls os : List (List ℕ)) → stated draft k ls ≡ Err (k + j) →
    j < length ls → take (suc j) os ≡ take (suc j) ls → ¬ IsOk (stated draft k os)
refuses draft k j [] os fault inside same ok = absurd (omega (arith, inside))
refuses draft k j (line ∷ more) [] fault inside same ok = absurd (omega (arith, ap length same))
refuses draft k j (line ∷ more) (other ∷ others) fault inside same ok =
    refuses_step draft k j line other more others (draft_after draft line) refl
    (same_head other line (take j others) (take j more) same) fault ok
    (λ s i e f o.
    refuses s (k + 1) i more others f (omega (arith, inside, e))
    (ap (λ (n : ℕ). take n others) (sym e) ∙ same_tail other line (take j others) (take j more) same
    ∙ ap (λ (n : ℕ). take n more) e) o)

-- ---- a whole script begins with the lines before the fault

abbrev AreLines : List (List ℕ) → Type 0
AreLines [] = Unit {0}
AreLines (line ∷ ls) = (is_line line ≡ true) × AreLines ls

abbrev joined : List (List ℕ) → List ℕ
joined [] = []
joined (line ∷ ls) = line ++ joined ls

lines-joined : (ls : List (List ℕ)) (following : List ℕ) → AreLines ls →
    lines (joined ls ++ following) ≡ ls ++ lines following
lines-joined [] following are = refl
lines-joined (line ∷ ls) following are =
    ap lines (append_assoc line (joined ls) following)
    ∙ lines-append line (joined ls ++ following) are.0
    ∙ ap (λ (r : List (List ℕ)). line ∷ r) (lines-joined ls following are.1)

abbrev Begun : Draft → ℕ → List (List ℕ) → Type 0
Begun draft k ls = (following : List ℕ) × IsOk (stated draft k (ls ++ lines following)) × AreLines ls

stood : (draft next : Draft) (line : List ℕ) (whole : Bool) → is_line line ≡ whole →
    draft_after draft line ≡ Some next → is_line line ≡ true
stood draft next line true e is = e
stood draft next line false e is = absurd (cc (draft_after-other draft line e, is))

begun_step : (draft : Draft) (k n m : ℕ) (line : List ℕ) (more : List (List ℕ))
    (next : Option Draft) → draft_after draft line ≡ next → stated draft k (line ∷ more) ≡ Err n → k + suc m ≤ n →
    ((s : Draft) → stated s (k + 1) more ≡ Err n → Begun s (k + 1) (take m more)) → Begun draft k (line ∷ take m more)
begun_step draft k n m line more None is fault before rest =
    absurd (omega (arith, err_injective k n (sym (stated-fault draft k line more is) ∙ fault), before))
begun_step draft k n m line more (Some next) is fault before rest =
    let there = rest next (sym (stated-next draft next k line more is) ∙ fault) in
    let ok : IsOk (stated draft k (line ∷ take m more ++ lines there.0)) =
    rw (stated-next draft next k line (take m more ++ lines there.0) is) there.1 in
    (there.0, ok, (stood draft next line (is_line line) refl is, there.2))

begun : (draft : Draft) (k n m : ℕ) (ls : List (List ℕ)) → stated draft k ls ≡ Err n → k + m ≤ n →
    Begun draft k (take m ls)
begun draft k n zero ls fault before = (completion draft.stage, completed draft k, tt)
begun draft k n (suc m) [] fault before =
    absurd (omega (arith, end_fault (plan_at draft) k n (sym (stated-none draft k) ∙ fault), before))
begun draft k n (suc m) (line ∷ more) fault before =
    begun_step draft k n m line more (draft_after draft line) refl fault before
    (λ s f. begun s (k + 1) n m more f (omega (arith, before)))

-- ---- the law

-- Where a script has its fault at line n, no other script with the same first n lines names a plan:
-- a script is read line by line, and what is read up to a line depends only on the lines up to it.
pub refused : (script other : List ℕ) (n : ℕ) → stated_plan script ≡ Err n →
    n ≤ length (lines script) → IsOk (stated_plan other) → take n (lines other) ≢ take n (lines script)
refused script other n fault inside ok same =
    let read : stated empty_draft 1 (lines script) ≡ Err n = sym (stated_plan-lines script)
    ∙ fault in
    let least = (within empty_draft 1 n (lines script) read).0 in
    let number : n ≡ 1 + (n - 1) = omega (arith, least) in
    let one_more : n ≡ suc (n - 1) = omega (arith, least) in
    refuses empty_draft 1 (n - 1) (lines script) (lines other) (read ∙ ap Err number) (omega (arith, least, inside))
    (ap (λ (k : ℕ). take k (lines other)) (sym one_more) ∙ same
    ∙ ap (λ (k : ℕ). take k (lines script)) one_more)
    (rw (sym (stated_plan-lines other)) ok)

pub missing : (script : List ℕ) (n : ℕ) → stated_plan script ≡ Err n → length (lines script) < n →
    n ≡ length (lines script) + 1
missing script n fault past =
    omega (arith, (within empty_draft 1 n (lines script) (sym (stated_plan-lines script) ∙ fault)).1, past)

pub counted : (script : List ℕ) (n : ℕ) → stated_plan script ≡ Err n → 1 ≤ n
counted script n fault = (within empty_draft 1 n (lines script) (sym (stated_plan-lines script) ∙ fault)).0

-- Lines that come before the fault are the beginning of some script that names a plan: what they
-- told so far can be completed from any stage, so the line at fault is the first that no such
-- script has.
pub least : (script : List ℕ) (n m : ℕ) → stated_plan script ≡ Err n → m < n →
    (other : List ℕ) × IsOk (stated_plan other) × (take m (lines other) ≡ take m (lines script))
least script n m fault before =
    let read : stated empty_draft 1 (lines script) ≡ Err n = sym (stated_plan-lines script)
    ∙ fault in
    let some = begun empty_draft 1 n m (lines script) read (omega (arith, before)) in
    let front = take m (lines script) in
    let split : lines (joined front ++ some.0) ≡ front ++ lines some.0 = lines-joined front some.0 some.2 in
    let long : length front ≡ m =
    length-take-le m (lines script) (omega (arith, before, (within empty_draft 1 n (lines script) read).1)) in
    let ok : IsOk (stated_plan (joined front ++ some.0)) =
    rw (stated_plan-lines (joined front ++ some.0) ∙ ap (stated empty_draft 1) split) some.1 in
    (joined front ++ some.0, ok, ap (take m) split ∙ take_at front (lines some.0) m long)

-- ---- the answer

abbrev NoLine : Option ScriptFault → Type 0
NoLine fault = (n : ℕ) → ¬ (fault ≡ Some (Line n))

no_line_if : (b : Bool) (fault other : Option ScriptFault) → NoLine fault → NoLine other → NoLine (cond b fault other)
no_line_if true fault other p q = p
no_line_if false fault other p q = q

no_line_first : (fault later : Option ScriptFault) → NoLine fault → NoLine later → NoLine (option_or fault later)
no_line_first None later p q = q
no_line_first (Some fault) later p q = p

none_no_line : NoLine None
none_no_line n e = cc

gain_no_line : (row : ℕ) → NoLine (Some (Gain row))
gain_no_line row n e = cc

loud_no_line : (sum : ℕ) → NoLine (Some (TooLoud sum))
loud_no_line sum n e = cc

long_no_line : (samples : ℕ) → NoLine (Some (TooLong samples))
long_no_line samples n e = cc

rows_no_line : (number : Option ℕ) → NoLine (option_map Walsh number)
rows_no_line None n e = cc
rows_no_line (Some row) n e = cc

gains_no_line : (number : Option ℕ) → NoLine (option_map Gain number)
gains_no_line None n e = cc
gains_no_line (Some row) n e = cc

sync_no_line : (sync : Option SyncPlan) → NoLine (sync_gain_fault sync)
sync_no_line None = none_no_line
sync_no_line (Some sync) = no_line_if _ _ _ (gain_no_line 32) none_no_line

plan_no_line : (width : Width) (plan : CellPlan) → NoLine (plan_fault width plan)
plan_no_line width plan =
    no_line_first _ _ (rows_no_line _)
    (no_line_first _ _
    (no_line_if _ _ _ (gain_no_line 0) (no_line_first _ _ (sync_no_line plan.sync) (gains_no_line _)))
    (no_line_first _ _ (no_line_if _ _ _ (loud_no_line _) none_no_line)
    (no_line_if _ _ _ (long_no_line _) none_no_line)))

unless_line : (plan : CellPlan) (fault : Option ScriptFault) (n : ℕ) → NoLine fault →
    ¬ (unless plan fault ≡ Err (Line n))
unless_line plan None n p e = cc
unless_line plan (Some fault) n p e = p n (cc e)

named_line : (width : Width) (read : Result CellPlan ℕ) (n : ℕ) → named width read ≡ Err (Line n) → read ≡ Err n
named_line width (Err k) n e = cc
named_line width (Ok plan) n e = absurd (unless_line plan (plan_fault width plan) n (plan_no_line width plan) e)

answered : (width : Width) (script : List ℕ) (n : ℕ) (big : Bool) →
    nat_lt 1048576 (length script) ≡ big → plan_named width script ≡ Err (Line n) →
    (length script ≤ 1048576) × (stated_plan script ≡ Err n)
unfolding plan_named
answered width script n true is e = absurd (cc (cond-true _ (Err TooBig) (named width (stated_plan script)) is, e))
answered width script n false is e = (
  ltb-false 1048576 (length script) is,
  named_line width (stated_plan script) n
      (sym (cond-false _ (Err TooBig) (named width (stated_plan script)) is) ∙ e),
)

answers : (width : Width) (script : List ℕ) (n : ℕ) → (length script ≤ 1048576) × (stated_plan script ≡ Err n) →
    plan_named width script ≡ Err (Line n)
unfolding plan_named
answers width script n fault =
    cond-false _ (Err TooBig) (named width (stated_plan script))
    (le-ltb 1048576 (length script) fault.0) ∙ ap (named width) fault.1

pub line_answer : (width : Width) (script : List ℕ) (n : ℕ) → (plan_named width script ≡ Err (Line n)) ↔
    ((length script ≤ 1048576) × (stated_plan script ≡ Err n))
line_answer width script n = (answered width script n (nat_lt 1048576 (length script)) refl, answers width script n)
