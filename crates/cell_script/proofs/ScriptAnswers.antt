-- The answer of both readings of a script: the plan that it names, or its fault.
use Rattle.cell_script.proofs.Common.{◌≡◌, ℕ, ◌<◌, ◌≤◌, List, length, refl, sym, ap, subst, ◌∙◌, None, Some, Result, Ok, Err, IsOk, lt-ltb}
use Rattle.cell_script.proofs.Common.{cond-true, Width, CellPlan, Judge, ScriptFault, Line, TooBig, IsLawfulPlan, named, plan_named, unless}
use Rattle.cell_script.proofs.Common.{stated_plan, judged_fault, IsJudged, IsStatedLink}
use Rattle.cell_script.proofs.NamedPlans.{named_plan, small_named}
use Rattle.cell_script.proofs.ScriptRows.{judged_fault_is}
use Rattle.cell_script.proofs.WrittenPlans.{stated_back}

pub too_big : (width : Width) (script : List ℕ) → 1048576 < length script → plan_named width script ≡ Err TooBig
unfolding plan_named
too_big width script big =
    cond-true _ (Err TooBig) (named width (stated_plan script)) (lt-ltb 1048576 (length script) big)

pub line_named : (width : Width) (script : List ℕ) (n : ℕ) → length script ≤ 1048576 →
    stated_plan script ≡ Err n → plan_named width script ≡ Err (Line n)
line_named width script n small fault = small_named width script small ∙ ap (named width) fault

pub link_stated : (script : List ℕ) (judge : Judge) → IsJudged script judge → IsStatedLink judge.link
link_stated script judge is =
    subst IsStatedLink (sym is.judged.link) (stated_back script is.plan is.stated).0.lawful.link

judged_named : (width : Width) (script : List ℕ) (judge : Judge) → length script ≤ 1048576 →
    (is : IsJudged script judge) → plan_named width script ≡ unless is.plan (judged_fault width judge)
judged_named width script judge small is =
    small_named width script small
    ∙ ap (named width) is.stated
    ∙ ap (unless is.plan) (sym (judged_fault_is width judge is.plan is.judged))

pub fault_named : (width : Width) (script : List ℕ) (judge : Judge) (fault : ScriptFault) →
    length script ≤ 1048576 → IsJudged script judge → judged_fault width judge ≡ Some fault →
    plan_named width script ≡ Err fault
fault_named width script judge fault small is told = judged_named width script judge small is ∙ ap (unless is.plan) told

no_fault_named : (width : Width) (script : List ℕ) (judge : Judge) → length script ≤ 1048576 →
    (is : IsJudged script judge) → judged_fault width judge ≡ None → plan_named width script ≡ Ok is.plan
no_fault_named width script judge small is none = judged_named width script judge small is ∙ ap (unless is.plan) none

is_ok : (r : Result CellPlan ScriptFault) (plan : CellPlan) → r ≡ Ok plan → IsOk r
is_ok r plan e = subst (λ (x : Result CellPlan ScriptFault). IsOk x) (sym e) refl

-- a script without a fault names a plan
pub names_some : (width : Width) (script : List ℕ) (judge : Judge) → length script ≤ 1048576 →
    IsJudged script judge → judged_fault width judge ≡ None → IsOk (plan_named width script)
names_some width script judge small is none =
    is_ok (plan_named width script) is.plan (no_fault_named width script judge small is none)

same_plan : (r : Result CellPlan ℕ) (a b : CellPlan) → r ≡ Ok a → r ≡ Ok b → a ≡ b
same_plan r a b e f = cc

-- which is the one that its lines state
pub names_plan : (width : Width) (script : List ℕ) (judge : Judge) (plan : CellPlan) →
    length script ≤ 1048576 → IsJudged script judge → judged_fault width judge ≡ None →
    stated_plan script ≡ Ok plan → plan_named width script ≡ Ok plan
names_plan width script judge plan small is none made =
    no_fault_named width script judge small is none
    ∙ ap Ok (same_plan (stated_plan script) is.plan plan is.stated made)

pub names_lawful : (width : Width) (script : List ℕ) (judge : Judge) (plan : CellPlan) →
    length script ≤ 1048576 → IsJudged script judge → judged_fault width judge ≡ None →
    stated_plan script ≡ Ok plan → IsLawfulPlan width plan
names_lawful width script judge plan small is none made =
    (named_plan width script plan (names_plan width script judge plan small is none made)).0
