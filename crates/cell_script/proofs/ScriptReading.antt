-- The two readings of a script: what was read so far, and what one more line adds.
use Rattle.cell_script.proofs.Common.{◌≡◌, ℕ, zero, suc, ◌+◌, ◌*◌, ◌-◌, ◌^◌, ◌<◌, ◌≤◌, Bool, true, false, List, length, take, drop, refl}
use Rattle.cell_script.proofs.Common.{sym, ap, ◌∙◌, arith, cond, Option, None, Some, Result, Ok, Err, IsOk, subst, nat_lt, ok_or, cond-true}
use Rattle.cell_script.proofs.Common.{option_map, option_and_then, cond-false, lt-ltb, ltb-false, ltb-true, CellPlan, Judge, Stage, Cell}
use Rattle.cell_script.proofs.Common.{Statement, lines, stated, stated_plan, draft_at, empty_plan, plan_at, with_line, with_next, HasJudged}
use Rattle.cell_script.proofs.Common.{with_statement, IsInOrder, IsJudged, statement_in, first_stated, is_complete, next_stage, before_most}
use Rattle.cell_script.proofs.Common.{length_before}
use Rattle.cell_script.proofs.ChannelStages.{added, empty_said, in_order, IsAtStage}
use Rattle.cell_script.proofs.ScriptRanges.{line_bounds}
use Rattle.cell_script.proofs.ScriptSplits.{line_counted, line_read, line_refused, line_unended, lines_read, stated_plan-lines}

-- ---- the first line of a text

stated_first : (text : List ℕ) (statement : Statement) (ended : Bool) →
    nat_lt (length_before 10 text) (length text) ≡ ended → first_stated text ≡ Some statement →
    (length_before 10 text < length text) × (statement_in (take (length_before 10 text) text) ≡ Some statement)
unfolding first_stated
stated_first text statement true e is = (ltb-true (length_before 10 text) (length text) e, sym (cond-true _ _ _ e) ∙ is)
stated_first text statement false e is =
    absurd (cc (cond-false _ (statement_in (take (length_before 10 text) text)) None e, is))

first_some : (text : List ℕ) (statement : Statement) → first_stated text ≡ Some statement →
    (length_before 10 text < length text) × (statement_in (take (length_before 10 text) text) ≡ Some statement)
first_some text statement is = stated_first text statement _ refl is

first_none : (text : List ℕ) → length_before 10 text < length text → first_stated text ≡ None →
    statement_in (take (length_before 10 text) text) ≡ None
unfolding first_stated
first_none text inside is = sym (cond-true _ _ _ (lt-ltb (length_before 10 text) (length text) inside)) ∙ is

-- ---- the draft after it

with_line-is : (plan : CellPlan) (stage : Stage) (text : List ℕ) (statement : Statement)
    (next : Option Stage) → statement_in text ≡ Some statement → next_stage stage statement ≡ next →
    with_line (draft_at plan stage) text ≡ option_map (draft_at (with_statement plan statement)) next
unfolding with_line with_next
with_line-is plan stage text statement next is after =
    ap (option_and_then (with_next (draft_at plan stage))) is
    ∙ ap (option_map (draft_at (with_statement plan statement))) after

with_line-none : (plan : CellPlan) (stage : Stage) (text : List ℕ) → statement_in text ≡ None →
    with_line (draft_at plan stage) text ≡ None
unfolding with_line
with_line-none plan stage text is = ap (option_and_then (with_next (draft_at plan stage))) is

-- ---- a script whose lines so far make a plan, and the text that is left

abbrev Left : List ℕ → CellPlan → Stage → ℕ → List ℕ → Type 0
Left script plan stage n rest = stated_plan script ≡ stated (draft_at plan stage) n (lines rest)

abbrev following : ℕ → List ℕ → List ℕ
following bytes rest = take (length rest - bytes) (drop bytes rest)

left_next : (script rest : List ℕ) (plan : CellPlan) (stage next : Stage) (n bytes : ℕ) (statement : Statement) →
    first_stated rest ≡ Some statement → bytes ≡ length_before 10 rest + 1 →
    next_stage stage statement ≡ Some next → Left script plan stage n rest →
    Left script (with_statement plan statement) next (n + 1) (following bytes rest)
left_next script rest plan stage next n bytes statement is bytes_is after before =
    let end = length_before 10 rest in
    let told = first_some rest statement is in
    subst (λ (b : ℕ). Left script (with_statement plan statement) next (n + 1) (following b rest)) (sym bytes_is)
    (line_read script (draft_at plan stage) (draft_at (with_statement plan statement) next) n end
    rest refl told.0 (with_line-is plan stage (take end rest) statement (Some next) told.1 after) before)

left_refused : (script rest : List ℕ) (plan : CellPlan) (stage : Stage) (n : ℕ) (statement : Statement) →
    first_stated rest ≡ Some statement → next_stage stage statement ≡ None →
    Left script plan stage n rest → stated_plan script ≡ Err n
left_refused script rest plan stage n statement is after before =
    let end = length_before 10 rest in
    let told = first_some rest statement is in
    sym (line_refused script (draft_at plan stage) n end rest refl told.0
    (with_line-is plan stage (take end rest) statement None told.1 after) before)

-- A line that states nothing is the script's fault: where an LF ends it the definition refuses that
-- line, and where bytes are left without an LF it refuses them as a line that isn't whole.
left_faulty : (script rest : List ℕ) (plan : CellPlan) (stage : Stage) (n : ℕ) (ended : Bool) →
    nat_lt (length_before 10 rest) (length rest) ≡ ended → first_stated rest ≡ None →
    0 < length rest → Left script plan stage n rest → stated_plan script ≡ Err n
left_faulty script rest plan stage n true e none some before =
    let end = length_before 10 rest in
    let inside = ltb-true end (length rest) e in
    sym (line_refused script (draft_at plan stage) n end rest refl inside
    (with_line-none plan stage (take end rest) (first_none rest inside none)) before)
left_faulty script rest plan stage n false e none some before =
    let past = ltb-false (length_before 10 rest) (length rest) e in
    sym (line_unended script (draft_at plan stage) n rest (omega (arith, past, before_most 10 rest)) some before)

left_none : (script rest : List ℕ) (plan : CellPlan) (stage : Stage) (n : ℕ) → length rest ≡ 0 →
    Left script plan stage n rest → stated_plan script ≡ ok_or (plan_at (draft_at plan stage)) n
left_none script rest plan stage n none before =
    sym (lines_read script (draft_at plan stage) n rest (plan_at (draft_at plan stage)) none refl
    before)

-- ---- the first reading

-- so much was read and judged
pub record HasRead (script : List ℕ) (stage : Stage) (judge : Judge) (n : ℕ)
    (rest : List ℕ) : Type 0 where
  pub plan : CellPlan
  pub left : stated_plan script ≡ stated (draft_at plan stage) n (lines rest)
  pub said : IsAtStage stage plan
  pub judged : HasJudged judge plan
  pub few : n + length rest ≤ 1 + length script
  pub gains : judge.channels.gains ≤ 65535 * n

pub none_read : (script : List ℕ) (judge : Judge) → HasJudged judge empty_plan →
    judge.channels.gains ≡ 0 → HasRead script Cell judge 1 script
none_read script judge is none = record {
  plan = empty_plan;
  left = stated_plan-lines script;
  said = empty_said;
  judged = is;
  few = omega arith;
  gains = omega (arith, none);
}

pub one_read : (script rest : List ℕ) (stage next : Stage) (judge more : Judge) (n bytes : ℕ) (statement : Statement) →
    first_stated rest ≡ Some statement → bytes ≡ length_before 10 rest + 1 → next_stage stage statement ≡ Some next →
    ((plan : CellPlan) → IsInOrder plan statement → HasJudged judge plan →
    HasJudged more (with_statement plan statement)) →
    more.channels.gains ≤ judge.channels.gains + 65535 →
    HasRead script stage judge n rest → HasRead script next more (n + 1) (following bytes rest)
one_read script rest stage next judge more n bytes statement is bytes_is after step gains before =
    let inside = (first_some rest statement is).0 in
    let few : n + 1 + length (following (length_before 10 rest + 1) rest) ≤ 1 + length script =
    line_counted rest n (length_before 10 rest) (1 + length script) inside before.few in
    record {
      plan = with_statement before.plan statement;
      left = left_next script rest before.plan stage next n bytes statement is bytes_is after
          before.left;
      said = added stage next before.plan statement
          (line_bounds (take (length_before 10 rest) rest) statement
          (first_some rest statement is).1) before.said after;
      judged = step before.plan (in_order stage next before.plan statement before.said after)
          before.judged;
      few = subst (λ (b : ℕ). n + 1 + length (following b rest) ≤ 1 + length script) (sym bytes_is)
          few;
      gains = omega (arith, gains, before.gains);
    }

pub faulty_line : (script rest : List ℕ) (stage : Stage) (judge : Judge) (n : ℕ) →
    first_stated rest ≡ None → 0 < length rest → HasRead script stage judge n rest → stated_plan script ≡ Err n
faulty_line script rest stage judge n none some before =
    left_faulty script rest before.plan stage n _ refl none some before.left

pub refused_line : (script rest : List ℕ) (stage : Stage) (judge : Judge) (n : ℕ) (statement : Statement) →
    first_stated rest ≡ Some statement → next_stage stage statement ≡ None →
    HasRead script stage judge n rest → stated_plan script ≡ Err n
refused_line script rest stage judge n statement is after before =
    left_refused script rest before.plan stage n statement is after before.left

pub missing_line : (script rest : List ℕ) (stage : Stage) (judge : Judge) (n : ℕ) →
    length rest ≡ 0 → is_complete stage ≡ false → HasRead script stage judge n rest → stated_plan script ≡ Err n
missing_line script rest stage judge n none open_end before =
    left_none script rest before.plan stage n none before.left
    ∙ ap (λ (o : Option CellPlan). ok_or o n) (cond-false _ (Some before.plan) None open_end)

few_gains : (gains n : ℕ) → gains ≤ 65535 * n → n ≤ 1048577 → gains < 2 ^ 40
few_gains gains n small few = omega (arith, small, few)

gains_room : (script rest : List ℕ) (stage : Stage) (judge : Judge) (n : ℕ) →
    length script ≤ 1048576 → HasRead script stage judge n rest → judge.channels.gains < 2 ^ 40
gains_room script rest stage judge n small before =
    few_gains judge.channels.gains n before.gains (omega (arith, before.few, small))

pub all_read : (script rest : List ℕ) (stage : Stage) (judge : Judge) (n : ℕ) →
    length rest ≡ 0 → is_complete stage ≡ true → length script ≤ 1048576 →
    HasRead script stage judge n rest → IsJudged script judge
all_read script rest stage judge n none complete small before = record {
  plan = before.plan;
  stated = left_none script rest before.plan stage n none before.left
      ∙ ap (λ (o : Option CellPlan). ok_or o n) (cond-true _ (Some before.plan) None complete);
  judged = before.judged;
  few = gains_room script rest stage judge n small before;
}

-- ---- the second reading

-- so much was read, and made this plan
pub record HasMade (script : List ℕ) (plan : CellPlan) (rest : List ℕ) : Type 0 where
  pub stage : Stage
  pub n : ℕ
  pub left : stated_plan script ≡ stated (draft_at plan stage) n (lines rest)

pub none_made : (script : List ℕ) → HasMade script empty_plan script
none_made script = record { stage = Cell; n = 1; left = stated_plan-lines script }

no_fault : (r : Result CellPlan ℕ) (n : ℕ) → IsOk r → r ≡ Err n → ⊥
no_fault r n ok e = absurd (cc (ok, e))

made_step : (script rest : List ℕ) (plan : CellPlan) (stage : Stage) (n bytes : ℕ)
    (statement : Statement) (next : Option Stage) → next_stage stage statement ≡ next →
    IsOk (stated_plan script) → first_stated rest ≡ Some statement →
    bytes ≡ length_before 10 rest + 1 → Left script plan stage n rest →
    HasMade script (with_statement plan statement) (following bytes rest)
made_step script rest plan stage n bytes statement None after ok is bytes_is before =
    absurd (no_fault (stated_plan script) n ok (left_refused script rest plan stage n statement is after before))
made_step script rest plan stage n bytes statement (Some next) after ok is bytes_is before =
    record {
      stage = next;
      n = n + 1;
      left = left_next script rest plan stage next n bytes statement is bytes_is after before;
    }

pub one_made : (script rest : List ℕ) (plan more : CellPlan) (bytes : ℕ) (statement : Statement) →
    IsOk (stated_plan script) → first_stated rest ≡ Some statement →
    bytes ≡ length_before 10 rest + 1 → more ≡ with_statement plan statement →
    HasMade script plan rest → HasMade script more (following bytes rest)
one_made script rest plan more bytes statement ok is bytes_is more_is before =
    subst (λ (p : CellPlan). HasMade script p (following bytes rest)) (sym more_is)
    (made_step script rest plan before.stage before.n bytes statement _ refl ok is bytes_is
    before.left)

whole_plan : (r : Result CellPlan ℕ) (plan : CellPlan) (n : ℕ) (complete : Bool) → IsOk r →
    r ≡ ok_or (cond complete (Some plan) None) n → r ≡ Ok plan
whole_plan r plan n true ok e = e
whole_plan r plan n false ok e = absurd (no_fault r n ok e)

end_step : (script rest : List ℕ) (plan : CellPlan) (stage : Stage) (n k : ℕ) → length rest ≡ k →
    IsOk (stated_plan script) → first_stated rest ≡ None → Left script plan stage n rest → stated_plan script ≡ Ok plan
end_step script rest plan stage n zero empty ok none before =
    whole_plan (stated_plan script) plan n (is_complete stage) ok (left_none script rest plan stage n empty before)
end_step script rest plan stage n (suc k) long ok none before =
    absurd (no_fault (stated_plan script) n ok
    (left_faulty script rest plan stage n _ refl none (omega (arith, long)) before))

pub all_made : (script rest : List ℕ) (plan : CellPlan) → IsOk (stated_plan script) →
    first_stated rest ≡ None → HasMade script plan rest → stated_plan script ≡ Ok plan
all_made script rest plan ok none before =
    end_step script rest plan before.stage before.n (length rest) refl ok none before.left
