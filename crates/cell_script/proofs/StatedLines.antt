-- Texts of whole lines that lead from one draft to another.
use Rattle.cell_script.proofs.Common.{◌≡◌, ℕ, ◌+◌, ◌-◌, true, List, [], ◌∷◌, ◌++◌, length, take, refl, sym, ap, ◌∙◌, arith, Option, Some}
use Rattle.cell_script.proofs.Common.{append_assoc, length-append, Ok, append-nil, option_and_then, ok_or, take-append_seam, CellPlan}
use Rattle.cell_script.proofs.Common.{Statement, draft_after, lines, stated, stated_plan, Draft, empty_draft, plan_at, with_line, with_next}
use Rattle.cell_script.proofs.Common.{statement_in, with_line_feed}
use Rattle.cell_script.proofs.ScriptSplits.{draft_after-line, lines-append, lines-none, stated-next, stated-none}
use Rattle.cell_script.proofs.SpelledBytes.{are_within, is_line-within}

-- ---- one line

with_line-of : (draft : Draft) (text : List ℕ) (statement : Statement) →
    statement_in text ≡ Some statement → with_line draft text ≡ with_next draft statement
unfolding with_line
with_line-of draft text statement is = ap (option_and_then (with_next draft)) is

line_text : (text : List ℕ) → take (length (with_line_feed text) - 1) (with_line_feed text) ≡ text
line_text text =
    let long : length (with_line_feed text) - 1 ≡ length text = omega (arith, length-append text (10 ∷ [])) in
    ap (λ (n : ℕ). take n (with_line_feed text)) long ∙ take-append_seam text (10 ∷ [])

-- ---- lines after one another

-- from a draft and a text on, the lines state what those after the text state from the next draft
-- on
pub record Leads (draft : Draft) (text : List ℕ) (next : Draft) : Type 0 where
  pub on : (n : ℕ) (following : List ℕ) →
      (m : ℕ) × (stated draft n (lines (text ++ following)) ≡ stated next m (lines following))

-- one line
pub one_leads : (draft next : Draft) (text : List ℕ) (statement : Statement) →
    are_within 32 126 text ≡ true → statement_in text ≡ Some statement →
    with_next draft statement ≡ Some next → Leads draft (with_line_feed text) next
one_leads draft next text statement are is after_it =
    let line = is_line-within text are in
    let after : draft_after draft (with_line_feed text) ≡ Some next =
    draft_after-line draft (with_line_feed text) line ∙ ap (with_line draft) (line_text text)
    ∙ with_line-of draft text statement is ∙ after_it in
    record {
      on = λ n following. (
        n + 1,
        ap (stated draft n) (lines-append (with_line_feed text) following line)
            ∙ stated-next draft next n (with_line_feed text) (lines following) after,
      );
    }

-- lines after lines
pub both_lead : (draft middle next : Draft) (first second : List ℕ) → Leads draft first middle →
    Leads middle second next → Leads draft (first ++ second) next
both_lead draft middle next first second one two =
    record {
      on = λ n following.
          let a = one.on n (second ++ following) in
          let b = two.on a.0 following in (
            b.0,
            ap (λ (t : List ℕ). stated draft n (lines t)) (append_assoc first second following)
                ∙ a.1 ∙ b.1,
          );
    }

-- no lines
pub none_leads : (draft : Draft) → Leads draft [] draft
none_leads draft = record { on = λ n following. (n, refl) }

-- a text that leads to a whole plan states it
pub leads_to_plan : (text : List ℕ) (draft : Draft) (plan : CellPlan) →
    Leads empty_draft text draft → plan_at draft ≡ Some plan → stated_plan text ≡ Ok plan
unfolding stated_plan
leads_to_plan text draft plan leads is =
    let all = leads.on 1 [] in
    ap (λ (t : List ℕ). stated empty_draft 1 (lines t)) (sym (append-nil text))
    ∙ all.1
    ∙ ap (stated draft all.0) lines-none
    ∙ stated-none draft all.0
    ∙ ap (λ (p : Option CellPlan). ok_or p all.0) is
