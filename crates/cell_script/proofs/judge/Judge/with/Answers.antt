use Rattle.cell_script.proofs.Common.{sym, subst, channel_lines, with_statement, HasJudged, IsInOrder, Judge, Statement}
use Rattle.cell_script.proofs.ScriptRows.{judged_frame, judged_page, judged_paging, judged_traffic}
use Rattle.cell_script.proofs.judge.Judge.with.Goals as goal

pub returns-in-Paging-clause-judged : goal.returns-in-Paging-clause-judged
returns-in-Paging-clause-judged c plan order before =
    subst (λ (s : Statement). HasJudged (record c.args.self { channels = c.with.result }) (with_statement plan s))
    (sym c.in-Paging.is)
    (judged_paging c.args.self plan c.in-Paging.line _ (subst (IsInOrder plan) c.in-Paging.is order)
    (c.with.ensures.seen (channel_lines plan) before.channels) before)

pub returns-in-Traffic-clause-judged : goal.returns-in-Traffic-clause-judged
returns-in-Traffic-clause-judged c plan order before =
    subst (λ (s : Statement). HasJudged (record c.args.self { channels = c.with-in-Traffic.result }) (with_statement plan s))
    (sym c.in-Traffic.is)
    (judged_traffic c.args.self plan c.in-Traffic.line _
    (c.with-in-Traffic.ensures.seen (channel_lines plan) before.channels) before)

pub returns-in-Page-clause-judged : goal.returns-in-Page-clause-judged
returns-in-Page-clause-judged c plan order before =
    subst (λ (s : Statement). HasJudged c.args.self (with_statement plan s)) (sym c.in-Page.is)
    (judged_page c.args.self plan c.in-Page.field-0 before)

pub returns-in-Frame-clause-judged : goal.returns-in-Frame-clause-judged
returns-in-Frame-clause-judged c plan order before =
    subst (λ (s : Statement). HasJudged c.args.self (with_statement plan s)) (sym c.in-Frame.is)
    (judged_frame c.args.self plan c.in-Frame.field-0 before)
