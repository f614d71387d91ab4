use Rattle.cell_script.proofs.Common.{List, ap, one_page_more, Page}
use Rattle.cell_script.proofs.LastChanged.{push_changed}
use Rattle.cell_script.proofs.build.add_page.Goals as goal

pub returns : goal.returns
returns c =
    push_changed c.push-2.result (one_page_more c.args.page.now) c.args.paging.now c.pop.new.self
    c.push-2.new.self c.in-Some.channel _ c.in-Some.ensures
    (ap (λ (pages : List Page). record c.in-Some.channel { pages = pages }) c.in_ok-push.ensures.ok)
    c.push-2.ensures.ok
