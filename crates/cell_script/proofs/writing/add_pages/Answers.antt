use Rattle.cell_script.proofs.Common.{arith, map}
use Rattle.cell_script.proofs.WrittenLines.{item_written, items_written, none_written}
use Rattle.cell_script.specs.declared.statements.Statement.TheVariants as statements
use Rattle.cell_script.proofs.writing.add_pages.Goals as goal

pub loop-page-init : goal.loop-page-init
loop-page-init c = none_written c.args.script.now.items

pub loop-page-preserved : goal.loop-page-preserved
loop-page-preserved c =
    item_written statements.Page c.args.pages.now c.loop-page.page-index c.page-item.result
    c.args.script.now.items c.loop-page.script.items c.add_line.new.script.items
    c.loop-page-test.true c.page-item.is c.loop-page.invariant c.in_ok-add_line.ensures

pub returns : goal.returns
returns c =
    items_written (map statements.Page) c.args.pages.now c.loop-page.page-index c.args.script.now.items
    c.loop-page.script.items (omega (arith, c.loop-page-test.false)) c.loop-page.invariant
