use Rattle.cell_script.proofs.Common.{arith, map}
use Rattle.cell_script.proofs.WrittenLines.{item_written, items_written, none_written}
use Rattle.cell_script.specs.declared.statements.Statement.TheVariants as statements
use Rattle.cell_script.proofs.writing.add_frames.Goals as goal

pub loop-frame-init : goal.loop-frame-init
loop-frame-init c = none_written c.args.script.now.items

pub loop-frame-preserved : goal.loop-frame-preserved
loop-frame-preserved c =
    item_written statements.Frame c.args.frames.now c.loop-frame.frame-index c.frame-item.result
    c.args.script.now.items c.loop-frame.script.items c.add_line.new.script.items
    c.loop-frame-test.true c.frame-item.is c.loop-frame.invariant c.in_ok-add_line.ensures

pub returns : goal.returns
returns c =
    items_written (map statements.Frame) c.args.frames.now c.loop-frame.frame-index c.args.script.now.items
    c.loop-frame.script.items (omega (arith, c.loop-frame-test.false)) c.loop-frame.invariant
