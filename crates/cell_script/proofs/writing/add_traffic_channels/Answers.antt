use Rattle.cell_script.proofs.Common.{◌∷◌, List, TrafficFrame, ap, arith, flat_map, line_of_traffic, map, traffic_statements, sym}
use Rattle.cell_script.proofs.WrittenLines.{channel_written, items_written, none_written}
use Rattle.cell_script.specs.declared.statements.Statement.TheVariants as statements
use Rattle.cell_script.proofs.writing.add_traffic_channels.Goals as goal

pub loop-channel-init : goal.loop-channel-init
loop-channel-init c = none_written c.args.script.now.items

pub loop-channel-preserved : goal.loop-channel-preserved
loop-channel-preserved c =
    let line = statements.Traffic (line_of_traffic c.channel-item.result) in
    channel_written traffic_statements c.args.channels.now c.loop-channel.channel-index
    c.channel-item.result line (map statements.Frame c.as_slice.result.now)
    c.args.script.now.items c.loop-channel.script.items c.add_line.new.script.items
    c.add_frames.new.script.items c.loop-channel-test.true c.channel-item.is
    (ap (λ (frames : List TrafficFrame). line ∷ map statements.Frame frames) (sym c.as_slice.ensures))
    c.loop-channel.invariant c.in_ok-add_line.ensures c.in_ok-add_frames.ensures

pub returns : goal.returns
returns c =
    items_written (flat_map traffic_statements) c.args.channels.now c.loop-channel.channel-index
    c.args.script.now.items c.loop-channel.script.items
    (omega (arith, c.loop-channel-test.false)) c.loop-channel.invariant
