use Rattle.cell_script.proofs.Common.{◌≡◌, ◌++◌, take, lines_of, flat_map, traffic_statements}
use Rattle.cell_script.proofs.writing.add_traffic_channels.Given as goal

abbrev pub invariant-loop-channel : goal.invariant-loop-channel
invariant-loop-channel l =
    l.script.items ≡ l.fn.script.items ++ lines_of (flat_map traffic_statements (take l.channel-index l.channels))
