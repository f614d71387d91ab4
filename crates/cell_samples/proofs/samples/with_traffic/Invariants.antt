use Rattle.cell_samples.proofs.Common.{◌≡◌, ◌++◌, map, take, carrier_of, traffic_carrier}
use Rattle.cell_samples.proofs.samples.with_traffic.Given as goal

abbrev pub invariant-loop-channel : goal.invariant-loop-channel
invariant-loop-channel l =
    map carrier_of l.channels.items
    ≡ map carrier_of l.fn.channels.items ++
    map (traffic_carrier l.plan) (take l.channel-index l.traffic)
