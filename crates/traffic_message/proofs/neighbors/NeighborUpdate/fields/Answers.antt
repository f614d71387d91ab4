use Rattle.traffic_message.proofs.Common.{◌<◌, arith, All-from_get_or}
use Rattle.traffic_message.proofs.ByLayout.{neighbor_fits}
use Rattle.traffic_message.proofs.neighbors.NeighborUpdate.fields.Goals as goal

pub returns-clause-pilots : goal.returns-clause-pilots
returns-clause-pilots c =
    let m = c.self.inside.fields in
    All-from_get_or (λ pn. pn < 512) m.pns 0 (λ i h. omega (arith, neighbor_fits m i c.self.invariant h))
