use Rattle.traffic_message.proofs.Common.{◌<◌, arith, All-from_get_or}
use Rattle.traffic_message.proofs.ByLayout.{combs_paired, record_fits, rows_paired}
use Rattle.traffic_message.proofs.handoff.HandoffDirection.fields.Goals as goal

pub returns-clause-pilots : goal.returns-clause-pilots
returns-clause-pilots c =
    let m = c.self.inside.fields in
    let is = c.self.invariant in
    All-from_get_or (λ pn. pn < 512) m.pns 0 (λ i h. omega (arith, (record_fits m i is h).0))

-- Each row that a direction names is below 256: it is a field of eight bits of its own record, and
-- there are as many rows as records.
pub returns-clause-channels : goal.returns-clause-channels
returns-clause-channels c =
    let m = c.self.inside.fields in
    let is = c.self.invariant in
    All-from_get_or (λ row. row < 256) m.rows 0
    (λ i h. omega (arith, (record_fits m i is (omega (arith, h, rows_paired m is))).2))

pub returns-clause-combs : goal.returns-clause-combs
returns-clause-combs c = combs_paired c.self.inside.fields c.self.invariant

pub returns-clause-rows : goal.returns-clause-rows
returns-clause-rows c = rows_paired c.self.inside.fields c.self.invariant
