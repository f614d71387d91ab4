use Rattle.pilot_sets.proofs.Common.{◌≡◌, ◌<◌, map, subst, sym, rules, All, shown_active, Active}
use Rattle.pilot_sets.proofs.Rows.{shown_rows, shown_subchannels}
use Rattle.pilot_sets.proofs.sets.Sets.active.Goals as goal

pub returns-clause-rows : goal.returns-clause-rows
returns-clause-rows c =
    let is : c.active_list.result ≡ map shown_active c.self.inside.sets.active = search rules in
    subst (All (λ (a : Active). a.row < 64)) (sym is) (shown_rows c.self.inside.sets.active c.self.invariant.sets.rows)

pub returns-clause-subchannels : goal.returns-clause-subchannels
returns-clause-subchannels c =
    let is : c.active_list.result ≡ map shown_active c.self.inside.sets.active = search rules in
    subst (All (λ (a : Active). a.subchannel < 6)) (sym is)
    (shown_subchannels c.self.inside.sets.active c.self.invariant.sets.rows)
