use Rattle.pilot_sets.proofs.Common.{common_steps, ints, length, ap, arith, filled_more, length-filled}
use Rattle.pilot_sets.proofs.few.Few.push.Goals as goal

pub invariant_of-self : goal.invariant_of-self
invariant_of-self g c =
    let filler = g.T.Filler.filler in
    let held = length-filled filler g.row.N c.self.inside.places c.self.inside.count c.self.invariant in
    filled_more filler g.row.N c.self.inside.places c.self.inside.count c.args.thing
    c.self.invariant (omega (arith, c.requires, ap length c.self.view_is, held))

pub returns : goal.returns
returns c = grind (ints, arith, common_steps)

pub offset_bounds-self-inside-self-inside : goal.offset_bounds-self-inside-self-inside
offset_bounds-self-inside-self-inside c = grind (ints, arith, common_steps)
