use Rattle.pilot_search.proofs.Common.{length, map, ap, sym, ◌∙◌, across, length-map, length-pilot_signs, pilot_signs, both}
use Rattle.pilot_search.proofs.points.Points.turned.Goals as goal

pub returns-clause-len : goal.returns-clause-len
returns-clause-len c =
    sym (length-map c.deref.result.now both)
    ∙ ap length (ap (map both) c.deref.ensures.value ∙ c.self.invariant.1)
    ∙ length-map pilot_signs across
    ∙ length-pilot_signs
