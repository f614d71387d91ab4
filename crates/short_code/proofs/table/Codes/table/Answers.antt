use Rattle.std.proofs.Common.{length, ap, ◌∙◌}
use Rattle.short_code.proofs.Signs.{length-pilot_signs}
use Rattle.short_code.proofs.table.Codes.table.Goals as goal

pub returns-clause-len : goal.returns-clause-len
returns-clause-len c = ap length (c.deref.ensures.value ∙ c.self.invariant) ∙ length-pilot_signs
