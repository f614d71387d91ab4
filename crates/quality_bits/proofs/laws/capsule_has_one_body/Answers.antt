use Rattle.quality_bits.proofs.Common.{sym, ap, ◌∙◌}
use Rattle.quality_bits.proofs.Wholes.{inner, inner-capsule}
use Rattle.quality_bits.proofs.laws.capsule_has_one_body.Goals as goal

pub returns : goal.returns
returns c kind form a b same = sym (inner-capsule kind form a) ∙ ap (inner kind) same ∙ inner-capsule kind form b
