use Rattle.quality_bits.proofs.Common.{◌∙◌}
use Rattle.quality_bits.proofs.Marked.{marked_goes_on, marked_gives}
use Rattle.quality_bits.proofs.open_capsule.OpenCapsule.push_piece.Goals as goal

pub returns-clause-stands : goal.returns-clause-stands
returns-clause-stands c pieces stood =
    c.push_all-whole.ensures.goes_on ∙
    marked_goes_on pieces c.args.bits.now c.get.result c.args.self.now
    c.from_start-capsule.result c.get.ensures stood c.from_start-capsule.ensures

pub returns-clause-capsule : goal.returns-clause-capsule
returns-clause-capsule c pieces stood =
    c.push_all-whole.ensures.gives ∙
    marked_gives pieces c.args.bits.now c.get.result c.args.self.now
    c.from_start-capsule.result c.get.ensures stood c.from_start-capsule.ensures
