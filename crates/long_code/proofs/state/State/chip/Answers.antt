use Rattle.long_code.proofs.Common.{ℕ, ap, ◌∙◌, long_chip}
use Rattle.long_code.proofs.Chips.{chip_is}
use Rattle.long_code.proofs.state.State.chip.Goals as goal

pub returns : goal.returns
returns c =
    chip_is c.self.inside.value c.args.mask c.self.invariant.1 c.requires ∙
    ap (λ (s : ℕ). long_chip s c.args.mask 0) c.self.view_is
