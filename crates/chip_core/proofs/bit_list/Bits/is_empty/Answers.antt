use Rattle.chip_core.proofs.Common.{length, ap, sym, ◌∙◌, eqb-true, eq-eqb, nil_from_length}
use Rattle.chip_core.proofs.WordBits.{length_is}
use Rattle.chip_core.proofs.bit_list.Bits.is_empty.Goals as goal

pub returns : goal.returns
returns c =
    let long = length_is c.self.inside.words c.self.inside.count c.args.self.now c.self.view_is in (
      λ none. nil_from_length c.args.self.now (sym long ∙ eqb-true c.self.inside.count 0 none),
      λ none. eq-eqb c.self.inside.count 0 (long ∙ ap length none),
    )
