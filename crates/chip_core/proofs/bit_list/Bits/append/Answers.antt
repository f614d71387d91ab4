use Rattle.chip_core.proofs.Common.{◌<◌, ◌++◌, ◌∷◌, [], List, Bool, arith, ap, ◌∙◌}
use Rattle.chip_core.proofs.WordBits.{sets, IsPacked-more, unpacked-more, length_is}
use Rattle.chip_core.proofs.bit_list.Bits.append.Goals as goal

pub invariant_of-self : goal.invariant_of-self
invariant_of-self c =
    let room : c.self.inside.count < 1184 = omega (arith, c.requires, length_is _ _ _ c.self.view_is) in
    let one =
    sets c.self.inside.words c.self.inside.count c.with_bit.result c.args.bit c.self.invariant
    room c.with_bit.ensures.here c.with_bit.ensures.others in
    IsPacked-more c.self.inside.words c.self.inside.count c.with_bit.result c.args.bit
    c.self.invariant room c.with_bit.type_inv one

pub returns : goal.returns
returns c =
    let room : c.self.inside.count < 1184 = omega (arith, c.requires, length_is _ _ _ c.self.view_is) in
    let one =
    sets c.self.inside.words c.self.inside.count c.with_bit.result c.args.bit c.self.invariant
    room c.with_bit.ensures.here c.with_bit.ensures.others in
    unpacked-more c.self.inside.words c.self.inside.count c.with_bit.result c.args.bit one
    ∙ ap (λ (bits : List Bool). bits ++ c.args.bit ∷ []) c.self.view_is
