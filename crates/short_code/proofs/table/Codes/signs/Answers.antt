use Rattle.std.proofs.Common.{◌≡◌, length, ap, ◌∙◌, arith}
use Rattle.short_code.proofs.Signs.{length-pilot_signs, get_or-pilot_signs}
use Rattle.short_code.proofs.table.Codes.signs.Goals as goal

pub index-requires : goal.index-requires
index-requires c =
    let long : length c.self.inside.signs.items ≡ 32768 = ap length c.self.invariant ∙
    length-pilot_signs in
    omega arith

pub returns : goal.returns
returns c =
    rw c.self.invariant at c.index.ensures ∙
    get_or-pilot_signs c.args.n c.index.result.now c.requires
