use Rattle.chip_core.proofs.Common.{arith}
use Rattle.chip_core.proofs.WordBits.{bit_read, length_is}
use Rattle.chip_core.proofs.bit_list.Bits.get.Goals as goal

pub bounds-self-inside-i : goal.bounds-self-inside-i
bounds-self-inside-i c = omega (arith, c.requires, length_is _ _ _ c.self.view_is, c.self.invariant.room)

pub returns : goal.returns
returns c =
    bit_read c.self.inside.words c.self.inside.count c.args.i c.args.self.now c.self.view_is
    c.requires
