use Rattle.chip_core.proofs.Common.{◌≡◌, drop, Some}
use Rattle.std.proofs.Common.{slice_get}
use Rattle.chip_core.proofs.FieldLists.{slice_get-drop}
use Rattle.chip_core.proofs.BitLists.{taken_more}
use Rattle.chip_core.proofs.bit_list.Bits.part.Goals as goal

pub loop-i-preserved : goal.loop-i-preserved
loop-i-preserved c =
    let here : slice_get (drop c.args.from c.args.self.now) c.loop-i.i ≡ Some c.get.result =
    slice_get-drop c.args.from c.args.self.now c.loop-i.i c.get.result c.get.ensures in
    let more = taken_more (drop c.args.from c.args.self.now) c.loop-i.i c.get.result here in
    rw (c.append.ensures, c.loop-i.invariant, more)
