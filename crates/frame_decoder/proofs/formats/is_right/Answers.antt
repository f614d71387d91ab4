use Rattle.frame_decoder.proofs.Common.{◌-◌, ap, ℕ}
use Rattle.frame_decoder.proofs.FormatCodewords.{always_right, check_fits, right_is}
use Rattle.frame_decoder.proofs.formats.is_right.Goals as goal

pub returns-in-None : goal.returns-in-None
returns-in-None g c = always_right c.args.format.now c.args.bits.now c.in-None.is

pub returns-in-Some : goal.returns-in-Some
returns-in-Some g c =
    right_is c.args.format.now c.in-Some.kind c.args.bits.now (c.len.result - 8) c.check.result
    c.in-Some.is c.requires.count (ap (λ (n : ℕ). n - 8) c.len.ensures.value)
    (rw c.part-checked.ensures at c.check.ensures)

pub check-requires : goal.check-requires
check-requires g c =
    check_fits c.args.format.now c.in-Some.kind c.args.bits.now c.part-checked.result
    (c.len.result - 8) c.requires.format.told c.in-Some.is c.requires.count
    (ap (λ (n : ℕ). n - 8) c.len.ensures.value) c.part-checked.ensures
