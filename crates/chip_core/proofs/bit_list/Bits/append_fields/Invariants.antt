use Rattle.chip_core.proofs.Common.{◌≡◌, ◌++◌, take, spelled}
use Rattle.chip_core.proofs.bit_list.Bits.append_fields.Given as goal

abbrev pub invariant-loop-field : goal.invariant-loop-field
invariant-loop-field l = l.self ≡ l.fn.self ++ spelled (take l.field-index l.fields)
