-- What the proofs of this crate cite of what lies below, and of its own definitions.
pub use Rattle.std.proofs.Common.{Some, replicate}
pub use Rattle.std.proofs.lemmas.Bool.{agree_below, agree_below_at, and_parts, leb-true, ltb-true}
pub use Rattle.std.proofs.lemmas.List.{drop-append-le, ext_get_or, get_or-append-add, length-replicate, length_push}
pub use Rattle.std.specs.List.{flat_map, list_all, slice_get}
pub use Rattle.chip_core.proofs.BitLists.{add, length_add, taken_more}
pub use Rattle.chip_core.proofs.Common.{Bool, List, [], and_mask, ap, append-nil, append_assoc, arith, at_drop_more, below_more, binary, ℕ}
pub use Rattle.chip_core.proofs.Common.{bit_and, bit_of, cond, digit, drop, drop-drop, drop_at, drop_more, false, flat_map-append, get_or}
pub use Rattle.chip_core.proofs.Common.{get_or-drop, get_or_append_left, get_or_from_slice_get, get_or_push, ints, length, length-append}
pub use Rattle.chip_core.proofs.Common.{length-drop, length-take-le, map, nat_eq, nat_le, nat_lt, not, parity, refl, suc, sym, take, true}
pub use Rattle.chip_core.proofs.Common.{take-append-drop, take_at, take_more, xor, zero, zip_with, ◌%◌, ◌&&◌, ◌*◌, ◌++◌, ◌+◌, ◌-◌, ◌/◌, ◌<◌}
pub use Rattle.chip_core.proofs.Common.{◌^◌, ◌∙◌, ◌∷◌, ◌≡◌, ◌≤◌}
unfoldable pub use Rattle.chip_core.proofs.Common.{places}
pub use Rattle.chip_core.proofs.FieldLists.{length-binary}
pub use Rattle.chip_core.proofs.Numerals.{bool_byte-digit}
pub use Rattle.chip_core.proofs.Places.{places-more, places-none}
pub use Rattle.chip_core.proofs.Ranges.{flat_map_ext_places}
pub use Rattle.chip_core.proofs.RegisterBits.{bit_of-first, bit_of-next, get_or-binary, low_bit, parity_done, xor_false, xor_step}
pub use mathlib.Core.Bool.{beq}
pub use mir.Val.{bool_byte}
pub use Rattle.conv_code.specs.ConvCode.{code_symbols, g0, g1, state_after, symbol}
pub use Rattle.conv_code.specs.Laws.{IsContinuedCode, IsDistinctCode}
