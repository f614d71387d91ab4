-- What the proofs of this crate cite of the crates below, and of its own definitions.
pub use Rattle.std.proofs.Common.{All, None, Option, Some, codes, decimal, replicate, ◌==◌}
pub use Rattle.std.proofs.lemmas.List.{at_drop_more, drop_all, flat_map_more, length-drop, length-set, take_all, take_more, take_more_set}
pub use Rattle.std.specs.Int.{to_be_bytes, w16, w32, w64}
pub use Rattle.std.specs.Prelude.{FitsSigned, flat_map, nat_le, negsuc, option_and_then, pos, ◌↔◌}
pub use Rattle.std.specs.Str.{IsAscii, all_ascii_digits}
pub use Rattle.chip_core.proofs.Common.{Bool, List, [], ap, append-nil, append_assoc, arith, binary, common_steps, cond, drop, false, ints}
pub use Rattle.chip_core.proofs.Common.{get_or, length, length-append, nat_lt, not, number, refl, rules, subst, suc, sym, take, true, zero}
pub use Rattle.chip_core.proofs.Common.{ℕ, ℤ, ◌*◌, ◌++◌, ◌+◌, ◌-◌, ◌/◌, ◌<◌, ◌^◌, ◌∙◌, ◌∷◌, ◌≡◌, ◌≢◌, ◌≤◌}
pub use Rattle.hex.specs.Hex.{encode_lower, lower_digits}
pub use Rattle.line_text.specs.Texts.{digit_of, octet_count}
unfoldable pub use Rattle.line_text.specs.Texts.{bit_text, digits_of, packed_octets, padded, serial_digits, state_digits}
