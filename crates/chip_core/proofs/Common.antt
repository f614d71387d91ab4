-- What the proofs of this crate cite of the crates below, and of its own definitions.
pub use Rattle.std.proofs.Common.{length-append, append_assoc, unsigned_abs, length-drop, FitsSigned, below_more, add-one, bit_and, bit_xor}
pub use Rattle.std.proofs.Common.{Option, bit_or, get_or, length, nat_eq, nat_le, ⊎_elim, arith, false, rules, subst, Bool, List, None, inl}
pub use Rattle.std.proofs.Common.{Some, cond, drop, refl, take, true, zero, ◌&&◌, ◌*ℤ◌, ◌++◌, ◌+ℤ◌, ◌-ℤ◌, ◌<ℤ◌, ◌≤ℤ◌, inr, map, max, min, ℕ}
pub use Rattle.std.proofs.Common.{not, pos, set, suc, sym, w16, ◌%◌, ◌*◌, ◌+◌, ◌-◌, ◌/◌, ◌<◌, ◌^◌, ◌∙◌, ◌∷◌, ◌≡◌, ◌≢◌, ◌≤◌, ◌⊎◌, [], ap, ℤ}
pub use Rattle.std.proofs.Math.Pow.{mod-mod-pow, pow_mono}
pub use Rattle.std.proofs.lemmas.Bool.{cases_Bool, cases_eq, cases_lt, cases_order, cond-false, cond-true, eq-eqb, eqb-true, le-leb, lt-leb}
pub use Rattle.std.proofs.lemmas.Bool.{ne_eqb}
pub use Rattle.std.proofs.lemmas.Grind.{common_steps, flat_map-append}
pub use Rattle.std.proofs.lemmas.Int.{ints}
pub use Rattle.std.proofs.lemmas.List.{append-nil, at_drop_more, drop-drop, drop_all, drop_at, drop_more, get_or-append_right, get_or-drop}
pub use Rattle.std.proofs.lemmas.List.{get_or-set_other, get_or-set_same, get_or-take, get_or_append_left, get_or_push, length-set, take_at}
pub use Rattle.std.proofs.lemmas.List.{length-take-le, nil_from_length, take-append-drop, take_more}
pub use Rattle.std.proofs.lemmas.Nat.{and_le_l, and_mask, and_shr, field_of, mod-mul-add, ones_cat, pow_pos, shr-shr, xor_shr}
pub use Rattle.std.proofs.lemmas.Nat.Bits.{bit_at-zero, bit_at_and, bit_at_or, bit_at_set_other, bit_at_set_same, bit_at_xor, shr_and_one}
pub use Rattle.std.proofs.lemmas.Option.{get_or_from_slice_get, slice_get-get_or, slice_get_within}
pub use Rattle.std.specs.List.{filter, find, flat_map, list_any, range_with_len, slice_get}
pub use Rattle.std.specs.Prelude.{if◌then◌else◌, int_lt, nat_lt, neg_ℤ, negsuc}
pub use Rattle.chip_core.specs.Bits.{are_same, bit_of, common_parity, digit, number, number_from, parity, sign, xor, zip_with}
unfoldable pub use Rattle.chip_core.specs.Bits.{binary, places}
unfoldable pub use Rattle.chip_core.specs.Decimals.{digits_from}
pub use Rattle.chip_core.specs.Fields.{AreWidths, FieldsFit, HaveWidths, field, in_widths, spelled, total_width}
pub use Rattle.chip_core.specs.Packing.{digit_again, digit_le, get_or-unpacked, length-unpacked, words_again}
