-- What the proofs of this crate cite of what lies below, and of its own definitions.
pub use Rattle.std.proofs.Common.{replicate, reverse, slice_index_or, zero-add}
pub use Rattle.std.proofs.Math.Nat.{mod-lt}
pub use Rattle.std.proofs.lemmas.Bool.{agree_below, agree_below_at, ne_eqb}
pub use Rattle.std.proofs.lemmas.List.{length-map, length-replicate, length-reverse, map-append, reverse-append, reverse-reverse}
pub use Rattle.std.proofs.lemmas.List.FromFn.{get_or-map-range_with_len}
pub use Rattle.std.proofs.lemmas.Nat.{and_mask, mod-pow-add, or_shifted, pow_pos, shr-shr, shr_le, xor_block, xor_comm, xor_lt}
pub use Rattle.std.specs.Int.Bits.{xor_shifted, xor_zero_r}
pub use Rattle.std.specs.Int.RustNames.{count_ones}
pub use Rattle.chip_core.proofs.BitLists.{add, length_add, xor_assoc, zip_push}
pub use Rattle.chip_core.proofs.Common.{Bool, List, [], ap, append-nil, append_assoc, arith, bit_and, bit_of, bit_or, bit_xor, cond, digit}
pub use Rattle.chip_core.proofs.Common.{common_parity, digit_again, eq-eqb, false, get_or, length, length-append, length-take-le, map, refl}
pub use Rattle.chip_core.proofs.Common.{nat_eq, nat_lt, number, number_from, pow_mono, range_with_len, subst, suc, sym, take, take_more, ℕ}
pub use Rattle.chip_core.proofs.Common.{true, xor, zero, ◌%◌, ◌*◌, ◌++◌, ◌+◌, ◌-◌, ◌/◌, ◌<◌, ◌^◌, ◌∙◌, ◌∷◌, ◌≡◌, ◌≤◌}
unfoldable pub use Rattle.chip_core.proofs.Common.{binary, places}
pub use Rattle.chip_core.proofs.CommonParity.{common_parity-ones}
pub use Rattle.chip_core.proofs.Digits.{binary-double, binary-low, binary-xor, number-binary, number_lt}
pub use Rattle.chip_core.proofs.FieldLists.{length-binary}
pub use Rattle.chip_core.proofs.Numerals.{binary-front, binary-number_from, number_from-append, number_from-front}
pub use Rattle.chip_core.specs.Polynomial.{divided, plus_at_front, remainder}
pub use Rattle.long_code.specs.LongCode.{IsState, above, below, period, permuted}
unfoldable pub use Rattle.long_code.specs.LongCode.{after, before, long_chip, paging_mask, traffic_mask}
