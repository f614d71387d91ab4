-- What the proofs of this crate cite of what lies below, and of its own definitions.
pub use Rattle.std.proofs.Common.{Some, add-one, below_more, inl, inr, not, pos, rules, set, ℤ, ⊎_elim, ◌&&◌, ◌+ℤ◌, ◌||◌, ◌≢◌, ◌⊎◌}
pub use Rattle.std.proofs.Math.Nat.{div-eq_of_eq-mul_left}
pub use Rattle.std.proofs.lemmas.Bool.{and_parts, cases_eq, cases_lt, eqb-true, ltb-true, not-true}
pub use Rattle.std.proofs.lemmas.Int.{fits_signed_from_abs, ints, to_z-of_z}
pub use Rattle.std.proofs.lemmas.List.{get_or-set_other, get_or-set_same, get_or_past, length-set, nil_from_length}
pub use Rattle.std.proofs.lemmas.List.Elements.{All-from_get_or, filter-append}
pub use Rattle.std.proofs.lemmas.List.Sums.{get_or-le-sum_by, sum_by-cons, sum_by-set, sum_by_more, sum_by_more_le}
pub use Rattle.std.proofs.lemmas.Nat.{div_below}
pub use Rattle.std.specs.Prelude.{filter, if◌then◌else◌, sum_by, unsigned_abs, ◌*ℤ◌, ◌==◌}
pub use Rattle.chip_core.proofs.Common.{Bool, List, [], ap, arith, common_parity, cond, digit_again, digit_le, false, flat_map, get_or, map}
pub use Rattle.chip_core.proofs.Common.{get_or_from_slice_get, length, list_any, nat_eq, nat_lt, number_from, places, range_with_len, refl}
pub use Rattle.chip_core.proofs.Common.{sign, slice_get, suc, sym, take, true, zero, ℕ, ◌%◌, ◌*◌, ◌++◌, ◌+◌, ◌-◌, ◌/◌, ◌<◌, ◌^◌, ◌∙◌, ◌∷◌}
pub use Rattle.chip_core.proofs.Common.{◌≡◌, ◌≤◌}
pub use Rattle.chip_core.proofs.IndexSums.{sum_changed, sum_front, sum_none, sum_same}
pub use Rattle.chip_core.proofs.Magnitudes.{abs_sum}
pub use Rattle.chip_core.proofs.Numerals.{digit_fits}
pub use Rattle.chip_core.proofs.Places.{get_or-map-places, length-map-places, map-places-all, map-places-more, places_is}
pub use Rattle.chip_core.proofs.Ring.{distrib_right}
pub use Rattle.chip_core.specs.Agreement.{agreement}
pub use Rattle.chip_core.specs.Sums.{total}
unfoldable pub use Rattle.chip_core.specs.Sums.{sum_below}
pub use Rattle.conv_code.proofs.Common.{agree_below, agree_below_at, code_symbols, places-more, places-none, replicate}
pub use Rattle.conv_code.proofs.Continued.{length-code_symbols}
pub use Rattle.long_code.proofs.After.{after-after, after_none}
pub use Rattle.long_code.proofs.Before.{after-before, before_lt}
pub use Rattle.long_code.proofs.Common.{IsState, binary-low, eq-eqb, map-append, ne_eqb, period, reverse, reverse-append, subst, zero-add}
unfoldable pub use Rattle.long_code.proofs.Common.{after, before, binary, long_chip}
pub use Rattle.long_code.proofs.Period.{before_is_later}
pub use Rattle.quality_bits.proofs.Formats.{zeros}
pub use Rattle.quality_bits.specs.Formats.{bits_in, format_codeword}
pub use Rattle.quality_bits.specs.declared.format.FrameFormat.{FrameFormat}
pub use mir.Syntax.{w64}
pub use mir.Val.{SFits, of_z, to_z}
pub use Rattle.symbol_path.specs.FormatSymbols.{place_in, repeated_as, repeated_count, sent_count, which_sent}
pub use Rattle.symbol_path.specs.RatesTwo.{repeats_of2, symbols_of}
pub use Rattle.symbol_path.specs.Scrambling.{group_scrambling, power_place, power_start, symbol_or_power_bit}
unfoldable pub use Rattle.symbol_path.specs.Scrambling.{power_places, scrambling_chips, with_power_bits}
pub use Rattle.symbol_path.specs.SentOrder.{Shape, address, code_symbol, data_shape, gathered, place, reversed, sent, shape_of, size}
pub use Rattle.symbol_path.specs.SentOrder.{sync_shape}
unfoldable pub use Rattle.symbol_path.specs.SentOrder.{gathered_by, sent_by}
pub use Rattle.symbol_path.specs.SentOrderTwo.{IsDropped, IsKeptOnce, is_dropped, kept_symbol, place2, repeated_symbol, sent2}
pub use Rattle.symbol_path.specs.declared.kinds.Kind.{Kind}
pub use Rattle.symbol_path.specs.declared.kinds.Kind.TheVariants.{Data, Sync}
pub use Rattle.symbol_path.specs.declared.placing.SentSymbols.{SentSymbols}
pub use Rattle.symbol_path.specs.declared.placing.SentSymbols.TheVariants.{Every, Kept}
pub use Rattle.symbol_path.specs.declared.rate_two.Rate2.{Rate2}
pub use Rattle.symbol_path.specs.declared.rate_two.Rate2.TheVariants.{R14400, R1800, R3600, R7200}
