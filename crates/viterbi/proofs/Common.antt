-- What the proofs of this crate cite of what lies below, and of its own definitions.
pub use Rattle.std.proofs.Common.{None, Option, Some, of_z, reverse, sum_by, to_z, vec_len, w64}
pub use Rattle.std.proofs.Math.Facts.{Fits-of_z}
pub use Rattle.std.proofs.Math.Nat.{mul-le-mul_left}
pub use Rattle.std.proofs.lemmas.Bool.{and_parts, cases_eq, cases_lt, cases_order, eqb-true}
pub use Rattle.std.proofs.lemmas.Bool.Decides.{nat_tests}
pub use Rattle.std.proofs.lemmas.Int.{by_lt_z, fits_signed_from_abs, int_wrap_fits, ints, to_z-of_z, wrapping_add-bits, wrapping_sub-bits}
pub use Rattle.std.proofs.lemmas.List.{drop-replicate, drop-set, get_or-map, get_or-replicate, get_or_read, length-map, length-reverse}
pub use Rattle.std.proofs.lemmas.List.{replicate-append-replicate, reverse-append, take-append-le, take-replicate, take_all, with_items_is}
pub use Rattle.std.proofs.lemmas.List.FromFn.{get_or-map-range_with_len, get_or-range_with_len, length-range_with_len}
pub use Rattle.std.proofs.lemmas.List.Sums.{sum_by-cons, sum_by-take-le, sum_by_more}
pub use Rattle.std.proofs.lemmas.Simd.{Each1-from_get_or, Each1-get_or, bit_mask_l, get_or-chunk, get_or-put_chunk_above, get_or-zip2}
pub use Rattle.std.proofs.lemmas.Simd.{get_or-put_chunk_at, get_or-put_chunk_below, length-chunk, length-put_chunk, length-zip2, mask_l-mod}
pub use Rattle.std.proofs.lemmas.Simd.{tops_compared}
pub use Rattle.std.specs.Int.{int_wrap}
unfoldable pub use Rattle.std.specs.Int.{reverse_bits_onto}
pub use Rattle.std.specs.List.{AllZip, list_all, range_with_len}
pub use Rattle.std.specs.Prelude.{IsTrue, if◌then◌else◌, int_lt, nat_le, nat_lt, neg_ℤ, not, ◌&&◌, ◌↔◌}
pub use Rattle.chip_core.proofs.Common.{Bool, FitsSigned, List, [], add-one, and_mask, ap, append-nil, append_assoc, arith, bit_of, cond, ℕ}
pub use Rattle.chip_core.proofs.Common.{common_steps, digit, drop, drop-drop, drop_all, drop_at, drop_more, false, get_or, get_or-drop, inl}
pub use Rattle.chip_core.proofs.Common.{get_or-append_right, get_or-set_other, get_or-set_same, get_or-take, get_or_append_left, inr, map}
pub use Rattle.chip_core.proofs.Common.{get_or_push, length, length-append, length-drop, length-set, length-take-le, nat_eq, negsuc, pos, ℤ}
pub use Rattle.chip_core.proofs.Common.{pow_pos, refl, rules, set, sign, subst, suc, sym, take, take-append-drop, take_at, take_more, true}
pub use Rattle.chip_core.proofs.Common.{unsigned_abs, xor, zero, ⊎_elim, ◌%◌, ◌*ℤ◌, ◌*◌, ◌++◌, ◌+ℤ◌, ◌+◌, ◌-ℤ◌, ◌-◌, ◌/◌, ◌<ℤ◌, ◌<◌, ◌^◌}
pub use Rattle.chip_core.proofs.Common.{◌∙◌, ◌∷◌, ◌≡◌, ◌≢◌, ◌≤ℤ◌, ◌≤◌, ◌⊎◌}
unfoldable pub use Rattle.chip_core.proofs.Common.{binary, places}
pub use Rattle.chip_core.proofs.Greatest.{first_greatest-is, tested, untested}
pub use Rattle.chip_core.proofs.Magnitudes.{abs_signed}
pub use Rattle.chip_core.proofs.Numerals.{number_from-append}
pub use Rattle.chip_core.proofs.RegisterBits.{binary-none, low_bit}
pub use Rattle.chip_core.specs.Packed.{low_first}
pub use Rattle.chip_core.specs.Packing.{digit_again, halved, low_first_below}
pub use Rattle.chip_core.specs.Sums.{IsFirstGreatest, first_greatest}
pub use Rattle.conv_code.proofs.Common.{code_symbols, drop-append-le, ext_get_or, g0, g1, length-binary, length-replicate, replicate}
pub use Rattle.conv_code.proofs.Common.{state_after, symbol}
pub use Rattle.conv_code.proofs.Continued.{code_symbols-none, code_symbols-push, length-code_symbols, length-state_after, state_after-none}
pub use Rattle.conv_code.proofs.Continued.{state_after-append}
pub use Rattle.conv_code.proofs.Distinct.{distinct}
pub use denote.Param.{number}
pub use lib.Lanes.{Each1, Each2, chunk, mask_l, put_chunk, sel_l, top, zip2}
pub use mir.Val.{SFits, bits, hbits}
pub use Rattle.viterbi.specs.Best.{HasStart, IsAllowed, IsBestCodeword, spelled_codeword}
pub use Rattle.viterbi.specs.Codewords.{Codeword, IsBetter, codeword_at, codeword_count, correlation, rank, score_of}
unfoldable pub use Rattle.viterbi.specs.Codewords.{best_codeword}
pub use Rattle.viterbi.specs.Columns.{Agrees, Alive, CanStep, IsGreatest, forced_at, state_before, taken_of, wants}
unfoldable pub use Rattle.viterbi.specs.Columns.{choice_into, metric_from, metric_into, path, path_origin, took}
pub use Rattle.viterbi.specs.Common.{Ends, Free, Survivor, Zero}
pub use Rattle.viterbi.specs.Lanes.{AreEveryOther, AreGreater, Fit, lane_code_of}
unfoldable pub use Rattle.viterbi.specs.Lanes.{gain_by, lane_codes, patterns}
pub use Rattle.viterbi.specs.Laws.{HasSentCodewordAlone, HasSentCodewordBest, HasZeroCodewordBest, IsBestByDefinition, signed}
unfoldable pub use Rattle.viterbi.specs.States.{low_bits}
pub use Rattle.viterbi.specs.Survivors.{Start, better_survivor, end_count, extended_by}
unfoldable pub use Rattle.viterbi.specs.Survivors.{gain_of, survivor_from, survivor_into}
