-- What the proofs of this crate cite of what lies below, and of its own definitions.
pub use Rattle.std.proofs.Common.{All, below_more, filter, ◌||◌}
pub use Rattle.std.proofs.Math.Bool.{beq, or-false}
pub use Rattle.std.proofs.Math.Seq.{take-add}
pub use Rattle.std.proofs.lemmas.Bool.{cases_Bool, cases_eq, cases_lt, eq-eqb, ne_eqb}
pub use Rattle.std.proofs.lemmas.List.{at_drop_more, drop-take, get_or_past, set_past, take-take}
pub use Rattle.std.proofs.lemmas.List.Elements.{All-cons, All-head, All-nil, All-tail}
pub use Rattle.std.proofs.lemmas.List.Folds.{list_all_more, list_any-append}
pub use Rattle.std.proofs.lemmas.List.Sums.{get_or-le-sum_by, sum_by-append, sum_by-cons, sum_by-set, sum_by-take-drop, sum_by-take-le}
pub use Rattle.std.proofs.lemmas.Slice.{take-put_mid}
pub use Rattle.std.specs.Bool.{Decides, one_answer}
pub use Rattle.std.specs.Cmp.{booleans_Decides}
pub use Rattle.std.specs.Cmp.Lexicographic.{pointwise, pointwise_decides}
pub use Rattle.std.specs.Int.{w64}
pub use Rattle.std.specs.List.{AllZip, find, flat_map, range_with_len}
pub use Rattle.std.specs.List.Sorted.{IsStrictlyIncreasing}
pub use Rattle.std.specs.Option.{option_map}
pub use Rattle.std.specs.Prelude.{IsTrue, None, Option, Some, if◌then◌else◌, int_lt, neg_ℤ, ◌*ℤ◌, ◌<ℤ◌, ◌↔◌}
pub use Rattle.chip_core.proofs.Counted.{flat_map-next, flat_map-zero}
unfoldable pub use Rattle.chip_core.specs.Sums.{first_greatest}
pub use Rattle.chip_core.specs.declared.check_form.CheckForm.TheVariants.{Plain}
pub use Rattle.quality_bits.proofs.Ends.{length-quality_indicator}
pub use Rattle.quality_bits.specs.Kinds.{IsChecked, body_length, generator_of, quality_indicator, quality_length}
pub use Rattle.quality_bits.specs.Quality.{check_bits}
pub use Rattle.quality_bits.specs.declared.rate.Rate.TheVariants.{R1200, R2400, R4800, R9600}
pub use Rattle.symbol_path.proofs.Agreement.{agreement-gathered, agreement-gathered_by, length-gathered, length-gathered_by, length-sent}
pub use Rattle.symbol_path.proofs.Agreement.{length-sent_by}
pub use Rattle.symbol_path.proofs.Common.{Bool, List, [], add-one, address, ap, arith, binary, bits_in, code_symbols, cond, data_shape, inl}
pub use Rattle.symbol_path.proofs.Common.{false, gathered, get_or, get_or-map-places, get_or-set_other, get_or-set_same, inr, ints, length}
pub use Rattle.symbol_path.proofs.Common.{length-code_symbols, length-map-places, length-set, map, map-places-all, nat_eq, not, place_in, ℕ}
pub use Rattle.symbol_path.proofs.Common.{places, places_is, pos, refl, repeated_symbol, replicate, reverse, rules, sent, set, shape_of, ℤ}
pub use Rattle.symbol_path.proofs.Common.{sign, size, subst, suc, sum_by, sym, take, to_z-of_z, true, unsigned_abs, zero, ⊎_elim, ◌&&◌, ◌*◌}
pub use Rattle.symbol_path.proofs.Common.{◌++◌, ◌+ℤ◌, ◌+◌, ◌-◌, ◌<◌, ◌^◌, ◌∙◌, ◌∷◌, ◌≡◌, ◌≢◌, ◌≤◌, ◌⊎◌}
pub use Rattle.symbol_path.proofs.Gathering.{added_fits, stored_is}
pub use Rattle.symbol_path.proofs.Interleaving.{count_is, size_some, symbol_lt}
pub use Rattle.symbol_path.proofs.Permutation.{address_lt}
pub use Rattle.symbol_path.proofs.SentOnceTwo.{kept_lt}
pub use Rattle.symbol_path.specs.declared.kinds.Kind.{Kind}
pub use Rattle.symbol_path.specs.declared.kinds.Kind.TheVariants.{Data}
pub use Rattle.viterbi.proofs.Common.{Codeword, FitsSigned, IsAllowed, IsBestCodeword, IsFirstGreatest, append_assoc, codeword_at, drop}
pub use Rattle.viterbi.proofs.Common.{codeword_count, correlation, drop_all, drop_at, ext_get_or, first_greatest-is, get_or-replicate, ◌≤ℤ◌}
pub use Rattle.viterbi.proofs.Common.{get_or-take, length-append, length-binary, length-drop, length-replicate, length-reverse, negsuc}
pub use Rattle.viterbi.proofs.Common.{length-take-le, pow_pos, score_of, spelled_codeword, take_all, take_at, take_more, tested, untested}
unfoldable pub use Rattle.viterbi.proofs.Common.{best_codeword}
pub use Rattle.viterbi.proofs.Sent.{zero_codeword_best, zeros_score}
pub use Rattle.viterbi.proofs.Unique.{allowed_at, by_definition, codeword_at_allowed}
pub use borrow.Rule.Slice.PartMut.{put_mid}
pub use Rattle.frame_decoder.specs.Common.{FrameFormat, Free, Rate, Zero}
pub use Rattle.frame_decoder.specs.Formats.{IsFormat, better, candidate_in, candidate_of, format_of, frame_in, gathered_in, good_or}
pub use Rattle.frame_decoder.specs.Formats.{is_right, not_good, preferred, repeated_in, rising_choice, score_in, shown_of, symbols_in}
unfoldable pub use Rattle.frame_decoder.specs.Formats.{codeword_in, frame_of}
pub use Rattle.frame_decoder.specs.Laws.{AgreeElsewhere, IsNothingGood, IsOneFrame, IsSentFrameDecoded, ShowSymbols, kept_count}
pub use Rattle.frame_decoder.specs.Replaced.{is_replaced}
unfoldable pub use Rattle.frame_decoder.specs.Replaced.{unreplaced}
pub use Rattle.frame_decoder.specs.Signs.{DecodesBySigns, HasSign, IsDecodedBySigns, KeepSigns}
pub use Rattle.frame_decoder.specs.Spans.{Channel, channel_of, gathered_span, own_bits, score, sending, sent_frames}
pub use Rattle.frame_decoder.specs.TrafficFrames.{as_decoded, frame_bits, group_sum, is_up, lower_formats, lower_rates, power_bit}
pub use Rattle.frame_decoder.specs.TrafficFrames.{summed_subchannels}
unfoldable pub use Rattle.frame_decoder.specs.TrafficFrames.{decoded}
pub use Rattle.frame_decoder.specs.declared.formats.DecodedFrame.{DecodedFrame}
