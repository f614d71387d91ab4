-- What the proofs of this crate cite of what lies below, and of its own definitions.
pub use Rattle.std.proofs.Common.{Err, IsOk, None, Ok, OnOk, Option, Result, Some, decimal, is_some, nat_eq, slice_index, unwrap_or, ◌≢◌}
pub use Rattle.std.proofs.Math.ListN.{set}
pub use Rattle.std.proofs.Math.Nat.{pow-le-pow_right}
pub use Rattle.std.proofs.Math.Seq.{drop-append_seam, take-append_seam}
pub use Rattle.std.proofs.lemmas.Bool.{cond-false, cond-true, cond_both, false≢true, ltb-false, or_parts, or_right}
pub use Rattle.std.proofs.lemmas.Fmt.{digits_decimal, length-decimal-le}
pub use Rattle.std.proofs.lemmas.List.{get_or-replicate, get_or-set_other, get_or-set_same, length-map, length-set, length-take}
pub use Rattle.std.proofs.lemmas.List.Elements.{All-cons, All-head, All-map, All-nil, All-push, All-tail, All-weaker}
pub use Rattle.std.proofs.lemmas.Nat.{from_be_bytes-to_be_bytes_4, from_be_bytes-to_be_bytes_8, mul-le}
pub use Rattle.std.proofs.lemmas.Option.{cond_some, same_Some}
pub use Rattle.std.specs.Char.{digit_value, is_ascii_digit}
pub use Rattle.std.specs.Cmp.Lexicographic.{pointwise}
pub use Rattle.std.specs.Fmt.{signed_decimal}
pub use Rattle.std.specs.Int.{byte_at, bytes_high_first, to_be_bytes, w16, w32, w64}
pub use Rattle.std.specs.Option.{option_map_or, option_or}
pub use Rattle.std.specs.Prelude.{FitsSigned, IsAscii, codes, flat_map, negsuc, ok_or, option_and_then, option_map, pos}
pub use Rattle.cdma_io.proofs.Common.{All, common_steps, drop, inl, inr, ints, length-drop, most_samples, take_all, to_z-of_z, ℤ}
pub use Rattle.cell_plan.proofs.CarriedPages.{channel_carried, heard_messages}
pub use Rattle.cell_plan.proofs.Common.{FieldsFit, HasMessage, IsSyncMessage, admitted, cases_lt, fixed_fields, fixed_fit, le-ltb, map, not}
pub use Rattle.cell_plan.proofs.Common.{length-replicate, map-append, of_z, replicate, tail_of, to_z, unsigned_abs, ◌==◌}
pub use Rattle.cell_plan.proofs.MachineInts.{read64}
pub use Rattle.cell_plan.specs.Pages.{AreSendable, half_frame_bits, laid_after, sent_paging_rate}
pub use Rattle.cell_plan.specs.Plan.{AreLawfulBeside, HaveOwnNumbers, HaveOwnTrafficRows, IsFreeOf, IsLawfulPlan, IsPagingPlan, IsSyncPlan}
pub use Rattle.cell_plan.specs.Plan.{IsTrafficPlan, loudness, most_part, paging_gains, sync_gain, traffic_gains}
pub use Rattle.cell_plan.specs.Stated.{AreHeard, HasMessages, HasSaid, IsCarried, IsReceivable, IsStatedCell, IsStatedLink, IsStatedPaging}
pub use Rattle.cell_plan.specs.Stated.{IsStatedPlan, IsStatedSync, IsStatedTraffic}
pub use Rattle.cell_plan.specs.declared.traffic_frame.RateSet.{RateSet}
pub use Rattle.cell_plan.specs.declared.traffic_frame.RateSet.TheVariants.{One, Two}
pub use Rattle.chip_core.proofs.Magnitudes.{abs_fits}
pub use Rattle.chip_core.specs.Complex.{norm}
pub use Rattle.chip_core.specs.declared.check_form.CheckForm.{CheckForm}
pub use Rattle.hex.proofs.HexLemmas.{decode_of-encode_lower, length-encode_with}
pub use Rattle.hex.specs.Hex.{IsBytes, encode_lower, lower_digits}
unfoldable pub use Rattle.hex.specs.Hex.{encode_with}
pub use Rattle.line_text.proofs.Common.{Bool, List, [], all_ascii_digits, ap, arith, digit_of, false, get_or, length, octet_count, refl, ℕ}
pub use Rattle.line_text.proofs.Common.{subst, suc, sym, take, true, zero, ◌*◌, ◌++◌, ◌+◌, ◌-◌, ◌/◌, ◌<◌, ◌^◌, ◌∙◌, ◌∷◌, ◌≡◌, ◌≤◌}
unfoldable pub use Rattle.line_text.proofs.Common.{bit_text, digits_of, packed_octets, padded, serial_digits, state_digits}
pub use Rattle.line_text.proofs.Digits.{all_below, length-packed}
pub use Rattle.line_text.proofs.Numerals.{one_numeral, one_signed_numeral, own_numerals}
pub use Rattle.line_text.proofs.StatedTexts.{before-mark, before-none, before-other, before_most, hex_digit_more, hex_from-digit}
pub use Rattle.line_text.proofs.StatedTexts.{hex_from-none}
pub use Rattle.line_text.specs.StatedValues.{all_clear, as_state, begins_with, binary_digit, hex_digit, number_in, octets_in, text_after}
pub use Rattle.line_text.specs.StatedValues.{unpadded, up_to}
unfoldable pub use Rattle.line_text.specs.StatedValues.{bits_in_text, digits_after, hex_bits, hex_from, length_before, number_up_to}
unfoldable pub use Rattle.line_text.specs.StatedValues.{power_bits_in, serial_number_in, signed_in, state_in}
pub use Rattle.long_code.proofs.Common.{append-nil, length-append, length-take-le, number_lt}
pub use Rattle.paging_message.proofs.Common.{FillsCapsule, IfSome, IsPagingMessage, and_from, and_parts, append_assoc, cond, eq-eqb, le-leb}
pub use Rattle.paging_message.proofs.Common.{eqb-false, eqb-true, flat_map-append, leb-true, lt-leb, lt-ltb, message_at, message_body, ◌&&◌}
pub use Rattle.paging_message.proofs.Common.{nat_le, nat_lt, ne_eqb, number, number_at, rules, take-append-drop, ◌||◌}
unfoldable pub use Rattle.paging_message.proofs.Common.{admits, bits_left, body_reading, fill, is_body}
pub use Rattle.paging_message.proofs.Messages.{message_fills}
pub use Rattle.paging_message.proofs.Readings.{body_is_read, reads_body}
pub use Rattle.paging_message.specs.declared.message.PagingMessage.{PagingMessage}
pub use Rattle.quality_bits.proofs.Digits.{binary-number}
pub use Rattle.quality_bits.specs.declared.kind.Kind.TheVariants.{M30}
pub use Rattle.quality_bits.specs.declared.rate.Rate.{Rate}
pub use Rattle.symbol_path.proofs.Common.{IsState, cases_eq, ltb-true, not-true, ◌%◌}
unfoldable pub use Rattle.symbol_path.proofs.Common.{binary}
pub use Rattle.sync_message.specs.Tails.{IsTail}
pub use Rattle.cell_script.specs.Common.{CellIdentity, CellPlan, Complemented, FrameRate, IsTrafficFrame, LinkPlan, Page, PagingPlan, Plain}
pub use Rattle.cell_script.specs.Common.{PilotPlan, R4800, R9600, ScriptFault, SetOne, SetTwo, Statement, SyncFields, SyncPlan, TrafficLine}
pub use Rattle.cell_script.specs.Common.{TrafficFrame, TrafficPlan, Width, half_frame_body, information_bits_of, rate_set}
pub use Rattle.cell_script.specs.LineForms.{AreIn, IsIn, IsSaid, LineForm, StatementRow, TextForm, ValueOf, Values, fields_in, fields_text}
pub use Rattle.cell_script.specs.LineForms.{lawful_line, past_fields, read_as, reader_of, writer_of, written_as}
pub use Rattle.cell_script.specs.LineForms.TextForm.{BitList, SixteenDigits, Tabled}
pub use Rattle.cell_script.specs.Rows.{AreUpTo, NumberRow, key_of, local_rows, network_rows, ranged}
unfoldable pub use Rattle.cell_script.specs.Rows.{numbers_in, past_numbers}
pub use Rattle.cell_script.specs.Script.{ChannelLine, channel, channel_lines, first_channels, gain_fault, is_used, long_fault, loud_fault}
pub use Rattle.cell_script.specs.Script.{named, onto_first, paging_lines, plan_fault, repeated, repeated_after, silent, sync_gain_fault}
pub use Rattle.cell_script.specs.Script.{traffic_lines, unless, walsh_fault}
unfoldable pub use Rattle.cell_script.specs.Script.{draft_after, is_line, lines, plan_named, stated, stated_plan}
pub use Rattle.cell_script.specs.ScriptDrafts.{Draft, draft_at, empty_draft, empty_plan, on_last, one_frame_more, one_page_more, plan_at}
pub use Rattle.cell_script.specs.ScriptDrafts.{opened_paging, opened_traffic, with_frame, with_page, with_statement}
unfoldable pub use Rattle.cell_script.specs.ScriptDrafts.{with_line, with_next}
pub use Rattle.cell_script.specs.ScriptFields.{at_end, keyed, value_of}
unfoldable pub use Rattle.cell_script.specs.ScriptFields.{past, script_field}
pub use Rattle.cell_script.specs.ScriptJudged.{HasJudged, HasSeen, IsInOrder, IsJudged, gains_of, judged_fault}
pub use Rattle.cell_script.specs.ScriptLines.{cell_line, cell_statement, check_form, form_bit, frame_rate, frame_statement, gain_row}
pub use Rattle.cell_script.specs.ScriptLines.{has_lawful_rest, is_link, lawful_message, link_statement, page_statement, paging_statement}
pub use Rattle.cell_script.specs.ScriptLines.{pilot_statement, rate_by, sync_fields, traffic_statement}
unfoldable pub use Rattle.cell_script.specs.ScriptLines.{cell_in, freq_in, link_in, paging_in, past_freq, pilot_in, stated_page_in, sync_in}
unfoldable pub use Rattle.cell_script.specs.ScriptLines.{statement_in, sync_after, traffic_frame_in, traffic_in}
pub use Rattle.cell_script.specs.ScriptPlans.{IsLawfulStatement}
unfoldable pub use Rattle.cell_script.specs.ScriptSplitting.{first_stated}
pub use Rattle.cell_script.specs.ScriptStages.{after_frame, after_page, after_paging, after_traffic, count_after, is_complete, is_cycle}
pub use Rattle.cell_script.specs.ScriptStages.{may_follow, next_stage, stage_after_sync}
unfoldable pub use Rattle.cell_script.specs.ScriptStages.{page_stage}
pub use Rattle.cell_script.specs.Spelling.{line_of_paging, line_of_traffic, lines_of, local_values, network_values, numbers_text}
pub use Rattle.cell_script.specs.Spelling.{paging_statements, statement_line, statement_text, statements_of, sync_statements, written_freq}
pub use Rattle.cell_script.specs.Spelling.{traffic_statements, with_line_feed}
unfoldable pub use Rattle.cell_script.specs.Spelling.{script_of, written_cell, written_frame, written_link, written_page, written_paging}
unfoldable pub use Rattle.cell_script.specs.Spelling.{written_pilot, written_sync, written_traffic}
pub use Rattle.cell_script.specs.declared.judge.ChannelRows.{ChannelRows}
pub use Rattle.cell_script.specs.declared.judge.Judge.{Judge}
pub use Rattle.cell_script.specs.declared.script_fault.ScriptFault.TheVariants.{Gain, Line, TooBig, Walsh}
pub use Rattle.cell_script.specs.declared.stage.Stage.{Stage}
pub use Rattle.cell_script.specs.declared.stage.Stage.TheVariants.{Cell, FirstFrame, FirstPage, Frames, Link, Pages, Paging, Pilot, Sync}
pub use Rattle.cell_script.specs.declared.stage.Stage.TheVariants.{Traffic}
pub use Rattle.cell_script.specs.declared.statements.PagingLine.{PagingLine}
