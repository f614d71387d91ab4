-- What the proofs of this crate cite of what lies below, and of its own definitions.
pub use Rattle.std.proofs.Common.{FitsSigned, None, Option, Some, add-one, of_z, pos, to_z, unsigned_abs, ℤ, ◌*ℤ◌, ◌+ℤ◌}
pub use Rattle.std.proofs.Math.Nat.{mod-eq_of_lt, mod-lt, mod_self, mul-le-mul, mul-le-mul_left}
pub use Rattle.std.proofs.Math.Seq.{drop-append-add}
pub use Rattle.std.proofs.lemmas.Int.{fits_signed_from_abs, ints, to_z-of_z, unsigned_abs-mul}
pub use Rattle.std.proofs.lemmas.List.{at_drop_more, get_or-drop, get_or-map, get_or-replicate, get_or-take, length-map, take_more}
pub use Rattle.std.proofs.lemmas.List.Elements.{All-cons, All-nil}
pub use Rattle.std.proofs.lemmas.Option.{same_Some}
pub use Rattle.std.specs.Bool.{beq}
pub use Rattle.std.specs.Int.{w16, w64, w8}
pub use Rattle.std.specs.Option.{option_map_or}
pub use Rattle.std.specs.Prelude.{All, MatchOption, not, option_and_then, option_map, option_to_list}
pub use Rattle.cdma_io.proofs.Common.{Bool, HasBits, List, [], ap, append-nil, arith, drop, false, flat_map, get_or, length, refl}
pub use Rattle.cdma_io.proofs.Common.{integer_width_of, length-append, length-drop, length-take-le, subst, suc, sym, take, true, zero, ℕ}
pub use Rattle.cdma_io.proofs.Common.{◌%◌, ◌*◌, ◌++◌, ◌+◌, ◌-◌, ◌/◌, ◌<◌, ◌^◌, ◌∙◌, ◌∷◌, ◌≡◌, ◌≤◌}
pub use Rattle.chip_core.proofs.BitLists.{taken_more, zip_push}
pub use Rattle.chip_core.proofs.Common.{FieldsFit, cases_lt, map, mod-mul-add, nil_from_length, places, sign, slice_get, xor, zip_with}
unfoldable pub use Rattle.chip_core.proofs.Common.{binary}
pub use Rattle.chip_core.proofs.Magnitudes.{abs_sum, sign_unit}
pub use Rattle.chip_core.proofs.Places.{get_or-map-places, length-map-places, map-places-all, map-places-more, places-none}
pub use Rattle.chip_core.proofs.Ring.{diff-same, diff-times, distrib_right, split}
pub use Rattle.chip_core.specs.Complex.{of_sample, origin, plus, times}
pub use Rattle.chip_core.specs.declared.sample.Sample.{Sample}
pub use Rattle.conv_code.specs.ConvCode.{code_symbols, state_after}
pub use Rattle.paging_message.proofs.Carried.{laid_is_carried, rate_large}
pub use Rattle.paging_message.proofs.Common.{HasMessage, flat_map-places-more, flat_map-zero, le-ltb, length-binary, replicate}
pub use Rattle.paging_message.proofs.Common.{length-replicate, map-append, take_all, ◌==◌}
pub use Rattle.paging_message.proofs.Layings.{padded_framed}
pub use Rattle.quality_bits.proofs.Wholes.{length-capsule, whole-capsule}
pub use Rattle.quality_bits.specs.TrafficCodewords.{repeats_of}
pub use Rattle.short_code.specs.Despread.{code_point}
pub use Rattle.symbol_path.specs.declared.rate_two.Rate2.{Rate2}
pub use Rattle.sync_message.proofs.Bodies.{admitted, fixed_fit, length-body, tail_of}
pub use Rattle.sync_message.specs.Framing.{superframes_of}
pub use Rattle.sync_message.specs.SyncMessage.{IsSyncMessage, fixed_fields, sync_body}
pub use Rattle.cell_plan.specs.Common.{CellIdentity, CellPlan, CheckForm, Eight, M30, Page, PagingPlan, Pair, Rate, Sixteen, SyncFields}
pub use Rattle.cell_plan.specs.Common.{SyncPlan, TrafficPlan, Width, bits_left, capsule, half_frame_body}
unfoldable pub use Rattle.cell_plan.specs.Common.{sync_capsule, walsh}
pub use Rattle.cell_plan.specs.Pages.{AreSendable, laid_after, put_of}
unfoldable pub use Rattle.cell_plan.specs.Pages.{page_cycle}
pub use Rattle.cell_plan.specs.Plan.{gain_sum, loudness, most_part, paging_gains, sync_gain, traffic_gains}
pub use Rattle.cell_plan.specs.Sendings.{padded_sending, superframes_a_sending}
unfoldable pub use Rattle.cell_plan.specs.Sendings.{bits_before, continued_symbols, message_of, sync_frame_bits}
pub use Rattle.cell_plan.specs.Signal.{Carrier, amplitude, amplitudes, level, level_of, paging_carrier, pilot_carrier, scaled, symbol_of}
pub use Rattle.cell_plan.specs.Signal.{sync_carriers, traffic_carrier}
unfoldable pub use Rattle.cell_plan.specs.Signal.{carriers, sample_of, samples_of, sent_chip}
pub use Rattle.cell_plan.specs.Stated.{AreHeard, IsCarried, IsStatedPaging}
pub use Rattle.cell_plan.specs.TrafficFrames.{FrameAt, SetOneFrame, SetTwoFrame, all_of_set, frame_of_set, frames_in_turn, frames_of_set}
pub use Rattle.cell_plan.specs.TrafficFrames.{in_set_one, in_set_two, planned, set_one, set_two}
pub use Rattle.cell_plan.specs.declared.traffic_frame.FrameRate.{FrameRate}
pub use Rattle.cell_plan.specs.declared.traffic_frame.FrameRate.TheVariants.{SetOne, SetTwo}
pub use Rattle.cell_plan.specs.declared.traffic_frame.TrafficFrame.{TrafficFrame}
