-- What the proofs of this crate cite of what lies below, and of its own definitions.
pub use Rattle.std.proofs.Common.{SFits, below_more, cond, eqb, eqb-true, get_or-set_other, get_or-set_same, rules, set, w64, ◌&&◌, ◌-ℤ◌}
pub use Rattle.std.proofs.Math.ListN.{get_or-map}
pub use Rattle.std.proofs.lemmas.List.{drop-drop, get_or-replicate, length-drop, length-map, length-set, map-append, set-get_or, take_at}
pub use Rattle.std.proofs.lemmas.List.Elements.{All-append, All-drop, All-from_get_or, All-get_or, All-replicate, All-set}
pub use Rattle.std.proofs.lemmas.Slice.{overwrites, take-put_mid}
pub use Rattle.cdma_io.proofs.Common.{All, Bool, FitsSigned, HasBits, List, [], ap, arith, common_steps, drop, elements, false, get_or, suc}
pub use Rattle.cdma_io.proofs.Common.{get_or-drop, get_or-take, ints, length, length-append, refl, subst, sym, take, to_z-of_z, true, w16}
pub use Rattle.cdma_io.proofs.Common.{w8, zero, ℕ, ℤ, ◌%◌, ◌*◌, ◌++◌, ◌+◌, ◌-◌, ◌/◌, ◌<◌, ◌^◌, ◌∙◌, ◌∷◌, ◌≡◌, ◌≤◌}
pub use Rattle.cell_plan.proofs.Amplitudes.{chip_fits, chip_most, few_channels, most_part_small, scaled_none, scaled_sum, times_moved}
pub use Rattle.cell_plan.proofs.Amplitudes.{signal_of_carriers}
pub use Rattle.cell_plan.proofs.Common.{Carrier, amplitude, amplitudes, carriers, code_point, half_frame_body, length-capsule, level, plus}
pub use Rattle.cell_plan.proofs.Common.{loudness, most_part, of_sample, origin, page_cycle, paging_carrier, repeats_of, sample_of, scaled}
pub use Rattle.cell_plan.proofs.Common.{samples_of, superframes_of, sync_capsule, times, traffic_carrier, unsigned_abs-mul}
unfoldable pub use Rattle.cell_plan.proofs.Common.{walsh}
pub use Rattle.cell_plan.proofs.LaidPages.{IsLaying, cycle_is}
pub use Rattle.cell_plan.proofs.MachineInts.{level_added, product_most, read64}
pub use Rattle.cell_plan.proofs.PageCycles.{bit_more, bit_of_frame, frame_bits-is, frame_is, no_bits}
pub use Rattle.cell_plan.proofs.Pieces.{pieces_are}
pub use Rattle.cell_plan.proofs.SentBits.{before-first, coded, last_before}
pub use Rattle.cell_plan.proofs.SentMessages.{padded, piece_is, piece_more, piece_within, refilled, refilled_is, superframes_few}
pub use Rattle.cell_plan.proofs.SentMessages.{superframes_some, told_early}
pub use Rattle.cell_plan.proofs.TrafficFrames.{made_of}
pub use Rattle.cell_plan.specs.PageCycles.{Cycle, frame_scrambling, paging_frame_size, scrambled}
unfoldable pub use Rattle.cell_plan.specs.PageCycles.{cycle_symbols}
pub use Rattle.cell_plan.specs.Sendings.{bits_before, continued_symbols, superframes_a_sending, sync_frame_bits, told_superframes}
unfoldable pub use Rattle.cell_plan.specs.Sendings.{message_of, sync_symbols}
pub use Rattle.cell_plan.specs.TrafficFrames.{traffic_symbols}
pub use Rattle.cell_plan.specs.Transmitter.{CellState, IsPoint, Sent, phase_at, point_of}
pub use Rattle.cell_plan.specs.declared.plan.CellIdentity.{CellIdentity}
pub use Rattle.cell_plan.specs.declared.plan.CellPlan.{CellPlan}
pub use Rattle.chip_core.proofs.ComplexSums.{origin-plus, plus-origin, plus_assoc}
pub use Rattle.chip_core.proofs.Finds.{any_default}
pub use Rattle.chip_core.proofs.Magnitudes.{abs_difference, abs_sum, sign_unit}
pub use Rattle.chip_core.specs.Bits.{binary, common_parity, places, sign, xor}
pub use Rattle.chip_core.specs.declared.sample.Pair.{Pair}
pub use Rattle.chip_core.specs.declared.sample.Sample.{Sample}
pub use Rattle.chip_core.specs.declared.width.Width.{Width}
unfoldable pub use Rattle.paging_message.specs.Laying.{fill}
pub use Rattle.quality_bits.specs.declared.kind.Kind.TheVariants.{M30}
pub use Rattle.quality_bits.specs.declared.rate.Rate.{Rate}
pub use Rattle.short_code.proofs.Signs.{get_or-pilot_signs, length-pilot_signs}
pub use Rattle.short_code.specs.ShortCode.{chip_signs, pilot_chip, pilot_signs}
pub use Rattle.symbol_path.proofs.Common.{after, and_parts, data_shape, fits_signed_from_abs, length-code_symbols, map, of_z, pos, sent}
pub use Rattle.symbol_path.proofs.Common.{replicate, shape_of, to_z, unsigned_abs, ◌*ℤ◌, ◌+ℤ◌, ◌==◌}
pub use Rattle.symbol_path.specs.declared.kinds.Kind.{Kind}
pub use Rattle.sync_message.specs.declared.fields.SyncFields.{SyncFields}
pub use Rattle.walsh.proofs.Carried.{get_or-transform}
pub use Rattle.walsh.specs.Walsh.{IsWithin, in_phase, quadrature, transform, walsh_sum_from}
pub use borrow.Rule.Slice.PartMut.{put_mid}
pub use lib.Seq.{take-add}
pub use Rattle.cell_samples.specs.Blocks.{AreBlockSums, AreChips, AreFirstLevels, AreLevels, AreQuiet, AreTurned, BlockState, IsKeptBlock}
pub use Rattle.cell_samples.specs.Blocks.{IsLevel, IsQuiet, IsTurned, chip_at, no_sample}
pub use Rattle.cell_samples.specs.Channels.{ChannelState, carrier_of}
pub use Rattle.cell_samples.specs.Continued.{frame_bits_of, frame_size, repeats_in, scrambled_by, symbol_kind_of}
pub use Rattle.cell_samples.specs.declared.frame_source.FrameSource.{FrameSource}
pub use Rattle.cell_samples.specs.declared.frame_source.FrameSource.TheVariants.{Paging, Sync}
