-- What the proofs of this crate cite of what lies below, and of its own definitions.
pub use Rattle.std.proofs.Common.{None, Ok, Some, below_more, set}
pub use Rattle.std.proofs.lemmas.List.{ext_get_or, get_or-set_other, get_or-set_same, length-set}
pub use Rattle.std.proofs.lemmas.List.FromFn.{length-map-range_with_len}
unfoldable pub use Rattle.std.specs.Fmt.{digits}
pub use Rattle.cell_plan.proofs.Common.{le-ltb, length-binary, length-map-places, map-places-more, option_map, places-none, ◌==◌}
pub use Rattle.cell_plan.specs.declared.plan.CellIdentity.{CellIdentity}
pub use Rattle.cell_plan.specs.declared.plan.CellPlan.{CellPlan}
pub use Rattle.cell_plan.specs.declared.plan.Page.{Page}
pub use Rattle.cell_plan.specs.declared.plan.SyncPlan.{SyncPlan}
pub use Rattle.cell_plan.specs.declared.plan.TrafficPlan.{TrafficPlan}
pub use Rattle.cell_plan.specs.declared.traffic_frame.FrameRate.{FrameRate}
pub use Rattle.cell_plan.specs.declared.traffic_frame.FrameRate.TheVariants.{SetOne, SetTwo}
pub use Rattle.cell_plan.specs.declared.traffic_frame.RateSet.{RateSet}
pub use Rattle.cell_plan.specs.declared.traffic_frame.RateSet.TheVariants.{One}
pub use Rattle.cell_plan.specs.declared.traffic_frame.TrafficFrame.{TrafficFrame}
pub use Rattle.cell_script.proofs.Common.{Draft, IsState, IsStatedCell, IsTrafficFrame, append_assoc, codes, cond-false, cond-true, named}
pub use Rattle.cell_script.proofs.Common.{draft_at, empty_draft, empty_plan, eqb-false, lines_of, one_frame_more, opened_paging, plan_fault}
pub use Rattle.cell_script.proofs.Common.{rate_set, statement_line, statement_text, statements_of, unless, with_frame, ◌≢◌}
unfoldable pub use Rattle.cell_script.proofs.Common.{written_traffic, written_paging, length_before, packed_octets, written_frame, bit_text}
unfoldable pub use Rattle.cell_script.proofs.Common.{written_pilot, bits_in_text, number_up_to, past_numbers, script_field, statement_in}
unfoldable pub use Rattle.cell_script.proofs.Common.{written_cell, written_link, written_page, written_sync, stated_plan, numbers_in, fill}
unfoldable pub use Rattle.cell_script.proofs.Common.{page_stage, plan_named, sync_after, bits_left, past_freq, script_of, signed_in, admits}
unfoldable pub use Rattle.cell_script.proofs.Common.{with_next, hex_bits, freq_in, is_body, link_in, sync_in, padded, past}
pub use Rattle.cell_script.proofs.LastChanged.{on_last-last}
pub use Rattle.cell_script.proofs.StatedLines.{Leads, leads_to_plan, none_leads}
pub use Rattle.cell_script.proofs.WrittenPlans.{first_leads}
pub use Rattle.cell_script.specs.ScriptStages.{after_frame, after_traffic, count_after, frames_stage}
pub use Rattle.cell_script.specs.declared.stage.Stage.{Stage}
pub use Rattle.cell_script.specs.declared.stage.Stage.TheVariants.{FirstFrame, FirstPage, Frames, Link, Pages, Paging, Pilot, Sync}
pub use Rattle.cell_script.specs.declared.statements.PagingLine.{PagingLine}
pub use Rattle.cell_script.specs.declared.statements.Statement.{Statement}
pub use Rattle.cell_script.specs.declared.statements.TrafficLine.{TrafficLine}
pub use Rattle.chip_core.proofs.Common.{Bool, List, [], ap, append-nil, arith, false, get_or, get_or_from_slice_get, length, length-append}
pub use Rattle.chip_core.proofs.Common.{map, refl, subst, suc, sym, true, ℕ, ◌%◌, ◌*◌, ◌++◌, ◌+◌, ◌<◌, ◌^◌, ◌∙◌, ◌∷◌, ◌≡◌, ◌≤◌}
unfoldable pub use Rattle.chip_core.proofs.Common.{binary, digits_from, places}
pub use Rattle.chip_core.specs.declared.width.Width.TheVariants.{Sixteen}
unfoldable pub use Rattle.hex.specs.Hex.{decode_pairs, encode_with}
pub use Rattle.quality_bits.specs.declared.rate.Rate.TheVariants.{R9600}
pub use Rattle.trial_link.specs.Trial.{bits_of_frame, drawn, followed_line, frame_drawn, past_draw, past_frame, second_line, state_of_draws}
pub use Rattle.trial_link.specs.Trial.{third_line, traffic_plan_of, trial_link, trial_paging, trial_traffic}
unfoldable pub use Rattle.trial_link.specs.Trial.{bits_drawn, frames_drawn, other_frame, past_draws, past_frames, trial_cell, trial_frames}
unfoldable pub use Rattle.trial_link.specs.Trial.{trial_page, trial_plan, trial_serial_number, trial_sync, trial_text}
