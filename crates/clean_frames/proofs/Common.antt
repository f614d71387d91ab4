-- What the proofs of this crate cite of what lies below, and of its own definitions.
pub use Rattle.std.proofs.Common.{filter, mul-le-mul_right, nat_le, nat_lt, ⊎_elim}
pub use Rattle.std.proofs.Math.Nat.{mul-add-div}
pub use Rattle.std.proofs.Math.Seq.{take-nil}
pub use Rattle.std.proofs.lemmas.List.{take-replicate}
pub use Rattle.std.proofs.lemmas.Nat.{le-div}
pub use Rattle.std.proofs.lemmas.Simd.{map-map}
pub use Rattle.cell_plan.proofs.CarriedPages.{puts_lawful}
pub use Rattle.cell_plan.proofs.Common.{IsStatedPaging, length-body, length-capsule, padded_sending, put_of, sync_body, whole-capsule}
unfoldable pub use Rattle.cell_plan.proofs.Common.{message_of, page_cycle, sync_capsule, sync_frame_bits}
pub use Rattle.cell_plan.proofs.LaidPages.{size_large}
pub use Rattle.cell_plan.proofs.SentMessages.{length-sending, length-sync}
unfoldable pub use Rattle.cell_plan.specs.PageCycles.{cycled}
pub use Rattle.cell_plan.specs.Pages.{laid_pages}
pub use Rattle.chip_core.proofs.Counted.{map-add, take-map-places}
pub use Rattle.chip_core.proofs.Repeated.{flat_map-repeated, get_or-repeated, length-repeated, repeated, repeated-part}
pub use Rattle.paging_message.proofs.Carried.{run_pieces_whole, stream-next}
pub use Rattle.paging_message.proofs.Common.{Bool, FillsCapsule, List, None, Option, Piece, Some, [], and_from, and_left, and_right, ap, ℕ}
pub use Rattle.paging_message.proofs.Common.{append-nil, append_assoc, arith, bodies, cases_Bool, cases_lt, div-add-mod', div-mul-add, drop}
pub use Rattle.paging_message.proofs.Common.{drop-drop, drop_at, false, flat_map, flat_map-add, flat_map-append, flat_map-next, get_or, inl}
pub use Rattle.paging_message.proofs.Common.{flat_map-nothing, flat_map-zero, flat_map_ext_places, from_last_start, if◌then◌else◌, inr, map}
pub use Rattle.paging_message.proofs.Common.{le-leb, le-ltb, length, length-append, length-map-places, length-replicate, length-take-le}
pub use Rattle.paging_message.proofs.Common.{lt-leb, lt-ltb, map-append, map-next, map-zero, mod-mul-add, mod_below, mul-le-mul_left, piece}
pub use Rattle.paging_message.proofs.Common.{ne_eqb, number, option_to_list, refl, replicate, replicate-append-replicate, stated_bits, suc}
pub use Rattle.paging_message.proofs.Common.{subst, sym, take, take-add, take-append-add, take-append-le, take-take, take_at, true, zero}
pub use Rattle.paging_message.proofs.Common.{◌%◌, ◌&&◌, ◌*◌, ◌++◌, ◌+◌, ◌-◌, ◌/◌, ◌<◌, ◌==◌, ◌∙◌, ◌∷◌, ◌≡◌, ◌≤◌}
pub use Rattle.paging_message.proofs.LaidRuns.{AreChainedRuns, AreSome, first_put_begins, first_puts_chained, first_puts_laid, joined-push}
pub use Rattle.paging_message.proofs.LaidRuns.{put-begins, put-follows, runs_pieces, runs_put, turned_back, whole_rows}
pub use Rattle.paging_message.proofs.Pieces.{first_starts, length-run, none_starts, run, run-append, run-push, started_after}
pub use Rattle.paging_message.proofs.Runs.{AreChained, ended-after, ended-before, ended-past, ended_of, ending_at, fills, first_bits_told}
pub use Rattle.paging_message.proofs.Runs.{joined, later_begins_none, no_width, run_piece, run_pieces, run_scanned, run_width, width}
pub use Rattle.paging_message.proofs.Runs.{run_width_some}
pub use Rattle.paging_message.proofs.Scans.{AreWhole, NoneStarts, bits_of, ended_by-append, ended_by_bits, half_frame_ends, length-stream}
pub use Rattle.paging_message.proofs.Scans.{no_piece, none_starts-map, scan, scan-append, scan_silent, stream, told_in, whole-append}
pub use Rattle.paging_message.proofs.Scans.{whole-map, with_number, zeros_end_none}
pub use Rattle.quality_bits.specs.Capsules.{octets}
unfoldable pub use Rattle.quality_bits.specs.Capsules.{front_capsule, is_stated}
pub use Rattle.quality_bits.specs.Pieces.{but_last}
unfoldable pub use Rattle.quality_bits.specs.Pieces.{capsule_ending}
pub use Rattle.symbol_path.proofs.Common.{div_below, filter-append}
pub use Rattle.clean_frames.specs.Common.{AreHeard, AreSendable, CellPlan, CheckForm, M30, Page, PagingPlan, Rate, SyncFields, capsule}
pub use Rattle.clean_frames.specs.Common.{half_frame_body, half_frame_capsule_ending, paging_frame_size, places, superframes_a_sending}
pub use Rattle.clean_frames.specs.WholePages.{AreWholePages, PageSendingsComeBack, Placed, WholePagesComeBack, capsules_with_frames, placed}
pub use Rattle.clean_frames.specs.WholePages.{cycle_half_frames, frame_capsules, is_between, is_whole_page, sending_of}
