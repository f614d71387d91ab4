-- What the proofs of this crate cite of what lies below, and of its own definitions.
pub use Rattle.std.proofs.Common.{All, Err, None, Ok, Option, Some, if◌then◌else◌, not, replicate, rules, ◌||◌}
pub use Rattle.std.proofs.Math.Bool.{or-false}
pub use Rattle.std.proofs.Math.Nat.{div-add-mod, div-add-mod', mod-eq_of_lt, mod-lt, mod_self, mul-add-mod_self_left, mul-le-mul_left}
pub use Rattle.std.proofs.Math.Seq.{take-add, take-append-add}
pub use Rattle.std.proofs.lemmas.Bool.{and_from, and_left, and_right, cases_order, eqb-false, false_from_ne_true, le-ltb}
pub use Rattle.std.proofs.lemmas.List.{drop-append-le, drop_all, get_or_default, map-append, replicate-append-replicate}
pub use Rattle.std.proofs.lemmas.List.Folds.{list_any-append}
pub use Rattle.std.proofs.lemmas.Nat.{div-mul-add, mod-mul-add, mod_below}
pub use Rattle.std.specs.List.{flat_map, list_all, list_any, range_with_len}
pub use Rattle.std.specs.Option.{option_to_list}
pub use Rattle.std.specs.Prelude.{IfSome, IsSome, IsTrue, ◌↔◌}
pub use Rattle.chip_core.proofs.Common.{Bool, List, [], ap, append-nil, append_assoc, arith, binary, cases_Bool, cases_lt, cond, drop, inl}
pub use Rattle.chip_core.proofs.Common.{drop-drop, drop_at, eq-eqb, eqb-true, false, flat_map-append, get_or, inr, le-leb, length, lt-leb}
pub use Rattle.chip_core.proofs.Common.{length-append, length-drop, length-take-le, map, nat_le, nat_lt, ne_eqb, nil_from_length, number, ℕ}
pub use Rattle.chip_core.proofs.Common.{refl, subst, suc, sym, take, take-append-drop, take_at, true, zero, ◌%◌, ◌&&◌, ◌*◌, ◌++◌, ◌+◌, ◌-◌}
pub use Rattle.chip_core.proofs.Common.{◌/◌, ◌<◌, ◌^◌, ◌∙◌, ◌∷◌, ◌≡◌, ◌≤◌}
pub use Rattle.chip_core.proofs.Counted.{flat_map-add, flat_map-next, flat_map-nothing, flat_map-zero, map-next, map-zero}
pub use Rattle.chip_core.proofs.Places.{length-map-places, map-places-all, map-places-more, places-none}
pub use Rattle.chip_core.proofs.Ranges.{flat_map-places-more, flat_map_ext_places, map_ext_places}
pub use Rattle.message_layout.proofs.Columns.{record_fit}
pub use Rattle.message_layout.proofs.Common.{IsOf, MessageShape, after_front, count_in, drop-take, fit_value, front, mapped, number_at}
pub use Rattle.message_layout.proofs.Common.{number_front, number_part, plain_shape, reading, shape, spelling, take-take, ◌==◌}
unfoldable pub use Rattle.message_layout.proofs.Common.{is_lawful}
pub use Rattle.message_layout.proofs.Loops.{not_both}
pub use Rattle.message_layout.proofs.Messages.{both_columns, first_column, mapped_cond, mapped_some, no_columns}
pub use Rattle.message_layout.proofs.Parts.{guard_some, number_again, number_there}
pub use Rattle.message_layout.proofs.Plain.{has_length, list_said, plain_back, plain_reading, rest_back}
pub use Rattle.message_layout.proofs.Round.{reading_again, reading_there}
pub use Rattle.quality_bits.proofs.Common.{and_parts, awaits_more, completed, continued, leb-true, length-binary, length-replicate, lt-ltb}
pub use Rattle.quality_bits.proofs.Common.{take-append-le, take_all, taken_more}
unfoldable pub use Rattle.quality_bits.proofs.Common.{front_capsule, places}
pub use Rattle.quality_bits.proofs.Decoded.{AreRead, decodes_capsule, decodes_no_capsule, one_message, read_by_spelling, turned_back}
pub use Rattle.quality_bits.proofs.Opened.{stated_bounds, stated_from}
pub use Rattle.quality_bits.proofs.Streams.{bodies-more, extended, from_last_start_more, from_last_start_new}
pub use Rattle.quality_bits.specs.Pieces.{Piece, bodies, from_last_start, piece}
pub use Rattle.quality_bits.specs.declared.rate.Rate.{Rate}
pub use Rattle.quality_bits.specs.declared.rate.Rate.TheVariants.{R1200, R2400, R4800, R9600}
pub use Rattle.paging_message.specs.Admitted.{HasMessage}
unfoldable pub use Rattle.paging_message.specs.Admitted.{admits}
pub use Rattle.paging_message.specs.Channels.{channel_contents, channel_shape, channel_widths, channels_from}
pub use Rattle.paging_message.specs.Common.{CheckForm, Contents, FillsCapsule, IsWhole, M30, capsule, is_stated, stated_bits, still_open}
pub use Rattle.paging_message.specs.HalfFrames.{Framing, HalfFramesStandFor, half_frame_body, half_under_way}
unfoldable pub use Rattle.paging_message.specs.HalfFrames.{bits_left, capsules_in, ends_chain, half_frame_capsule_ending, half_frames}
unfoldable pub use Rattle.paging_message.specs.HalfFrames.{open_chain}
pub use Rattle.paging_message.specs.Laying.{HasLaid, Laid, Place, bit_on, laid_on, padded_to, way_for}
unfoldable pub use Rattle.paging_message.specs.Laying.{fill}
pub use Rattle.paging_message.specs.Layouts.{MessageType, has_type, other_type, own_types, paging_shape_of, type_in}
pub use Rattle.paging_message.specs.Messages.{IsPagingMessage, contents_of, message_from, paging_kind_of}
unfoldable pub use Rattle.paging_message.specs.Messages.{message_body, paging_capsule}
pub use Rattle.paging_message.specs.Neighbors.{IsNeighborList, neighbor_contents, neighbor_shape, neighbor_widths, neighbors_from}
pub use Rattle.paging_message.specs.Others.{other_contents, other_from, other_shape}
unfoldable pub use Rattle.paging_message.specs.Reading.{body_reading, is_body, message_at, paging_reading}
pub use Rattle.paging_message.specs.Spelling.{IsSpelled, body_of}
pub use Rattle.paging_message.specs.System.{IsSystem, system_contents, system_from, system_shape, system_values, system_widths}
unfoldable pub use Rattle.paging_message.specs.System.{system_of}
pub use Rattle.paging_message.specs.declared.message.PagingMessage.{PagingMessage}
pub use Rattle.paging_message.specs.declared.neighbors.NeighborFields.{NeighborFields}
