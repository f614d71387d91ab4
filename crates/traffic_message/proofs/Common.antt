-- What the proofs of this crate cite of what lies below, and of its own definitions.
pub use Rattle.std.proofs.Common.{Err, None, Ok, Option, Some, is_some, rules, ◌≢◌, ◌⊎◌}
pub use Rattle.std.proofs.lemmas.Bool.{and_from, and_parts, cases_Bool, eq-eqb, eqb-false, eqb-true, false_from_ne_true, le-leb, leb-true}
pub use Rattle.std.proofs.lemmas.List.Elements.{All-from_get_or}
pub use Rattle.std.specs.Prelude.{IsTrue, ◌↔◌}
pub use Rattle.chip_core.proofs.Common.{Bool, List, [], ap, append-nil, append_assoc, arith, cond, digit, digit_again, drop, drop_at, false}
pub use Rattle.chip_core.proofs.Common.{get_or, get_or_from_slice_get, inl, inr, length, length-append, length-drop, nat_le, number, refl}
pub use Rattle.chip_core.proofs.Common.{subst, sym, take, take-append-drop, true, ℕ, ◌%◌, ◌&&◌, ◌*◌, ◌++◌, ◌+◌, ◌-◌, ◌/◌, ◌<◌, ◌^◌, ◌∙◌}
pub use Rattle.chip_core.proofs.Common.{◌∷◌, ◌≡◌, ◌≤◌}
unfoldable pub use Rattle.chip_core.proofs.Common.{binary, places}
pub use Rattle.chip_core.proofs.FieldLists.{length-binary, slice_get-drop}
pub use Rattle.chip_core.proofs.Places.{map-places-all}
pub use Rattle.message_layout.proofs.Columns.{length-records, record_fit}
pub use Rattle.message_layout.proofs.Common.{IfSome, IsGroup, after_front, after_group, dropped, group_fields, length-in_widths, mapped}
pub use Rattle.message_layout.proofs.Common.{number_front, record_fields, slice_get, take_all, values_again, values_there, ◌==◌}
unfoldable pub use Rattle.message_layout.proofs.Common.{fields_at, is_lawful, reading, spelling}
pub use Rattle.message_layout.proofs.Loops.{not_both}
pub use Rattle.message_layout.proofs.Messages.{all_columns, first_column, mapped_some, no_columns, one_value}
pub use Rattle.message_layout.proofs.Parts.{some_is}
pub use Rattle.message_layout.proofs.Plain.{plain_back, plain_of, plain_spelled, rest_back}
pub use Rattle.message_layout.proofs.Round.{reading_again, reading_there}
pub use Rattle.message_layout.specs.declared.layout.Presence.TheVariants.{Flagged}
pub use Rattle.quality_bits.proofs.Decoded.{AreRead, decodes_capsule, decodes_no_capsule, one_message, read_by_spelling, turned_back}
pub use Rattle.traffic_message.specs.Admitted.{HasTrafficMessage}
unfoldable pub use Rattle.traffic_message.specs.Admitted.{traffic_admits}
pub use Rattle.traffic_message.specs.Common.{CheckForm, Contents, FieldsFit, FillsCapsule, Head, IsOf, M16, MessageShape, capsule, spelled}
pub use Rattle.traffic_message.specs.Common.{in_widths, number_at, plain_contents, plain_shape, values_at}
pub use Rattle.traffic_message.specs.Handoff.{is_hard}
pub use Rattle.traffic_message.specs.Layouts.{HasFields, body_from, form_at, form_in, head_contents, head_in, head_shape, traffic_shape_of}
pub use Rattle.traffic_message.specs.Layouts.{traffic_contents_of, typed_widths}
pub use Rattle.traffic_message.specs.Messages.{IsTrafficMessage, Message, bits_of, head_fields, head_values, kind_of, traffic_message_body}
unfoldable pub use Rattle.traffic_message.specs.Messages.{traffic_capsule}
pub use Rattle.traffic_message.specs.Multiplex.{joined, primary_bits}
unfoldable pub use Rattle.traffic_message.specs.Multiplex.{split_9600}
pub use Rattle.traffic_message.specs.Reading.{head_at, is_traffic_body, traffic_body_reading, traffic_reading}
unfoldable pub use Rattle.traffic_message.specs.Reading.{part_reading}
pub use Rattle.traffic_message.specs.Widths.{head_widths, in_traffic_widths, search_widths, time_widths}
pub use Rattle.traffic_message.specs.declared.body.TrafficBody.{TrafficBody}
pub use Rattle.traffic_message.specs.declared.fields.DirectionFields.{DirectionFields}
pub use Rattle.traffic_message.specs.declared.fields.Search.{Search}
pub use Rattle.traffic_message.specs.declared.fields.UpdateFields.{UpdateFields}
pub use Rattle.traffic_message.specs.declared.layouts.BodyForm.{BodyForm}
pub use Rattle.traffic_message.specs.declared.multiplex.Mux.{Mux}
