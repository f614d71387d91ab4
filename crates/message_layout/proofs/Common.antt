-- What the proofs of this crate cite of what lies below, and of its own definitions.
pub use Rattle.std.proofs.Common.{None, Option, Some, slice_get, ◌==◌}
pub use Rattle.std.proofs.Math.Nat.{div-mul-le_self, mul-le-mul_right, pow-le-pow_right, suc-mul}
pub use Rattle.std.proofs.lemmas.Bool.{and_parts, leb-true, lt-ltb, ltb-true}
pub use Rattle.std.proofs.lemmas.List.{drop-take, length-map, take-take, take_all}
pub use Rattle.std.proofs.lemmas.Nat.{div-mul-add, le-div, pow_pos}
pub use Rattle.std.specs.Prelude.{IfSome}
pub use Rattle.chip_core.proofs.Common.{AreWidths, Bool, FieldsFit, List, [], ap, append-nil, append_assoc, arith, cases_Bool, cases_lt, ℕ}
pub use Rattle.chip_core.proofs.Common.{common_steps, cond, drop, drop-drop, drop_at, eq-eqb, eqb-true, false, field, get_or, get_or-take}
pub use Rattle.chip_core.proofs.Common.{get_or_from_slice_get, in_widths, inl, inr, ints, le-leb, length, length-append, length-drop, map}
pub use Rattle.chip_core.proofs.Common.{length-take-le, lt-leb, nat_le, nat_lt, ne_eqb, nil_from_length, number, refl, spelled, subst, suc}
pub use Rattle.chip_core.proofs.Common.{sym, take, take-append-drop, take_at, total_width, true, zero, ◌%◌, ◌&&◌, ◌*◌, ◌++◌, ◌+◌, ◌-◌, ◌/◌}
pub use Rattle.chip_core.proofs.Common.{◌<◌, ◌^◌, ◌∙◌, ◌∷◌, ◌≡◌, ◌≤◌}
unfoldable pub use Rattle.chip_core.proofs.Common.{binary}
pub use Rattle.chip_core.proofs.FieldLists.{length-binary, spelled-append}
pub use Rattle.chip_core.proofs.Numerals.{bool_byte-digit, digit_below, read_more}
pub use Rattle.chip_core.proofs.ValueLists.{after_front, column_more, dropped, fit_value, front, length-column, length-in_widths}
pub use Rattle.chip_core.proofs.ValueLists.{number_front, taken_more, total_more, total_room, values_again, values_more, values_there}
pub use Rattle.chip_core.proofs.ValueLists.{width_within, write_room, written_more}
pub use Rattle.message_layout.specs.Common.{Contents, Field, Flagged, Never, Presence, UnlessLeft, column_at, number_at, values_at}
pub use Rattle.message_layout.specs.Contents.{column_in, columns_in, count_in, head, height, record_at, record_fields, share, shares, tail}
pub use Rattle.message_layout.specs.Plain.{plain_contents, plain_shape}
pub use Rattle.message_layout.specs.Reading.{is_rest, mapped, present_at, records_from, rest_at, ◌>>=◌}
unfoldable pub use Rattle.message_layout.specs.Reading.{fields_at, group_at, number_part, octets_at, part_at, presence_at, reading}
unfoldable pub use Rattle.message_layout.specs.Reading.{records_at}
pub use Rattle.message_layout.specs.Shapes.{AreNarrow, MessageShape, are_widths, ends, group_is_told, shape}
unfoldable pub use Rattle.message_layout.specs.Shapes.{is_lawful}
pub use Rattle.message_layout.specs.Spelling.{HaveValues, IsGroup, IsOf, IsRest, after_group, group_fields, octet_bits, records_of}
unfoldable pub use Rattle.message_layout.specs.Spelling.{spelling}
