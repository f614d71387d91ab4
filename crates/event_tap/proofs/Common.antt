-- What the proofs of this crate cite of the crates below, and of its own definitions.
pub use Rattle.std.proofs.Common.{Err, None, Ok, OnErr, OnOk, Option, Result, Some, codes, decimal, slice_index_or, slice_set, ◌≢◌}
pub use Rattle.std.proofs.lemmas.Fmt.{length-decimal-le}
pub use Rattle.std.proofs.lemmas.List.{at_drop_more, drop-set-lt, drop_at, flat_map_more, get_or-map, get_or_default, length-map, take-set}
pub use Rattle.std.proofs.lemmas.List.{length-set, map-append, take_at, take_more, take_more_set}
pub use Rattle.std.proofs.lemmas.List.Sums.{AllPass-from_list_all}
pub use Rattle.std.proofs.lemmas.Str.Ascii.{IsAscii-from_all}
pub use Rattle.std.specs.List.{list_all, remove}
pub use Rattle.cdma_io.proofs.Common.{All, Appends, elements, length-take, rules}
pub use Rattle.heard_events.specs.declared.event.Event.{Event}
pub use Rattle.line_text.proofs.Common.{IsAscii, append-nil, append_assoc, common_steps, drop, length-append, nat_le}
pub use Rattle.message_layout.proofs.Columns.{get-lengths, height_at, record_fit, three_long}
pub use Rattle.message_layout.proofs.Common.{fit_value, height, inl, inr, length-take-le, map, record_at, share, shares, slice_get, ◌&&◌}
pub use Rattle.symbol_path.proofs.Common.{Bool, List, [], ap, arith, cond, get_or, get_or-map-places, ints, length, length-map-places, refl}
pub use Rattle.symbol_path.proofs.Common.{nat_lt, subst, suc, sym, take, true, zero, ℕ, ◌*◌, ◌++◌, ◌+◌, ◌-◌, ◌<◌, ◌^◌, ◌∙◌, ◌∷◌, ◌≡◌, ◌≤◌}
pub use Rattle.event_tap.specs.Parts.{comma_before, rest_text}
unfoldable pub use Rattle.event_tap.specs.Parts.{are_short, commas, named_values}
pub use Rattle.event_tap.specs.SaidTexts.{FillColumns, IsShown, columns_text, columns_texts, digits_in, end_bytes, field_bytes, line_tests}
pub use Rattle.event_tap.specs.SaidTexts.{is_short_width, list_bytes, list_text, record_bytes, slash_text}
unfoldable pub use Rattle.event_tap.specs.SaidTexts.{has_line, kind_text, said_text}
