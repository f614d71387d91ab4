-- Names that the definitions of this crate use, from other crates and of its own types.
pub use Rattle.chip_core.specs.Fields.{AreWidths, FieldsFit, field, in_widths, spelled, total_width}
pub use Rattle.chip_core.specs.Readings.{column_at, number_at, values_at}
pub use Rattle.chip_core.specs.declared.field.Field.{Field}
pub use Rattle.message_layout.specs.declared.contents.Contents.{Contents}
pub use Rattle.message_layout.specs.declared.layout.Presence.{Presence}
pub use Rattle.message_layout.specs.declared.layout.Presence.TheVariants.{Flagged, Never}
pub use Rattle.message_layout.specs.declared.layout.Presence.TheVariants.{UnlessLeft}
