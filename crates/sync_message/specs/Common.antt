-- Names that the definitions of this crate use, from other crates and of its own types.
pub use Rattle.chip_core.specs.Fields.{FieldsFit, field, in_widths}
pub use Rattle.message_layout.specs.Spelling.{IsOf}
unfoldable pub use Rattle.message_layout.specs.Spelling.{spelling}
pub use Rattle.quality_bits.specs.Capsules.{FillsCapsule, if_spelled, octets}
unfoldable pub use Rattle.quality_bits.specs.Capsules.{capsule}
pub use Rattle.quality_bits.specs.declared.kind.Kind.TheVariants.{M30}
pub use Rattle.sync_message.specs.declared.fields.SyncFields.{SyncFields}
