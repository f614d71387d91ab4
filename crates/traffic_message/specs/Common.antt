-- Names that the definitions of this crate use, from other crates and of its own types.
pub use Rattle.chip_core.specs.Bits.{digit}
unfoldable pub use Rattle.chip_core.specs.Bits.{binary, places}
pub use Rattle.chip_core.specs.Fields.{FieldsFit, field, in_widths, spelled}
pub use Rattle.chip_core.specs.Readings.{number_at, values_at}
pub use Rattle.chip_core.specs.declared.check_form.CheckForm.{CheckForm}
pub use Rattle.message_layout.specs.Plain.{plain_contents, plain_shape}
pub use Rattle.message_layout.specs.Shapes.{LineNames, MessageShape, line_names, shape}
pub use Rattle.message_layout.specs.Spelling.{IsOf}
unfoldable pub use Rattle.message_layout.specs.Spelling.{spelling}
pub use Rattle.message_layout.specs.declared.contents.Contents.{Contents}
pub use Rattle.quality_bits.specs.Capsules.{FillsCapsule, if_spelled}
unfoldable pub use Rattle.quality_bits.specs.Capsules.{capsule, front_capsule, is_stated}
pub use Rattle.quality_bits.specs.declared.kind.Kind.TheVariants.{M16}
pub use Rattle.traffic_message.specs.declared.fields.Head.{Head}
