-- Names from other crates that the definitions of this crate use.
pub use Rattle.chip_core.specs.Bits.{number}
unfoldable pub use Rattle.chip_core.specs.Bits.{binary, places}
pub use Rattle.chip_core.specs.declared.check_form.CheckForm.{CheckForm}
pub use Rattle.message_layout.specs.Plain.{has_length, list_said, plain_contents, plain_shape}
pub use Rattle.message_layout.specs.Shapes.{LineNames, MessageShape, line_names, shape}
pub use Rattle.message_layout.specs.declared.contents.Contents.{Contents}
pub use Rattle.quality_bits.specs.Capsules.{FillsCapsule, IsWhole, if_spelled, stated_bits}
pub use Rattle.quality_bits.specs.Capsules.{still_open}
unfoldable pub use Rattle.quality_bits.specs.Capsules.{capsule, is_stated}
pub use Rattle.quality_bits.specs.declared.kind.Kind.TheVariants.{M30}
