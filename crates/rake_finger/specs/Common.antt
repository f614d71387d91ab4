-- Names that the definitions of this crate use, from other crates and of its own types.
pub use Rattle.chip_core.specs.Bits.{places, sign, zip_with}
unfoldable pub use Rattle.chip_core.specs.Bits.{binary}
pub use Rattle.chip_core.specs.Complex.{conjugate, norm, of_sample, origin, point, sum_of, times}
pub use Rattle.chip_core.specs.Sums.{IsFirstGreatest, square, total}
unfoldable pub use Rattle.chip_core.specs.Sums.{first_greatest}
pub use Rattle.chip_core.specs.declared.sample.Sample.{Sample}
pub use Rattle.walsh.specs.Walsh.{IsWithin}
unfoldable pub use Rattle.walsh.specs.Walsh.{walsh}
pub use Rattle.rake_finger.specs.declared.form.Form.{Form}
