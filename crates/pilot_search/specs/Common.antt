-- Names from other crates that the definitions of this crate use.
pub use Rattle.chip_core.specs.Complex.{norm, plus, sum_of}
pub use Rattle.chip_core.specs.Sums.{first_greatest, first_places, total}
pub use Rattle.chip_core.specs.declared.sample.Pair.{Pair}
pub use Rattle.chip_core.specs.declared.sample.Sample.{Sample}
pub use Rattle.short_code.specs.Despread.{IsUnit, despread, turned}
