-- Names that the definitions of this crate use, from other crates and of its own types.
pub use Rattle.chip_core.specs.Bits.{bit_of, digit, number, sign}
unfoldable pub use Rattle.chip_core.specs.Bits.{binary, places}
pub use Rattle.conv_code.specs.ConvCode.{code_symbols, g0, g1, symbol}
pub use Rattle.viterbi.specs.declared.codeword.Ends.{Ends}
pub use Rattle.viterbi.specs.declared.codeword.Ends.TheVariants.{Free, Zero}
pub use Rattle.viterbi.specs.declared.survivor.Survivor.{Survivor}
