-- Names from other crates that the definitions of this crate use.
pub use Rattle.quality_bits.specs.TrafficCodewords.{repeats_of}
pub use Rattle.quality_bits.specs.declared.format.FrameFormat.{FrameFormat}
pub use Rattle.quality_bits.specs.declared.rate.Rate.{Rate}
pub use Rattle.symbol_path.specs.SentOrder.{Shape, data_shape, gathered, sent, shape_of, size}
pub use Rattle.symbol_path.specs.SentOrder.{sync_shape}
unfoldable pub use Rattle.symbol_path.specs.SentOrder.{gathered_by, sent_by}
pub use Rattle.viterbi.specs.Codewords.{Codeword, best_codeword, correlation}
pub use Rattle.viterbi.specs.Common.{code_symbols, sign}
unfoldable pub use Rattle.viterbi.specs.Common.{binary, places}
pub use Rattle.viterbi.specs.declared.codeword.Ends.TheVariants.{Free, Zero}
