-- What the proofs of this crate cite of the crates below, and of its own definitions.
pub use Rattle.std.proofs.Common.{[], ap, map, refl, rules, ℤ, ◌++◌, ◌∙◌, ◌∷◌}
pub use Rattle.frame_decoder.proofs.SentFormats.{nothing_decoded, shown_decoded, signs_decoded}
pub use Rattle.symbol_path.specs.declared.rate_two.Rate2.TheVariants.{R14400, R1800, R3600, R7200}
pub use Rattle.rate_set_two.specs.Laws.{IsDecodedBySigns2, IsNothingGood2, IsSentFrameDecoded2, KeepsAgreement}
pub use Rattle.rate_set_two.specs.TrafficFrames.{as_decoded2, format_of2, lower_rates2}
unfoldable pub use Rattle.rate_set_two.specs.TrafficFrames.{decoded2}
