-- What the proofs of this crate cite of the crates below, and of its own definitions.
pub use Rattle.std.proofs.Common.{None, Option, Some, ◌/◌}
pub use Rattle.std.proofs.lemmas.Grind.{common_steps, elements}
pub use Rattle.frame_decoder.proofs.Common.{IsFormat, bits_in, candidate_in, candidate_of, format_of, frame_in, gathered_in, good_or, w64}
pub use Rattle.frame_decoder.proofs.Common.{is_right, preferred, rising_choice, score_in}
unfoldable pub use Rattle.frame_decoder.proofs.Common.{best_codeword, codeword_in, frame_of}
pub use Rattle.frame_decoder.proofs.FormatCodewords.{bits_least, gathered_score, length-gathered_in, length-symbols_in}
pub use Rattle.frame_decoder.specs.declared.formats.DecodedFrame.{DecodedFrame}
pub use Rattle.list_viterbi.proofs.Common.{All, AreFirst, Bool, Codeword, FitsSigned, HaveScores, List, [], ap, arith, codeword_at, cond, ℕ}
pub use Rattle.list_viterbi.proofs.Common.{codeword_count, codeword_of, drop, false, find, first_codewords, get_or, if◌then◌else◌, ints, ℤ}
pub use Rattle.list_viterbi.proofs.Common.{length, list_any, map, nat_eq, nat_lt, refl, rules, score_of, slice_get, subst, suc, sym, take}
pub use Rattle.list_viterbi.proofs.Common.{to_z-of_z, true, zero, ◌++◌, ◌-◌, ◌<◌, ◌∙◌, ◌∷◌, ◌≡◌, ◌≤◌}
pub use Rattle.list_viterbi.specs.declared.codewords.Entry.{Entry}
pub use Rattle.quality_bits.specs.declared.format.FrameFormat.{FrameFormat}
pub use Rattle.quality_bits.specs.declared.rate.Rate.{Rate}
pub use Rattle.quality_bits.specs.declared.rate.Rate.TheVariants.{R1200, R2400, R4800, R9600}
pub use Rattle.listed_frame.specs.Laws.{IsDecodedByOneCodeword, IsListedBySigns, IsSentFrameListed}
pub use Rattle.listed_frame.specs.ListedFrames.{codewords_in, listed_choice, listed_codewords, listed_count_of, listed_in}
unfoldable pub use Rattle.listed_frame.specs.ListedFrames.{listed}
