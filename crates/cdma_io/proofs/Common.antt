-- What the proofs of this crate cite of the crates below, and of its own definitions.
pub use Rattle.std.proofs.Common.{All, Err, IfSome, None, Ok, Option, Result, Some, eqb, le_refl, leb, ltb, take_all}
pub use Rattle.std.proofs.KnownBytes.{Appends-trans, Consumes-kept, Consumes-trans}
pub use Rattle.std.proofs.lemmas.Grind.{common_steps, elements}
pub use Rattle.std.proofs.lemmas.Int.{ints, of_z-to_z, to_z-of_z}
pub use Rattle.std.proofs.lemmas.List.{drop-append-le, get_or_past, length-take, take_more_set}
pub use Rattle.std.proofs.lemmas.List.Elements.{All-append, All-get_or, All-head, All-push, All-tail}
pub use Rattle.std.proofs.lemmas.Result.{err_from_is_err_and}
pub use Rattle.std.proofs.lemmas.Slice.{overwrites, take-put_mid_below}
pub use Rattle.std.specs.Int.{byte_at, bytes_high_first, cast_signed, cast_unsigned, w16, w8}
pub use Rattle.std.specs.Io.KnownBytes.{Appends, Consumes, IsAtEnd, Keeps}
pub use Rattle.std.specs.List.{flat_map, starts_with}
pub use Rattle.std.specs.Prelude.{FitsSigned, MatchResult}
pub use Rattle.byteorder.specs.Endian.{big_bytes, big_from, big_number}
pub use Rattle.byteorder.specs.Numbers.{big_from-append, big_from-cons, big_from-lt, big_number-reads_back, length-bytes_high_first}
pub use Rattle.chip_core.proofs.Common.{Bool, List, [], ap, append-nil, append_assoc, arith, cond, drop, drop-drop, drop_all, drop_at, inl}
pub use Rattle.chip_core.proofs.Common.{false, flat_map-append, get_or, get_or-drop, get_or-take, inr, length, length-append, length-drop}
pub use Rattle.chip_core.proofs.Common.{length-take-le, min, refl, rules, set, subst, suc, sym, take, take-append-drop, take_at, true, zero}
pub use Rattle.chip_core.proofs.Common.{ℕ, ℤ, ◌%◌, ◌*◌, ◌++◌, ◌+◌, ◌-◌, ◌/◌, ◌<◌, ◌^◌, ◌∙◌, ◌∷◌, ◌≡◌, ◌≤◌}
pub use Rattle.chip_core.specs.declared.sample.Sample.{Sample}
pub use Rattle.chip_core.specs.declared.width.Width.{Width}
pub use Rattle.chip_core.specs.declared.width.Width.TheVariants.{Eight, Sixteen}
pub use Rattle.cdma_io.specs.Outside.{ConsumesAtMost, ConsumesFewer}
pub use Rattle.cdma_io.specs.SampleFile.{CutsShort, HasBits, IsLawfulHeader, IsSampleFile, Opens, Reading, check_form_of, flags_of, magic}
pub use Rattle.cdma_io.specs.SampleFile.{form_flag, fresh_reading, header_due, integer_width_of, is_version, most_samples, part_len}
pub use Rattle.cdma_io.specs.SampleFile.{part_spelling, sample_len, width_in, width_of}
unfoldable pub use Rattle.cdma_io.specs.SampleFile.{header_spelling, opening, sample_spelling}
pub use Rattle.cdma_io.specs.declared.file_fault.FileFault.{FileFault}
pub use Rattle.cdma_io.specs.declared.file_fault.FileFault.TheVariants.{Count, Extra, Flags, Magic, ReadFault, Short, TooFew, Version}
pub use Rattle.cdma_io.specs.declared.header.Header.{Header}
