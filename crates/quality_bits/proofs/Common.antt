-- What the proofs of this crate cite of the crates below, and of its own definitions.
pub use Rattle.std.proofs.Common.{Err, None, Ok, Option, Result, Some, replicate}
pub use Rattle.std.proofs.lemmas.Bool.{and_cases, and_parts, and_right, false_from_ne_true, false≢true, le-ltb, leb-false, leb-true, lt-ltb}
pub use Rattle.std.proofs.lemmas.Bool.{ltb-false, ltb-true, not-false, not-true, or_cases, or_parts}
pub use Rattle.std.proofs.lemmas.List.{length-replicate, take-append-le, take_all}
pub use Rattle.std.specs.Option.{IfSome, option_or}
pub use Rattle.std.specs.Prelude.{IfOk, IsTrue, ok_or, ◌↔◌}
pub use Rattle.chip_core.proofs.BitLists.{add, length_add, same_from, same_refl, taken_more, xor_assoc}
pub use Rattle.chip_core.proofs.Common.{Bool, List, [], ap, append-nil, append_assoc, are_same, arith, bit_and, bit_of, bit_xor, cases_Bool}
pub use Rattle.chip_core.proofs.Common.{cases_lt, cond, digit, drop, drop_at, eq-eqb, eqb-true, false, inl, inr, le-leb, length, lt-leb, ℕ}
pub use Rattle.chip_core.proofs.Common.{length-append, length-drop, length-take-le, map, nat_eq, nat_le, nat_lt, not, number, number_from}
pub use Rattle.chip_core.proofs.Common.{pow_mono, refl, rules, slice_get, subst, suc, sym, take, take-append-drop, take_at, true, xor, zero}
pub use Rattle.chip_core.proofs.Common.{◌%◌, ◌&&◌, ◌*◌, ◌++◌, ◌+◌, ◌-◌, ◌/◌, ◌<◌, ◌^◌, ◌∙◌, ◌∷◌, ◌≡◌, ◌≤◌, ◌⊎◌}
unfoldable pub use Rattle.chip_core.proofs.Common.{binary, places}
pub use Rattle.chip_core.proofs.Digits.{binary-double, binary-low, binary-xor, number-binary, number_lt}
pub use Rattle.chip_core.proofs.FieldLists.{length-binary, slice_get-drop}
pub use Rattle.chip_core.specs.declared.check_form.CheckForm.{CheckForm}
pub use Rattle.quality_bits.specs.Capsules.{FillsCapsule, IsWhole, capsule_front, completed, continued, if_spelled, octets, stated_bits}
unfoldable pub use Rattle.quality_bits.specs.Capsules.{awaits_more, capsule, front_capsule, is_stated, still_open}
pub use Rattle.quality_bits.specs.Formats.{bits_in, format_codeword}
pub use Rattle.quality_bits.specs.Kinds.{Checks, Division, IsChecked, body_length, generator_of, quality_indicator, quality_length}
pub use Rattle.quality_bits.specs.Kinds.{sent_check}
pub use Rattle.quality_bits.specs.Quality.{Generator, below_of}
unfoldable pub use Rattle.quality_bits.specs.Quality.{check_bits}
pub use Rattle.quality_bits.specs.declared.kind.Kind.{Kind}
