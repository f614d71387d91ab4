-- What the proofs of this crate cite of the crates below, and of its own definitions.
pub use Rattle.std.proofs.Common.{int_eq}
pub use Rattle.std.proofs.lemmas.Bool.{agree_below, agree_below_at, cases_eq, ne_eqb, not-true}
pub use Rattle.std.proofs.lemmas.Nat.{and_block, and_le_l, and_mask, one_shl, ones_cat, pow_pos}
pub use Rattle.std.specs.Prelude.{if◌then◌else◌, neg_ℤ, negsuc, ◌*ℤ◌, ◌+ℤ◌, ◌-ℤ◌, ◌==◌}
pub use Rattle.chip_core.proofs.Common.{Bool, List, [], add-one, ap, arith, bit_and, bit_of, false, get_or, get_or-set_other, ints, length}
pub use Rattle.chip_core.proofs.Common.{get_or-set_same, length-set, map, nat_eq, nat_le, nat_lt, not, pos, refl, set, sign, subst, suc, ℕ}
pub use Rattle.chip_core.proofs.Common.{sym, true, zero, ℤ, ⊎_elim, ◌%◌, ◌&&◌, ◌*◌, ◌+◌, ◌-◌, ◌<◌, ◌^◌, ◌∙◌, ◌∷◌, ◌≡◌, ◌≢◌, ◌≤◌}
unfoldable pub use Rattle.chip_core.proofs.Common.{binary}
unfoldable pub use Rattle.chip_core.specs.Sums.{sum_below}
pub use Rattle.chip_core.specs.declared.sample.Pair.{Pair}
pub use Rattle.walsh.specs.Walsh.{IsWithin, in_phase, quadrature, walsh_sum_from}
unfoldable pub use Rattle.walsh.specs.Walsh.{row_sum, transform, walsh}
