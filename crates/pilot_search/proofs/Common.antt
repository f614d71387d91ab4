-- What the proofs of this crate cite of what lies below, and of its own definitions.
pub use Rattle.std.proofs.Common.{All, None, Option, Some, of_z, to_z, w32, w64, w8}
pub use Rattle.std.proofs.Math.Facts.{Fits-of_z}
pub use Rattle.std.proofs.Math.IntN.{+ℤ_assoc, neg_ℤ}
pub use Rattle.std.proofs.Math.Nat.{div-le_self, div-mul-le_self, mul-div_cancel, mul-le-mul}
pub use Rattle.std.proofs.Math.Seq.{drop-cons, take-add}
pub use Rattle.std.proofs.lemmas.Bool.{cases_lt, cases_order, false≢true}
pub use Rattle.std.proofs.lemmas.Bool.Decides.{nat_tests}
pub use Rattle.std.proofs.lemmas.Grind.{common_steps, elements}
pub use Rattle.std.proofs.lemmas.Int.{fits_signed_from_abs, int_wrap_fits, ints, to_z-of_z, unsigned_abs-mul, wrapping_add-bits}
pub use Rattle.std.proofs.lemmas.Int.{wrapping_mul_onto}
pub use Rattle.std.proofs.lemmas.List.{drop-map, get_or-replicate, length-map, take_all}
pub use Rattle.std.proofs.lemmas.List.Elements.{All-cons, All-contains, All-drop, All-from_get_or, All-get_or, All-head, All-nil, All-set}
pub use Rattle.std.proofs.lemmas.List.Elements.{All-tail}
pub use Rattle.std.proofs.lemmas.Nat.{le-div}
pub use Rattle.std.proofs.lemmas.Simd.{Each1-get_or, Each1-weaker, Each2-of, length-zip2}
pub use Rattle.std.specs.Int.{int_wrap}
pub use Rattle.std.specs.Prelude.{Contains, IsSome, if◌then◌else◌, nat_le, nat_lt, slice_get}
pub use Rattle.atomic_table.proofs.Lists.{at_set, at_snoc, set_again}
pub use Rattle.atomic_table.specs.Table.{Allows, Joins, Me, Splits, State, keeps, step, stepped}
pub use Rattle.chip_core.proofs.Common.{Bool, FitsSigned, List, [], add-one, ap, arith, drop, drop-drop, drop_all, false, get_or, inl, inr}
pub use Rattle.chip_core.proofs.Common.{get_or-set_same, get_or_from_slice_get, length, length-drop, length-set, length-take-le, list_any}
pub use Rattle.chip_core.proofs.Common.{map, max, min, nat_eq, negsuc, pos, refl, rules, set, slice_get_within, subst, suc, sym, take, true}
pub use Rattle.chip_core.proofs.Common.{take-append-drop, unsigned_abs, w16, zero, zip_with, ℕ, ℤ, ⊎_elim, ◌%◌, ◌*ℤ◌, ◌*◌, ◌++◌, ◌+ℤ◌, ◌+◌}
pub use Rattle.chip_core.proofs.Common.{◌-ℤ◌, ◌-◌, ◌/◌, ◌<◌, ◌^◌, ◌∙◌, ◌∷◌, ◌≡◌, ◌≢◌, ◌≤◌, ◌⊎◌}
pub use Rattle.chip_core.proofs.ComplexSums.{origin-plus, plus-origin, plus_assoc, real_part, sum_of-append}
pub use Rattle.chip_core.proofs.Greatest.{first_greatest-is, only}
pub use Rattle.chip_core.proofs.Magnitudes.{abs_fits, abs_sum, sign_unit}
pub use Rattle.chip_core.proofs.Unless.{IsGreatestUnless, first_places-more, first_places-none}
pub use Rattle.chip_core.specs.Complex.{conjugate, norm, of_sample, origin, plus, point, sum_of, times}
pub use Rattle.chip_core.specs.Sums.{IsFirstGreatest, first_greatest, total}
unfoldable pub use Rattle.chip_core.specs.Sums.{first_places}
pub use Rattle.short_code.proofs.Despreading.{despread-append}
pub use Rattle.short_code.proofs.Signs.{get_or-pilot_signs, length-pilot_signs}
pub use Rattle.short_code.specs.Despread.{IsUnit, code_point, despread, turned}
pub use Rattle.short_code.specs.ShortCode.{chip_signs, pilot_chip, pilot_signs}
pub use lib.Lanes.{Each1, Each2, zip2}
pub use lib.ListN.{get_elem?}
pub use mathlib.Core.Option.{none, some, some-injective, some-ne-none}
pub use Rattle.pilot_search.specs.BestIn.{IsBestIn}
pub use Rattle.pilot_search.specs.Bounds.{HasBoundBelow, HasNoBoundBelow, IsSumOf, bound, greatest, magnitudes, square_of}
pub use Rattle.pilot_search.specs.BySigns.{across}
unfoldable pub use Rattle.pilot_search.specs.BySigns.{correlation_with}
pub use Rattle.pilot_search.specs.Common.{Pair, Sample}
pub use Rattle.pilot_search.specs.Found.{IsFound, better_of, worker_start}
pub use Rattle.pilot_search.specs.Knowledge.{IsHeld, Knowledge}
pub use Rattle.pilot_search.specs.Lanes.{AreProducts, AreShort, AreSums, AreUnits, IsShort, LanesAreNear, both, eight, imaginary_lanes}
pub use Rattle.pilot_search.specs.Lanes.{parts, product_at, real_lanes, sample_at, signs_at, with_signs}
pub use Rattle.pilot_search.specs.Near.{near_phase_at, near_place, near_value}
unfoldable pub use Rattle.pilot_search.specs.Near.{near_deltas}
pub use Rattle.pilot_search.specs.Ranked.{IsNext, IsRound, measured_at}
unfoldable pub use Rattle.pilot_search.specs.Search.{best_phase, energy, phase_correlation}
pub use Rattle.pilot_search.specs.SearchRun.{BestComesFirst, ComesFirst, Evaluate, FindsBest, Goes, IsDone, IsStart, IsTry, Parts, Publish}
pub use Rattle.pilot_search.specs.SearchRun.{Read, Run, Skip, Step, Worker}
pub use Rattle.pilot_search.specs.SharedRule.{AllLie, Begun, IsSharedState, Lies, fresh_view, holding, joined_views, spent}
pub use Rattle.pilot_search.specs.declared.sweeping.Best.{Best}
pub use Rattle.pilot_search.specs.declared.view.View.{View}
pub use Rattle.std.proofs.Math.ListN.{get_or-map as map_at}
