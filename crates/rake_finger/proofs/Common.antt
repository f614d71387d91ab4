-- What the proofs of this crate cite of what lies below, and of its own definitions.
pub use Rattle.std.proofs.Common.{Some, below_more, cond, length-append, slice_index_or, sum_by, vec_len, ◌&&◌, ◌≤ℤ◌}
pub use Rattle.std.proofs.Math.ListN.{set}
pub use Rattle.std.proofs.Math.Nat.{mod-add-mod, mod-eq_of_lt, mul-le-mul}
pub use Rattle.std.proofs.lemmas.Bool.{and_from, and_left, and_parts, and_right, cases_Bool, le-leb, leb-true, lt-leb, or_cases}
pub use Rattle.std.proofs.lemmas.Int.{fits_signed_mul, int_wrap_fits, ints, to_z-of_z, unsigned_abs-mul, wrapping_mul_onto}
pub use Rattle.std.proofs.lemmas.List.{append_assoc, drop-append-le, drop-drop, drop-take, ext_get_or, get_or-drop, get_or-set_other}
pub use Rattle.std.proofs.lemmas.List.{get_or-set_same, get_or-take, get_or_append_left, get_or_push, length-replicate, length-set}
pub use Rattle.std.proofs.lemmas.List.{length-take-le, map-append, take-append-le, take-take, take_all, take_more, take_more_set}
pub use Rattle.std.proofs.lemmas.List.Elements.{All-cons, All-drop, All-from_get_or, All-head, All-nil, All-replicate, All-set, All-tail}
pub use Rattle.std.proofs.lemmas.Nat.{div-add-mod', mul-le}
pub use Rattle.std.specs.List.{slice_get}
pub use Rattle.std.specs.Ordering.{int_eq}
pub use Rattle.std.specs.Prelude.{int_le, unsigned_abs}
pub use Rattle.chip_core.proofs.Ranges.{flat_map_ext_places, map_ext_places}
pub use Rattle.chip_core.proofs.Ring.{distrib_right, mul_assoc_ℤ, neg_times}
pub use Rattle.chip_core.specs.declared.sample.Pair.{Pair}
pub use Rattle.pilot_search.proofs.Common.{All, Bool, FitsSigned, IsUnit, List, [], ap, arith, cases_lt, cases_order, code_point, conjugate}
pub use Rattle.pilot_search.proofs.Common.{common_steps, despread, drop, elements, false, get_or, get_or_from_slice_get, inl, inr, length}
pub use Rattle.pilot_search.proofs.Common.{length-drop, map, max, nat_le, nat_tests, negsuc, norm, of_sample, of_z, origin, pilot_chip, pos}
pub use Rattle.pilot_search.proofs.Common.{pilot_signs, plus, plus-origin, point, real_part, refl, slice_get_within, subst, suc, sum_of, ℕ}
pub use Rattle.pilot_search.proofs.Common.{sum_of-append, sym, take, times, to_z, total, true, turned, w16, w32, w64, zero, ℤ, ⊎_elim, ◌%◌}
pub use Rattle.pilot_search.proofs.Common.{◌*ℤ◌, ◌*◌, ◌++◌, ◌+ℤ◌, ◌+◌, ◌-ℤ◌, ◌-◌, ◌/◌, ◌<◌, ◌^◌, ◌∙◌, ◌∷◌, ◌≡◌, ◌≢◌, ◌≤◌, ◌⊎◌}
unfoldable pub use Rattle.pilot_search.proofs.Common.{energy, phase_correlation}
pub use Rattle.pilot_search.proofs.CorrelationSums.{despread_from, no_sample, units}
pub use Rattle.pilot_search.proofs.KeptSums.{kept_sum, kept_sum_back, kept_sum_fits, kept_sum_within}
pub use Rattle.pilot_search.proofs.LaneLemmas.{in_lane, kept, kept_lanes, kept_products, no_sign}
pub use Rattle.walsh.proofs.RowTable.{walsh-pilot}
pub use Rattle.rake_finger.specs.Added.{AreWithin, IsAdded}
pub use Rattle.rake_finger.specs.Common.{Form, IsWithin, Sample, sign, walsh, zip_with}
pub use Rattle.rake_finger.specs.FrameSamples.{AgreeIn}
pub use Rattle.rake_finger.specs.Held.{Held, HoldsLast}
pub use Rattle.rake_finger.specs.InRing.{IsHeldInRing, IsInRing}
pub use Rattle.rake_finger.specs.Near.{AreBegun, AreClose, AreNear, all_begun, all_close, all_near, has_reference, is_close, is_near}
pub use Rattle.rake_finger.specs.RowSigns.{AreRowSigns, AreUnitSigns, covered_signs, sign_lanes, turned_sign}
pub use Rattle.rake_finger.specs.Scrambled.{unscrambled}
pub use Rattle.rake_finger.specs.Soft.{covered_from, despread_at, finger_place, frame_chips, soft_bound, symbol_chips, symbols, turned_part}
pub use Rattle.rake_finger.specs.Soft.{window_chips, window_symbols, windows}
unfoldable pub use Rattle.rake_finger.specs.Soft.{pilot_sum, soft, softs, symbol_sum}
pub use Rattle.rake_finger.specs.Streams.{StreamOf, frame_end, frame_softs, frame_start, is_in_file, is_within, known_at, span_first}
pub use Rattle.rake_finger.specs.Streams.{span_frames, span_softs}
pub use Rattle.rake_finger.specs.Strengths.{IsNarrow, IsStrongest, Strength, sample_power, samples_before, window_energy}
unfoldable pub use Rattle.rake_finger.specs.Strengths.{strength}
pub use Rattle.rake_finger.specs.Timing.{IsTimed}
unfoldable pub use Rattle.rake_finger.specs.Timing.{stream_end}
pub use Rattle.rake_finger.specs.declared.finger.Finger.{Finger}
pub use Rattle.rake_finger.specs.declared.form.Form.TheVariants.{Data, Sync}
