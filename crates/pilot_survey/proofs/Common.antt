-- What the proofs of this crate cite of the crates below, and of its own definitions.
pub use Rattle.std.proofs.Common.{ap₂, ◌<ℤ◌, ◌≤ℤ◌}
pub use Rattle.std.proofs.lemmas.List.{get_or-map, get_or-take, get_or_default, same_lists, take_at, take_more}
pub use Rattle.std.specs.List.{Contains, IsDistinct, list_any, range_with_len}
pub use Rattle.std.specs.List.Sorted.{IsPermutation}
pub use Rattle.chip_core.specs.declared.sample.Sample.{Sample}
pub use Rattle.pilot_search.proofs.Common.{Bool, IsFirstGreatest, List, [], add-one, ap, arith, drop, energy, false, first_places, get_or}
pub use Rattle.pilot_search.proofs.Common.{inl, inr, length, length-map, length-take-le, map, nat_eq, nat_tests, of_z, pos, refl, rules, w8}
pub use Rattle.pilot_search.proofs.Common.{subst, suc, sym, take, take_all, to_z, true, zero, ℕ, ℤ, ⊎_elim, ◌*◌, ◌++◌, ◌+◌, ◌-ℤ◌, ◌-◌, ◌/◌}
pub use Rattle.pilot_search.proofs.Common.{◌<◌, ◌∙◌, ◌∷◌, ◌≡◌, ◌≢◌, ◌≤◌, ◌⊎◌}
pub use Rattle.pilot_survey.specs.Ranking.{AreInOrder, ComesBefore, IsRanking}
pub use Rattle.pilot_survey.specs.Survey.{survey_phase, survey_start}
unfoldable pub use Rattle.pilot_survey.specs.Survey.{ranking, strongest, surveyed}
pub use Rattle.pilot_survey.specs.declared.rank.Rank.{Rank}
