-- What the proofs of this crate cite of what lies below, and of its own definitions.
pub use Rattle.std.proofs.Common.{None, Option, Some, filter, slice_get, unwrap_or, ◌==◌, ◌||◌}
pub use Rattle.std.proofs.lemmas.Bool.{eq-eqb, eqb-true, leb-true, lt-ltb, ltb-false, ltb-true, ne_eqb}
pub use Rattle.std.proofs.lemmas.Grind.{common_steps, elements}
pub use Rattle.std.proofs.lemmas.List.{get_or_past, length-map, length-take, map-append, take_more}
pub use Rattle.std.proofs.lemmas.List.Elements.{All-cons, All-get_or, All-head, All-nil, All-tail, filter_more}
pub use Rattle.std.proofs.lemmas.List.Folds.{list_all_at, list_any-append}
pub use Rattle.std.specs.Cmp.Lexicographic.{pointwise}
pub use Rattle.std.specs.List.{All, find, list_all, list_any}
pub use Rattle.chip_core.proofs.Common.{Bool, List, [], ap, append-nil, append_assoc, arith, cond, drop, false, get_or, if◌then◌else◌, inl}
pub use Rattle.chip_core.proofs.Common.{inr, ints, length, length-append, map, nat_eq, nat_le, nat_lt, not, refl, rules, subst, suc, sym, ℕ}
pub use Rattle.chip_core.proofs.Common.{take, true, zero, ⊎_elim, ◌&&◌, ◌++◌, ◌+◌, ◌-◌, ◌<◌, ◌∙◌, ◌∷◌, ◌≡◌, ◌≢◌, ◌≤◌, ◌⊎◌}
pub use Rattle.chip_core.proofs.Finds.{found_here, found_later, left_at}
pub use Rattle.pilot_sets.specs.Common.{Accepted, ActivePilot, CandidatePilot, DirectionFault, DirectionFields, NamedPilot, PilotSets}
pub use Rattle.pilot_sets.specs.Common.{Thresholds, TooMany, Unknown}
pub use Rattle.pilot_sets.specs.Directions.{IsDirection, accepted_of, direction_fault, direction_fault_of, first_repeated, is_unknown_row}
pub use Rattle.pilot_sets.specs.Directions.{named_pilots, unknown_or_twice}
pub use Rattle.pilot_sets.specs.Filling.{filled_more, length-filled}
pub use Rattle.pilot_sets.specs.Handoffs.{active_of, actives_after, actives_without, all_left, candidates_without, cleared, fresh, left}
pub use Rattle.pilot_sets.specs.Handoffs.{handed_off, next_subchannel, pilots_named, subchannel_after, timer_of}
pub use Rattle.pilot_sets.specs.Histories.{AreApart, Call, IsAmong, IsLawfulCall, LeavesWaiting, RunsSince, Starts, active_timers}
pub use Rattle.pilot_sets.specs.Histories.{after_all, after_call, candidate_timers}
pub use Rattle.pilot_sets.specs.Histories.Call.{Direct, Due, Neighbors, Parameters, Step}
pub use Rattle.pilot_sets.specs.Moments.{active_timed, candidate_timed, dropped, energy_in, expired_moved, goes, is_above, is_reported}
pub use Rattle.pilot_sets.specs.Moments.{measured, moving_up, pilots_going, risen, rises, rising, stays, timed}
pub use Rattle.pilot_sets.specs.Orderly.{AreOnRows, IsActiveSet, IsActiveSetIfAny, IsOnceEach, IsOrderly, places_for, times_in}
pub use Rattle.pilot_sets.specs.Orderly.{times_listed}
pub use Rattle.pilot_sets.specs.PilotSets.{active_pilots, candidate_pilots, neighbors_heard, new_sets, pilots, pilots_of_actives}
pub use Rattle.pilot_sets.specs.PilotSets.{pilots_of_candidates, thresholds_heard, timed_pilots}
pub use Rattle.pilot_sets.specs.Pilots.{firsts, has, lacks, without}
pub use Rattle.pilot_sets.specs.Standing.{Standing, began_in, change_at, deltas_with, directed, due_at, due_for, is_changed, is_same_active}
pub use Rattle.pilot_sets.specs.Standing.{new_standing, shown_active, stepped, unless_refused}
pub use Rattle.pilot_sets.specs.Tables.{ratio, ratios}
pub use Rattle.pilot_sets.specs.Timers.{is_expired, is_strong, timer_after}
pub use Rattle.pilot_sets.specs.declared.lists.Active.{Active}
