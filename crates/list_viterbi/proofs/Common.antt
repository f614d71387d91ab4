-- What the proofs of this crate cite of what lies below, and of its own definitions.
pub use Rattle.std.proofs.Common.{None, Option, Some}
pub use Rattle.std.proofs.Math.Nat.{two-pow-succ}
pub use Rattle.std.proofs.lemmas.Bool.{cases_eq, cases_lt, cases_order, false≢true, true≢false}
pub use Rattle.std.proofs.lemmas.List.{length-take, map-append}
pub use Rattle.std.proofs.lemmas.List.Elements.{All-cons, All-contains, All-head, All-map, All-nil, All-push, All-tail}
pub use Rattle.std.proofs.lemmas.List.Kept.{AllPairs-cons}
pub use Rattle.std.proofs.lemmas.List.Quantifiers.{all_pairs_push}
pub use Rattle.std.proofs.lemmas.Map.Keys.{IsDistinct-from_apart}
pub use Rattle.std.proofs.lemmas.Map.Steps.{length-le_from_distinct_below}
pub use Rattle.std.proofs.lemmas.Map.Views.{Contains-from_any}
pub use Rattle.std.proofs.lemmas.Nat.{and_mask, div-mul-add, mod-mul-add}
pub use Rattle.std.specs.List.{IsDistinct, find, list_any, range_with_len, sum_by}
pub use Rattle.std.specs.Prelude.{All, AllPairs, Contains, cond, eqb, if◌then◌else◌, int_lt, min, nat_le, nat_lt, slice_get}
pub use Rattle.chip_core.proofs.Common.{FitsSigned, add-one, common_steps, digit_le, drop_all, get_or-set_other, get_or-set_same, inl, inr}
pub use Rattle.chip_core.proofs.Common.{get_or-take, length-set, pos, pow_mono, rules, set, slice_get-get_or, subst, unsigned_abs, ℤ, ◌+ℤ◌}
pub use Rattle.chip_core.proofs.Common.{⊎_elim, ◌-ℤ◌, ◌<ℤ◌, ◌≤ℤ◌, ◌⊎◌}
pub use Rattle.chip_core.proofs.Finds.{left_at}
pub use Rattle.chip_core.proofs.Unless.{AllTaken, IsGreatestUnless, nat_lt-true, scanned}
pub use Rattle.chip_core.specs.Sums.{greatest_unless}
unfoldable pub use Rattle.chip_core.specs.Sums.{first_places}
pub use Rattle.conv_code.proofs.Common.{Bool, List, [], ap, append-nil, append_assoc, arith, binary, bit_of, bool_byte-digit, digit, drop}
pub use Rattle.conv_code.proofs.Common.{drop_more, false, get_or, get_or_from_slice_get, ints, length, length-append, length-binary, map, ℕ}
pub use Rattle.conv_code.proofs.Common.{length-take-le, low_bit, nat_eq, refl, state_after, suc, sym, take, take_more, true, zero, ◌%◌, ◌*◌}
pub use Rattle.conv_code.proofs.Common.{◌++◌, ◌+◌, ◌-◌, ◌/◌, ◌<◌, ◌^◌, ◌∙◌, ◌∷◌, ◌≡◌, ◌≤◌}
pub use Rattle.viterbi.proofs.BlockSteps.{gain_size, lane_small, pattern_small}
pub use Rattle.viterbi.proofs.Choices.{Either, IsPushed, codewords_same, leads_both, leads_trans, rank_of-pushed, stays_first}
pub use Rattle.viterbi.proofs.Codes.{code_gains}
pub use Rattle.viterbi.proofs.Common.{Codeword, HasStart, IsAllowed, IsBetter, SFits, by_lt_z, codeword_at, drop-set, codeword_count}
pub use Rattle.viterbi.proofs.Common.{end_count, fits_signed_from_abs, gain_of, get_or-map, get_or-map-range_with_len, of_z, low_bits}
pub use Rattle.viterbi.proofs.Common.{get_or_read, lane_code_of, length-map, rank, nat_tests, reverse_bits_onto, score_of, state_after-none}
pub use Rattle.viterbi.proofs.Common.{taken_of, tested, to_z, to_z-of_z, untested, vec_len, w64, with_items_is}
unfoldable pub use Rattle.viterbi.proofs.Common.{gain_by, lane_codes, patterns}
pub use Rattle.viterbi.proofs.Finish.{IntoBelow, allowed_into, below_first, below_or_last, into_allowed, more_below, no_bits, score-none}
pub use Rattle.viterbi.proofs.Finish.{zero_start}
pub use Rattle.viterbi.proofs.Made.{end_count_le, end_read}
pub use Rattle.viterbi.proofs.Rooms.{score_size}
pub use Rattle.viterbi.proofs.Scores.{pair_kept, pair_size, pair_small, pushed, sum_fits}
pub use Rattle.viterbi.proofs.StateBits.{binary-turned}
pub use Rattle.viterbi.proofs.Steps.{From, Into, before_below, first_soft, from_states, joined_long, newest_bit, pushed_score, second_soft}
pub use Rattle.viterbi.proofs.Steps.{seven_bits, state_before, state_parts, to_state, zero_first}
pub use Rattle.viterbi.proofs.Tracing.{less_none}
pub use Rattle.viterbi.proofs.Unique.{allowed_at, codeword_at_allowed, rank-codeword_at, step_of}
pub use Rattle.viterbi.specs.declared.codeword.Ends.{Ends}
pub use Rattle.viterbi.specs.declared.codeword.Ends.TheVariants.{Free, Zero}
pub use Rattle.list_viterbi.specs.Columns.{back_of, entry_at, find_score, finds_from, list_state_before, place_before, start_scores}
pub use Rattle.list_viterbi.specs.Columns.{starts_at}
unfoldable pub use Rattle.list_viterbi.specs.Columns.{first_finds, list_origin, list_path}
pub use Rattle.list_viterbi.specs.First.{AreFirst, HaveScores, codeword_of, first_codewords}
pub use Rattle.list_viterbi.specs.Laws.{HaveBestFirst, HaveFirstPassing, NamesOneList}
pub use Rattle.list_viterbi.specs.Merging.{EntriesStart, EntryHasRoom, entry_extended_by, entry_score, second_is_next}
unfoldable pub use Rattle.list_viterbi.specs.Merging.{first_lists, list_from, list_into, merge}
pub use Rattle.list_viterbi.specs.Picks.{HasChoices, HasPicks, LeavesScoreRoom, Pick, pick_score, picks_from, picks_into, pointer_of}
unfoldable pub use Rattle.list_viterbi.specs.Picks.{ones_below, picks_by}
pub use Rattle.list_viterbi.specs.declared.codewords.Entry.{Entry}
pub use Rattle.list_viterbi.specs.declared.finds.Find.{Find}
