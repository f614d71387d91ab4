-- What the proofs of this crate cite of what lies below, and of its own definitions.
pub use Rattle.std.proofs.Common.{Err, Global, IfOk, None, Ok, Option, Result, Some, String, ap₂, count_by, find, fold, is_some, ok_or, ◌↔◌}
pub use Rattle.std.proofs.Common.{option_and_then, option_map, slice_get, string_bytes, unwrap_or, ◌||◌}
pub use Rattle.std.proofs.lemmas.List.{at_drop_more, drop-map, drop_all, length-drop, length-map, map-append, take-map, take_all}
pub use Rattle.std.proofs.lemmas.Result.{IfErr-weaker, IfOk-weaker}
pub use Rattle.std.proofs.lemmas.Slice.Eq.{bytes_eq-Decides}
pub use Rattle.std.proofs.lemmas.Str.Pattern.{split_parts, strip_prefix_char}
pub use Rattle.std.specs.Borrow.{Bor}
pub use Rattle.std.specs.Char.{is_ascii_digit}
pub use Rattle.std.specs.Int.{from_be_bytes, w32}
pub use Rattle.std.specs.List.{AllPass, list_all, list_any}
pub use Rattle.std.specs.Option.{option_map_or}
pub use Rattle.std.specs.Result.{result_ok}
pub use Rattle.std.specs.Str.{bytes_eq}
pub use Rattle.chip_core.proofs.Common.{Bool, List, [], ap, append-nil, append_assoc, arith, common_steps, drop, eqb-true, false, get_or, ℕ}
pub use Rattle.chip_core.proofs.Common.{if◌then◌else◌, ints, length, map, nat_eq, nat_le, nat_lt, not, refl, rules, subst, suc, sym, take}
pub use Rattle.chip_core.proofs.Common.{true, zero, ◌&&◌, ◌*◌, ◌++◌, ◌+◌, ◌-◌, ◌<◌, ◌∙◌, ◌∷◌, ◌≡◌, ◌≤◌}
unfoldable pub use Rattle.chip_core.proofs.Common.{digits_from}
pub use Rattle.clap.proofs.LexerLemmas.{name_and_value-without, strip_byte-from}
pub use Rattle.clap.specs.Facts.{Entry}
pub use Rattle.clap.specs.Lexer.{long_of, long_of_rest, short_of, short_of_rest, strip_byte}
pub use Rattle.clap.specs.Matches.{first_value}
pub use Rattle.clap.specs.Simple.{Shape, built, entered, filled_from, is_ready, is_ready_leaf, is_simple, matches_of, names_of, new_app}
pub use Rattle.clap.specs.Simple.{new_rule}
pub use Rattle.clap.specs.Takes.{built_takes, bundle_passes, default_passes, entered_passes, flag_word_passes, is_given, is_valid, takes}
pub use Rattle.clap.specs.Takes.{level_passes, long_passes, settle_passes, step_passes, turn_passes, use_passes, word_passes}
unfoldable pub use Rattle.clap.specs.Takes.{walk_passes}
pub use Rattle.clap.specs.Walk.{Held, Row, Rule, Step, Walk, after_flag, after_step, arg_by_id, arg_by_long, at_row, finished, first_of}
pub use Rattle.clap.specs.Walk.{has_row, idle, is_early_multiple, long_met, long_or_other, more_values, next, nothing_held, option, pushed}
pub use Rattle.clap.specs.Walk.{option_word, reacted, row_of, rows_after, rows_of, settled, short_or_plain, trailing, used, used_by_id}
pub use Rattle.clap.specs.Walk.{walk, walk_from, with_default, with_values, without, word_met}
unfoldable pub use Rattle.clap.specs.Walk.{walked}
pub use Rattle.clap.specs.Words.{App, app_of, found_of, rule_of, with_rule}
pub use Rattle.clap.specs.declared.builder.action.ArgAction.TheVariants.{Set}
pub use Rattle.clap.specs.declared.parser.matches.Found.{Found}
pub use Rattle.clap.specs.declared.parser.matches.ValueSource.TheVariants.{CommandLine}
pub use Rattle.hex.proofs.HexLemmas.{IsOk-decode_sized}
pub use Rattle.hex.specs.Hex.{decode_sized, is_hex_digit}
pub use Rattle.hex.specs.declared.error.FromHexError.{FromHexError}
pub use Rattle.command_line.specs.Args.{CommandEntry, Given, OptionEntry, Text, added, argument_number_in, bare_app, command_entry, names}
pub use Rattle.command_line.specs.Args.{entry_of, form_admits, has_name, is_allowed, is_joined, is_named_in, job_after, job_named, job_with}
pub use Rattle.command_line.specs.Args.{number_by, numbers_by, option_joined, option_text, part_by, part_of, parted, rule_by, text_in}
pub use Rattle.command_line.specs.Args.{value_spelled_in}
unfoldable pub use Rattle.command_line.specs.Args.{app_from, eight_digits_in, given_after, job_by, job_in, value_in}
pub use Rattle.command_line.specs.declared.grammar.OptionRule.{OptionRule}
pub use Rattle.command_line.specs.declared.grammar.ValueForm.{ValueForm}
pub use Rattle.command_line.specs.declared.grammar.ValueForm.TheVariants.{Between, EightDigits}
pub use Rattle.command_line.specs.declared.job.Job.{Job}
pub use Rattle.command_line.specs.declared.job.WordFault.{WordFault}
pub use Rattle.command_line.specs.declared.job.WordFault.TheVariants.{Bad, OutOfMemory}
