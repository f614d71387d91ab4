-- What the proofs of this crate cite of what lies below, and of its own definitions.
pub use Rattle.std.proofs.Common.{drop, length-append, length-drop, length-take, max, slice_set}
pub use Rattle.std.proofs.lemmas.Bool.{cases_Bool, cases_lt, le-ltb, lt-ltb}
pub use Rattle.std.proofs.lemmas.List.{append-nil, drop-replicate, drop_all, take_at}
pub use Rattle.std.proofs.lemmas.List.Folds.{list_all-append, list_any-append, sum_by-replicate}
pub use Rattle.chip_core.specs.declared.sample.Sample.{Sample}
pub use Rattle.frame_decoder.proofs.Common.{Channel, flat_map-next, inl, inr, ints, own_bits, pos, sign, sum_by, sum_by-append, sum_by-set}
pub use Rattle.frame_decoder.proofs.Common.{take_all, to_z-of_z, unsigned_abs, ℤ, ◌*ℤ◌, ◌⊎◌}
pub use Rattle.long_code.proofs.Common.{Bool, List, [], ap, arith, false, get_or, length, length-replicate, map-append, refl, subst, suc, ℕ}
pub use Rattle.long_code.proofs.Common.{sym, take, take_more, true, zero, ◌*◌, ◌++◌, ◌+◌, ◌-◌, ◌<◌, ◌∙◌, ◌∷◌, ◌≡◌, ◌≤◌}
unfoldable pub use Rattle.long_code.proofs.Common.{places}
pub use Rattle.rake_finger.proofs.CloseFingers.{begun_in_ring, close_begun, ends_high, ends_low, later_by, most_chips, near_are_close}
pub use Rattle.rake_finger.proofs.CloseFingers.{some_chips}
pub use Rattle.rake_finger.proofs.Common.{StreamOf, common_steps, drop-append-le, drop-drop, flat_map_ext_places, frame_chips, frame_end}
pub use Rattle.rake_finger.proofs.Common.{frame_softs, frame_start, is_in_file, known_at, soft_bound, span_first, span_frames, symbols}
unfoldable pub use Rattle.rake_finger.proofs.Common.{softs, stream_end}
pub use Rattle.rake_finger.proofs.FingerTimes.{begun_first, begun_on, ends_bounds, ends_step, in_ring, start_step, timed_in, times_one}
pub use Rattle.rake_finger.specs.Near.{AreBegun, AreNear, all_begun, all_near, has_reference, have_rows, is_near}
pub use Rattle.rake_finger.specs.Paths.{finger_of, fingers_of}
pub use Rattle.rake_finger.specs.Scrambled.{descrambled, unscrambled}
pub use Rattle.rake_finger.specs.declared.finger.Finger.{Finger}
pub use Rattle.rake_finger.specs.declared.form.Form.{Form}
pub use Rattle.rake_finger.specs.declared.form.Form.TheVariants.{Data, Sync}
pub use Rattle.symbol_path.proofs.Common.{SFits, flat_map, if◌then◌else◌, nat_lt, places-none, replicate, rules}
pub use borrow.Rule.Slice.PartMut.{post_of}
pub use mir.Syntax.{w64, w8}
pub use Rattle.reception.specs.Clocks.{IsAt, IsDueAt, clock_after_frame, clock_from, first_frame, frame_come, span_from}
pub use Rattle.reception.specs.Receiving.{Receives}
pub use Rattle.reception.specs.Softs.{AreSmall, frame_most, last_softs}
pub use Rattle.reception.specs.declared.continued.Continued.{Continued}
pub use Rattle.reception.specs.declared.frame_clock.FrameClock.{FrameClock}
