-- What the proofs of this crate cite of the crates below, and of its own definitions.
pub use Rattle.std.proofs.Common.{Err, IsNone, IsSome, None, Ok, Option, Some, rules, ◌⊎◌}
unfoldable pub use Rattle.chip_core.specs.Bits.{binary, places}
pub use Rattle.message_layout.proofs.Common.{Bool, FieldsFit, IsGroup, IsOf, List, [], after_group, and_parts, ap, arith, cond, drop, inl}
pub use Rattle.message_layout.proofs.Common.{eq-eqb, eqb-true, get_or, group_fields, in_widths, inr, le-leb, leb-true, length, nat_le, refl}
pub use Rattle.message_layout.proofs.Common.{length-append, length-binary, spelled, subst, sym, take, true, ℕ, ◌%◌, ◌*◌, ◌++◌, ◌+◌, ◌-◌}
pub use Rattle.message_layout.proofs.Common.{◌/◌, ◌<◌, ◌==◌, ◌^◌, ◌∙◌, ◌∷◌, ◌≡◌, ◌≤◌}
unfoldable pub use Rattle.message_layout.proofs.Common.{spelling}
pub use Rattle.message_layout.specs.declared.layout.Presence.TheVariants.{UnlessLeft}
pub use Rattle.sync_message.specs.Common.{FillsCapsule, M30, SyncFields, capsule, if_spelled, octets}
pub use Rattle.sync_message.specs.Layouts.{freq_from, freq_group, sync_contents, sync_from, sync_message_shape}
unfoldable pub use Rattle.sync_message.specs.Layouts.{sync_body_reading, sync_of}
pub use Rattle.sync_message.specs.Rows.{sync_values, sync_widths}
pub use Rattle.sync_message.specs.SyncMessage.{IsSyncMessage, fixed_fields}
unfoldable pub use Rattle.sync_message.specs.SyncMessage.{sync_body, sync_capsule}
