-- Names that the definitions of this crate use, from other crates and of its own types.
pub use Rattle.chip_core.specs.Complex.{norm, origin, plus, times}
pub use Rattle.chip_core.specs.declared.check_form.CheckForm.{CheckForm}
pub use Rattle.chip_core.specs.declared.sample.Pair.{Pair}
pub use Rattle.chip_core.specs.declared.width.Width.{Width}
pub use Rattle.chip_core.specs.declared.width.Width.TheVariants.{Eight, Sixteen}
pub use Rattle.long_code.specs.LongCode.{IsState, paging_mask, traffic_mask}
unfoldable pub use Rattle.long_code.specs.LongCode.{after}
pub use Rattle.paging_message.specs.HalfFrames.{bits_left, capsules_in, half_frame_body}
pub use Rattle.quality_bits.specs.Capsules.{FillsCapsule}
unfoldable pub use Rattle.quality_bits.specs.Capsules.{capsule}
pub use Rattle.quality_bits.specs.declared.kind.Kind.TheVariants.{M30}
pub use Rattle.quality_bits.specs.declared.rate.Rate.{Rate}
pub use Rattle.sync_message.specs.SyncMessage.{IsSyncMessage}
unfoldable pub use Rattle.sync_message.specs.SyncMessage.{spelling, sync_body, sync_capsule}
pub use Rattle.sync_message.specs.declared.fields.SyncFields.{SyncFields}
unfoldable pub use Rattle.walsh.specs.Walsh.{walsh}
pub use Rattle.cell_plan.specs.declared.plan.CellIdentity.{CellIdentity}
pub use Rattle.cell_plan.specs.declared.plan.CellPlan.{CellPlan}
pub use Rattle.cell_plan.specs.declared.plan.Page.{Page}
pub use Rattle.cell_plan.specs.declared.plan.PagingPlan.{PagingPlan}
pub use Rattle.cell_plan.specs.declared.plan.SyncPlan.{SyncPlan}
pub use Rattle.cell_plan.specs.declared.plan.TrafficPlan.{TrafficPlan}
