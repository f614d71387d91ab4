-- Names that the definitions of this crate use, from other crates and of its own types.
pub use Rattle.cell_plan.specs.Plan.{IsLawfulPlan, loudness, most_part, sync_gain}
pub use Rattle.cell_plan.specs.Stated.{IsStatedCell, IsStatedLink}
pub use Rattle.cell_plan.specs.TrafficFrames.{IsTrafficFrame, information_bits_of, rate_set}
pub use Rattle.cell_plan.specs.declared.plan.CellIdentity.{CellIdentity}
pub use Rattle.cell_plan.specs.declared.plan.CellPlan.{CellPlan}
pub use Rattle.cell_plan.specs.declared.plan.LinkPlan.{LinkPlan}
pub use Rattle.cell_plan.specs.declared.plan.Page.{Page}
pub use Rattle.cell_plan.specs.declared.plan.PagingPlan.{PagingPlan}
pub use Rattle.cell_plan.specs.declared.plan.PilotPlan.{PilotPlan}
pub use Rattle.cell_plan.specs.declared.plan.SyncPlan.{SyncPlan}
pub use Rattle.cell_plan.specs.declared.plan.TrafficPlan.{TrafficPlan}
pub use Rattle.cell_plan.specs.declared.traffic_frame.FrameRate.{FrameRate}
pub use Rattle.cell_plan.specs.declared.traffic_frame.FrameRate.TheVariants.{SetOne, SetTwo}
pub use Rattle.cell_plan.specs.declared.traffic_frame.TrafficFrame.{TrafficFrame}
pub use Rattle.chip_core.specs.declared.check_form.CheckForm.TheVariants.{Complemented, Plain}
pub use Rattle.chip_core.specs.declared.width.Width.{Width}
pub use Rattle.paging_message.specs.HalfFrames.{half_frame_body}
unfoldable pub use Rattle.paging_message.specs.HalfFrames.{bits_left}
unfoldable pub use Rattle.paging_message.specs.Laying.{fill}
unfoldable pub use Rattle.paging_message.specs.Reading.{is_body}
pub use Rattle.quality_bits.specs.declared.rate.Rate.TheVariants.{R1200, R2400, R4800, R9600}
pub use Rattle.symbol_path.specs.declared.rate_two.Rate2.TheVariants.{R14400, R1800, R3600, R7200}
pub use Rattle.sync_message.specs.declared.fields.SyncFields.{SyncFields}
pub use Rattle.cell_script.specs.declared.script_fault.ScriptFault.{ScriptFault}
pub use Rattle.cell_script.specs.declared.statements.Statement.{Statement}
pub use Rattle.cell_script.specs.declared.statements.TrafficLine.{TrafficLine}
pub use Rattle.cell_script.specs.declared.tables.FieldForm.{FieldForm}
