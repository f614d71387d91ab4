-- Names from other crates that the definitions of this crate use.
pub use Rattle.cell_plan.specs.PageCycles.{cycled, paging_frame_size}
pub use Rattle.cell_plan.specs.Pages.{AreSendable, sent_paging_rate}
unfoldable pub use Rattle.cell_plan.specs.Pages.{page_cycle}
pub use Rattle.cell_plan.specs.Sendings.{superframes_a_sending, told_superframes}
pub use Rattle.cell_plan.specs.Signal.{frames_of}
pub use Rattle.cell_plan.specs.Stated.{AreHeard}
pub use Rattle.cell_plan.specs.TrafficFrames.{SetOneFrame, cycled_frame, sent_frame_state, set_one}
pub use Rattle.cell_plan.specs.TrafficFrames.{sent_with, set_two, traffic_frame_symbols}
pub use Rattle.cell_plan.specs.Transmitter.{phase_at}
pub use Rattle.cell_plan.specs.declared.plan.CellPlan.{CellPlan}
pub use Rattle.cell_plan.specs.declared.plan.Page.{Page}
pub use Rattle.cell_plan.specs.declared.plan.PagingPlan.{PagingPlan}
pub use Rattle.cell_plan.specs.declared.plan.SyncPlan.{SyncPlan}
pub use Rattle.cell_plan.specs.declared.plan.TrafficPlan.{TrafficPlan}
pub use Rattle.chip_core.specs.Air.{data_frame_chips, frame_offset_chips, superframe_chips}
pub use Rattle.chip_core.specs.Bits.{sign}
pub use Rattle.chip_core.specs.declared.assignment.Traffic.{Traffic}
pub use Rattle.chip_core.specs.declared.check_form.CheckForm.{CheckForm}
pub use Rattle.frame_decoder.specs.Laws.{IsUnshared, ShowSymbols, frame_codeword}
pub use Rattle.frame_decoder.specs.TrafficFrames.{frame_symbols, is_replaced}
pub use Rattle.long_code.specs.LongCode.{traffic_mask}
unfoldable pub use Rattle.paging_message.specs.Common.{capsule, places}
pub use Rattle.paging_message.specs.HalfFrames.{half_frame_body, half_frame_capsule_ending}
pub use Rattle.paging_message.specs.Reading.{message_at, number_at}
pub use Rattle.paging_message.specs.declared.message.PagingMessage.{PagingMessage}
pub use Rattle.quality_bits.specs.declared.kind.Kind.TheVariants.{M30}
pub use Rattle.quality_bits.specs.declared.rate.Rate.{Rate}
pub use Rattle.symbol_path.specs.Scrambling.{power_places}
unfoldable pub use Rattle.sync_message.specs.SyncMessage.{sync_capsule}
pub use Rattle.sync_message.specs.declared.fields.SyncFields.{SyncFields}
unfoldable pub use Rattle.traffic_message.specs.Multiplex.{split}
