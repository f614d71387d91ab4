use Rattle.trial_link.proofs.Common.{◌≡◌, ◌∷◌, ◌∙◌, [], CellIdentity, CellPlan, List, Some, TrafficFrame, TrafficPlan, ap, past_draw, ℕ}
use Rattle.trial_link.proofs.Common.{past_draws, drawn, frames_drawn, trial_cell, trial_frames, trial_link, trial_paging, trial_plan}
use Rattle.trial_link.proofs.Common.{trial_serial_number, trial_sync, trial_traffic, SyncPlan}
use Rattle.cell_plan.specs.declared.plan.PagingPlan.{PagingPlan}
use Rattle.trial_link.proofs.TrialDraws.{fifth_draw, serial_number_drawn}
use Rattle.trial_link.proofs.trial.trial_plan.Goals as goal

abbrev plan_with : CellIdentity → SyncPlan → List PagingPlan → List TrafficPlan → CellPlan
plan_with cell sync paging traffic = record {
  cell = cell;
  link = trial_link;
  pilot = record { gain = 100 };
  sync = Some sync;
  paging = paging;
  traffic = traffic;
}

plan_made : (number : ℕ) (cell : CellIdentity) (sync : SyncPlan) (paging : List PagingPlan)
    (traffic : List TrafficPlan) → cell ≡ trial_cell number → sync ≡ trial_sync → paging ≡ trial_paging cell.pn ∷ [] →
    traffic ≡ trial_traffic (trial_serial_number number) (trial_frames number) →
    plan_with cell sync paging traffic ≡ trial_plan number
unfolding trial_plan
plan_made number cell sync paging traffic cell_is sync_is paging_is traffic_is =
    ap (λ (c : CellIdentity). plan_with c sync paging traffic) cell_is
    ∙ ap (λ (s : SyncPlan). plan_with (trial_cell number) s paging traffic) sync_is
    ∙ ap (λ (ps : List PagingPlan). plan_with (trial_cell number) trial_sync ps traffic)
    (paging_is ∙ ap (λ (c : CellIdentity). trial_paging c.pn ∷ []) cell_is)
    ∙ ap (plan_with (trial_cell number) trial_sync (trial_paging (trial_cell number).pn ∷ []))
    traffic_is

frames_from : (number state : ℕ) (frames : List TrafficFrame) → frames ≡ frames_drawn state 100 →
    state ≡ past_draws number 5 → frames ≡ trial_frames number
unfolding trial_frames
frames_from number state frames is state_is = is ∙ ap (λ (s : ℕ). frames_drawn s 100) state_is

channels_from : (number esn : ℕ) (frames : List TrafficFrame) (traffic : List TrafficPlan) →
    traffic ≡ trial_traffic esn frames → esn ≡ trial_serial_number number → frames ≡ trial_frames number →
    traffic ≡ trial_traffic (trial_serial_number number) (trial_frames number)
channels_from number esn frames traffic is esn_is frames_is =
    is ∙ ap (λ (e : ℕ). trial_traffic e frames) esn_is
    ∙ ap (trial_traffic (trial_serial_number number)) frames_is

pub returns : goal.returns
returns c =
    let number = c.args.number in
    let esn : c.draw-esn.result ≡ trial_serial_number number =
    c.draw-esn.ensures.value ∙ ap drawn c.cell-cell.ensures.state ∙ serial_number_drawn number in
    let state : c.draw-esn.new.self.state ≡ past_draws number 5 =
    c.draw-esn.ensures.state ∙ ap past_draw c.cell-cell.ensures.state ∙ fifth_draw number in
    plan_made number c.cell-cell.result c.sync_channel.result _ _ c.cell-cell.ensures.value
    c.sync_channel.ensures c.in_ok-paging_channels.ensures
    (channels_from number c.draw-esn.result _ _ c.in_ok-traffic_channels.ensures esn
    (frames_from number c.draw-esn.new.self.state _ c.in_ok-frames.ensures state))
