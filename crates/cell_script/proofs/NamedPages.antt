-- The pages of a named plan: what they lay carries just their capsules.
use Rattle.cell_script.proofs.Common.{◌≡◌, ℕ, List, Ok, All, All-weaker, CheckForm, Width, half_frame_body, CellPlan, PagingPlan, IsCarried}
use Rattle.cell_script.proofs.Common.{sent_paging_rate, plan_named, HasMessages, IsReceivable, IsStatedPaging, channel_carried}
use Rattle.cell_script.proofs.Common.{heard_messages}
use Rattle.cell_script.proofs.NamedPlans.{named_plan, named_said}

pub pages_are_messages : (width : Width) (script : List ℕ) (plan : CellPlan) →
    plan_named width script ≡ Ok plan → All HasMessages plan.paging
pages_are_messages width script plan e =
    let rate = sent_paging_rate plan.sync in
    All-weaker (IsStatedPaging rate) HasMessages
    (λ (p : PagingPlan) is. heard_messages (half_frame_body rate) 0 p.pages is.heard) plan.paging
    (named_said width script plan e).lawful.paging

pub pages_are_carried : (width : Width) (script : List ℕ) (plan : CellPlan) (form : CheckForm) →
    plan_named width script ≡ Ok plan → All (IsCarried (sent_paging_rate plan.sync) form) plan.paging
pages_are_carried width script plan form e =
    let rate = sent_paging_rate plan.sync in
    All-weaker (IsStatedPaging rate) (IsCarried rate form)
    (λ (p : PagingPlan) is. channel_carried rate form p is) plan.paging (named_said width script plan e).lawful.paging

pub named_receivable : (width : Width) (script : List ℕ) (plan : CellPlan) →
    plan_named width script ≡ Ok plan → IsReceivable width plan
named_receivable width script plan e =
    let both = named_plan width script plan e in
    record { lawful = both.0; link = both.1; pages = (named_said width script plan e).lawful.paging }
