use Rattle.trial_link.proofs.Common.{◌≡◌, ◌++◌, ◌∙◌, [], Bool, List, ap, binary, false, trial_sync, SyncPlan}
use Rattle.std.specs.Prelude.{replicate}
use Rattle.cell_plan.specs.SomeMessage.{some_message, some_sync}
use Rattle.trial_link.proofs.trial.sync_channel.Goals as goal

-- three zeros after no bits
three_zeros : (before after : List Bool) → before ≡ [] → after ≡ before ++ binary 3 0 → after ≡ replicate 3 false
unfolding binary
three_zeros before after none is = is ∙ ap (λ (bits : List Bool). bits ++ binary 3 0) none

abbrev sync_with : List Bool → SyncPlan
sync_with rest = record (some_sync 0) { message = record (some_message 0) { rest = rest } }

same_sync : (rest : List Bool) → rest ≡ replicate 3 false → sync_with rest ≡ trial_sync
unfolding trial_sync
same_sync rest is = ap sync_with is

pub returns : goal.returns
returns c =
    same_sync c.append_number.new.self
    (three_zeros c.empty-rest.result c.append_number.new.self c.empty-rest.ensures
    c.append_number.ensures)
