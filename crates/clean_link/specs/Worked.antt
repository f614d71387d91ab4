-- Worked values of a clean link, which the checker computes.
use Rattle.clean_link.specs.Common.{Plain, capsule, check_bits, binary, places, Data, sync_body}
use Rattle.clean_link.specs.Common.{spelling, sync_capsule, CellPlan, some_sync, first_sync_frame}
use Rattle.clean_link.specs.Common.{heard_after, sending_ends, whole_sendings, soft_strength}
use Rattle.clean_link.specs.Common.{cell_with}
use Rattle.std.specs.Prelude.{◌≡◌, refl, ℕ, ◌-◌, List, [], ◌∷◌, map, Some}
use Rattle.rake_finger.specs.declared.form.Form.TheVariants.{Sync}
use Rattle.clean_link.specs.DistinctPlan.{told_message}

-- `samples` samples of a cell, from a local chip on, whose sync message has 25 octets: nine frames,
-- of which seven have bits of it
cell : ℕ → ℕ → CellPlan
cell start samples = cell_with start samples Plain (Some (some_sync 1)) [] []

-- the numbers of samples at which the whole transmissions have been heard
heard : CellPlan → List ℕ
heard plan =
    map (λ q. heard_after 32768 plan.link.samples
    (sending_ends plan told_message q - plan.link.start))
    (whole_sendings plan told_message)

-- A transmission under way at the file's start isn't whole. A file may end with the first
-- transmission's last frame, or one sample earlier.
from_the_first_chip : (heard (cell 0 1228800) ≡ 294848 ∷ 589760 ∷ 884672 ∷ 1179584 ∷ [])
    × (whole_sendings (cell 102400 1228800) told_message ≡ 1 ∷ 2 ∷ 3 ∷ [])
    × (heard (cell 0 262080) ≡ 262080 ∷ []) × (heard (cell 0 262079) ≡ [])
unfolding heard cell sync_capsule sync_body spelling capsule check_bits places binary
from_the_first_chip = (refl, refl, refl, refl)

later_frames : first_sync_frame (cell 102400 1228800) ≡ 3
unfolding cell
later_frames = refl

-- the product of 4, 9, both gains and 2^18
strength : soft_strength (cell 0 1228800) Sync 30 ≡ 28311552000
unfolding cell
strength = refl

-- the same for a channel with symbols of 64 chips, with 98,304 instead of 2^18
data_strength : soft_strength (cell 0 1228800) Data 30 ≡ 10616832000
unfolding cell
data_strength = refl
