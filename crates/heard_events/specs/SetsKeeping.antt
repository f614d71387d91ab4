-- The invariant of the pilot sets that a handset keeps.
use Rattle.heard_events.specs.Common.{half_window_chips, superframe_chips}
use Rattle.std.specs.Prelude.{◌≡◌, ℕ, ◌+◌, ◌*◌, ◌≤◌, ◌^◌, if◌then◌else◌, true, unsigned_abs}
use Rattle.std.specs.List.{All}
use Rattle.heard_events.specs.Moments.{moment_place}
use Rattle.heard_events.specs.SoundMarks.{IsSoundMark}
use Rattle.heard_events.specs.declared.sets_keeper.SetsKeeper.{SetsKeeper}

-- the sample of the next moment to come
abbrev pub coming_place : SetsKeeper → ℕ
coming_place k = moment_place k.mark (k.passed + (if k.due then 2 else 1))

-- No pilot was measured far from its expected phase, and the moments lie in a file.
pub record IsSoundKeeper (k : SetsKeeper) : Type 0 where
  pub marked : IsSoundMark k.mark
  pub close : All (λ d. unsigned_abs d ≤ half_window_chips) k.sets.deltas
  pub few : superframe_chips * k.passed ≤ 2 ^ 26
  pub early : k.due ≡ true → moment_place k.mark (k.passed + 1) ≤ 2 ^ 26
