-- A handset is tuned by its file, and lies on the path of the file's cell.
use Rattle.run_replies.specs.Common.{Traffic, Sample, Width, Header, near_deltas, best_phase}
use Rattle.run_replies.specs.Common.{CellPlan, IsOnPath}
use Rattle.std.specs.Prelude.{◌≡◌, ℕ, List, length, take, Option}
use Rattle.clean_signal.specs.NearFiles.{IsNearFile}
use Rattle.run_replies.specs.Hearing.{settings_for, tuning_for}

-- Each handset of a run is tuned by the file's header and by the pilot in its first `span` samples,
-- over the receiver's fingers.
abbrev pub HandsetsAreTuned : Type 0
HandsetsAreTuned =
    (span : ℕ) (header : Header) (samples : List Sample) (fingers paging : ℕ)
    (traffic : Option Traffic) →
    let first = take span samples in
    let t = tuning_for (settings_for header fingers paging traffic) first in
    (t.count ≡ header.count) × (t.phase ≡ best_phase first)
    × (t.deltas ≡ near_deltas first (best_phase first) fingers)
    × (t.check30 ≡ header.check30) × (t.check16 ≡ header.check16)

-- So suppose that the file contains what a lawful cell sends with any noise, the search finds the
-- cell's path, and there is one finger. Then the handset lies on that path.
abbrev pub HandsetsLieOnThePath : Type 0
HandsetsLieOnThePath =
    (e : ℕ) (width : Width) (plan : CellPlan) (span fingers paging : ℕ)
    (traffic : Option Traffic) (header : Header) (samples : List Sample) →
    IsNearFile e width plan span fingers header samples → length samples ≡ header.count →
    IsOnPath plan (tuning_for (settings_for header fingers paging traffic) (take span samples))
