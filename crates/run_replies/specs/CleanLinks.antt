-- The text for a clean link, channel by channel and frame by frame.
use Rattle.run_replies.specs.Common.{made_samples, CellPlan, events, Event, Traffic, KeptTap}
use Rattle.run_replies.specs.Common.{run_text, tuning_to, HearsEach}
use Rattle.std.specs.Prelude.{◌≡◌, ℕ, List, ◌++◌, Option, Some}
use Rattle.run_replies.specs.CleanFiles.{cell_energy}

-- After its earlier bytes a sink holds the text that taps write for a list of events. These are all
-- events of a handset in the cell's samples, the pilot at the cell's phase first, in the order in
-- which they are known. For each channel of the cell they are what it sends.
pub record WritesEach (taps : List KeptTap) (span : ℕ) (plan : CellPlan) (paging : ℕ)
    (followed : Option Traffic) (held : List ℕ) (written : Option (List ℕ)) : Type 0 where
  pub heard : List Event
  pub text : written ≡ Some (held ++ run_text taps heard)
  pub all : heard
      ≡ events (tuning_to plan (cell_energy span plan) paging followed) (made_samples plan)
  pub each : HearsEach plan paging followed heard
