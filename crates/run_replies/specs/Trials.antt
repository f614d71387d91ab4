-- The output of the command `trial`: the counts of what a handset receives on a number's link.
use Rattle.run_replies.specs.Common.{Sample, best_phase, made_samples, header_of, events, Tuning}
use Rattle.run_replies.specs.Common.{Event, Frame, Settings, is_frame, is_page, is_sync}
use Rattle.std.specs.Prelude.{◌^◌, ℕ, ◌+◌, ◌≤◌, Bool, false, if◌then◌else◌, List, ◌++◌, length}
use Rattle.std.specs.Prelude.{filter, take, codes, decimal, Some}
use Rattle.chip_core.specs.declared.width.Width.TheVariants.{Sixteen}
use Rattle.trial_link.specs.Trial.{trial_plan, trial_serial_number}
use Rattle.run_replies.specs.Hearing.{settings_for, tuning_for}
use Rattle.run_replies.specs.declared.counts.Counts.{Counts}

-- ---- counts

-- a good frame
abbrev pub is_good : Event → Bool
is_good (Frame n rate good bits power_bits) = good
is_good event = false

abbrev pub count_of : (Event → Bool) → List Event → ℕ
count_of is events = length (filter is events)

-- the number of events of each kind
unfoldable pub counts_of : List Event → Counts
counts_of events = record {
  syncs = count_of is_sync events;
  pagings = count_of is_page events;
  frames = count_of is_frame events;
  good = count_of is_good events;
}

abbrev pub one_if : Bool → ℕ
one_if is = if is then 1 else 0

-- the counts after another event
abbrev pub counts_with : Counts → Event → Counts
counts_with counts event = record {
  syncs = counts.syncs + one_if (is_sync event);
  pagings = counts.pagings + one_if (is_page event);
  frames = counts.frames + one_if (is_frame event);
  good = counts.good + one_if (is_good event);
}

-- each count can grow by `more` without exceeding 2^63
pub record LeavesRoom (counts : Counts) (more : ℕ) : Type 0 where
  pub syncs : counts.syncs + more ≤ 2 ^ 63
  pub pagings : counts.pagings + more ≤ 2 ^ 63
  pub frames : counts.frames + more ≤ 2 ^ 63
  pub good : counts.good + more ≤ 2 ^ 63

-- ---- the summary

-- one finger, paging channel 1, and the traffic channel with the hundred frames
abbrev pub trial_settings : ℕ → Settings
trial_settings number =
    settings_for (header_of Sixteen (trial_plan number)) 1 1
    (Some (record { esn = trial_serial_number number; row = 8; offset = 0 }))

-- the samples of the link
abbrev pub trial_samples : ℕ → List Sample
trial_samples number = made_samples (trial_plan number)

-- the samples in which the pilot is searched for
abbrev pub trial_span : ℕ → List Sample
trial_span number = take 2048 (trial_samples number)

abbrev pub trial_tuning : ℕ → Tuning
trial_tuning number = tuning_for (trial_settings number) (trial_span number)

-- `trial number=N samples=S phase=P syncs=A pagings=B frames=C good=D` and LF
unfoldable pub summary : ℕ → ℕ → ℕ → Counts → List ℕ
summary number samples phase counts =
    codes "trial number=" ++ decimal number ++ codes " samples=" ++ decimal samples
    ++ codes " phase=" ++ decimal phase ++ codes " syncs=" ++ decimal counts.syncs
    ++ codes " pagings=" ++ decimal counts.pagings ++ codes " frames=" ++ decimal counts.frames
    ++ codes " good=" ++ decimal counts.good ++ codes "\n"

-- the line of a number: the events of the handset over all samples of its link, counted
unfoldable pub trial_line : ℕ → List ℕ
trial_line number =
    summary number (trial_plan number).link.samples (best_phase (trial_span number))
    (counts_of (events (trial_tuning number) (trial_samples number)))
