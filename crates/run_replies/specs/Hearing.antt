-- The text for a sample file, and the handset whose events determine it.
use Rattle.run_replies.specs.Common.{sample_spelling, near_deltas, sent_events, best_phase, Sample}
use Rattle.run_replies.specs.Common.{tuned_text, sync_sent, TunedText, Job, CellPlan, Header}
use Rattle.run_replies.specs.Common.{Settings, run_text, HasBits, CodeChannel, Traffic, KeptTap}
use Rattle.run_replies.specs.Common.{Width}
use Rattle.run_replies.specs.Common.{energy, events, Tuning, Status, Event, Pilot}
use Rattle.std.specs.Prelude.{◌≡◌, ℕ, ◌-◌, ◌≤◌, replicate, pos, slice_get, Bool, true, List, []}
use Rattle.std.specs.Prelude.{if◌then◌else◌, ◌++◌, length, take, All, Option, None, Some, is_some}
use Rattle.std.specs.Prelude.{nat_lt}
use Rattle.std.specs.List.{flat_map}
use Rattle.std.specs.Io.{StartsWith}
use Rattle.std.specs.Io.KnownBytes.{Appends, Consumes}
use Rattle.pilot_search.specs.declared.paths.Near.{Near}
use Rattle.heard_events.specs.Marks.{mark}
use Rattle.command_line.specs.Args.{IsFingers, IsLawfulTraffic, IsPaging, job_search}
use Rattle.command_line.specs.declared.job.Job.TheVariants.{Follow, Idle, Rate2, Survey}
use Rattle.event_tap.specs.EventLines.{event_line}
use Rattle.event_tap.specs.declared.tuned_text.TunedText.TheVariants.{Listed, RateSetTwo, Slots}
use Rattle.run_replies.specs.CleanFiles.{cell_energy}
use Rattle.run_replies.specs.Ranks.{survey_text}
use Rattle.run_ends.specs.declared.status.Status.TheVariants.{Done, NoSync}
use Rattle.command_line.specs.declared.job.Job.TheVariants as jobs
use Rattle.heard_events.specs.declared.channel.CodeChannel.TheVariants as channels

-- ---- the text of a file

-- the event of the samples' best phase
unfoldable pub best_pilot : List Sample → Event
best_pilot samples = Pilot (best_phase samples) (energy samples (best_phase samples))

-- the settings of a handset for a file of this header
abbrev pub settings_for : Header → ℕ → ℕ → Option Traffic → Settings
settings_for header fingers paging traffic = record {
  fingers = fingers;
  paging = paging;
  traffic = traffic;
  check30 = header.check30;
  check16 = header.check16;
  count = header.count;
}

-- the settings of a handset that only waits for the mark, so that its paging channel does not
-- matter
abbrev pub waiting : Header → ℕ → Settings
waiting header fingers = settings_for header fingers 1 None

-- the tuning of a handset with these settings, whose pilot was searched for in these first samples
abbrev pub tuning_for : Settings → List Sample → Tuning
tuning_for settings first =
    record {
      count = settings.count;
      phase = best_phase first;
      energy = energy first (best_phase first);
      deltas = near_deltas first (best_phase first) settings.fingers;
      check30 = settings.check30;
      check16 = settings.check16;
      paging = settings.paging;
      traffic = settings.traffic;
    }

-- the listener of a file: none, with only this text of its first samples written; or a handset
-- whose events these taps receive; or a handset for the mark, and then a receiver of one channel's
-- frames
pub data Listening : Type 0 where
  Unheard : List ℕ → Listening
  ByTaps : Tuning → List KeptTap → Listening
  ByFrames : Tuning → CodeChannel → TunedText → Listening

-- the traffic channel with these numbers
abbrev pub traffic_channel_with : ℕ → ℕ → ℕ → CodeChannel
traffic_channel_with esn row offset =
    channels.Traffic (record { esn = esn; row = row; offset = offset })

-- the listener of each command for a file with this header and these first samples; these taps
-- receive the events if a handset follows the file. `find` writes the line of the best pilot.
-- `make` and `trial` receive no file.
abbrev pub listening : List KeptTap → Job → Header → List Sample → Listening
listening taps (Follow span workers fingers paging traffic limits) header first =
    ByTaps (tuning_for (settings_for header fingers paging traffic) first) taps
listening taps (Rate2 span workers fingers offset esn row) header first =
    ByFrames (tuning_for (waiting header fingers) first) (traffic_channel_with esn row offset)
    RateSetTwo
listening taps (jobs.List span workers fingers offset esn row k) header first =
    ByFrames (tuning_for (waiting header fingers) first) (traffic_channel_with esn row offset)
    (Listed k)
listening taps (Idle span workers fingers paging key cycle) header first =
    ByFrames (tuning_for (waiting header fingers) first) (channels.Paging paging) (Slots key cycle)
listening taps (Survey span workers base width top) header first =
    Unheard (survey_text base width top first)
listening taps job header first = Unheard (event_line (best_pilot first))

-- the text for samples
unfoldable pub told : Listening → List Sample → List ℕ
told (Unheard text) samples = text
told (ByTaps t taps) samples = run_text taps (events t samples)
told (ByFrames t channel text) samples = tuned_text text t channel samples

-- the number of first samples in which the pilot is searched for, or all pilots are measured
abbrev pub span_of : Job → ℕ
span_of job = (job_search job).span

-- the listener of a file with this header and these samples
abbrev pub listening_to : List KeptTap → Job → Header → List Sample → Listening
listening_to taps job header samples = listening taps job header (take (span_of job) samples)

-- the text of a file, or of its first samples if only these are known
unfoldable pub file_text : List KeptTap → Job → Header → List Sample → List ℕ
file_text taps job header samples = told (listening_to taps job header samples) samples

-- whether a sync message set the mark; true without a listener
abbrev pub is_told : Listening → List Sample → Bool
is_told (Unheard text) samples = true
is_told (ByTaps t taps) samples = is_some (mark t samples (length samples))
is_told (ByFrames t channel text) samples = is_some (mark t samples (length samples))

abbrev pub end_when : Bool → Status
end_when told = if told then Done else NoSync

-- how a run over a good file ends, whatever the taps
unfoldable pub file_end_of : Job → Header → List Sample → Status
file_end_of job header samples = end_when (is_told (listening_to [] job header samples) samples)

-- a job whose files need no sync message, because it has no listener
abbrev pub IsUnheard : Job → Type 0
IsUnheard job =
    (header : Header) (first samples : List Sample) →
    is_told (listening [] job header first) samples ≡ true

-- the events of a clean link: the pilot at the cell's phase, all whole transmissions, the whole
-- pages of the followed paging channel, and the frames of the followed traffic channel with the
-- messages that their signaling spells and the pilot sets
unfoldable pub clean_events : ℕ → CellPlan → ℕ → Option Traffic → List Event
clean_events span plan paging traffic = sent_events plan (cell_energy span plan) paging traffic

-- how a run over a clean link ends: the first whole sync transmission sets the mark
abbrev pub clean_end : CellPlan → Status
clean_end plan = end_when (nat_lt 0 (length (sync_sent plan)))

-- ---- the results of the search

-- the paths near the best phase of samples, as many as the receiver has fingers
abbrev pub AreNearTo : List Sample → ℕ → ℕ → Near → Type 0
AreNearTo samples phase fingers near =
    (near.count ≡ fingers) ×
    (near.deltas ≡ near_deltas samples phase fingers ++ replicate (3 - fingers) (pos 0))

-- one to three fingers, one of the seven paging channels, and a traffic channel that fits it, or
-- none
abbrev pub IsLawfulHandset : ℕ → ℕ → Option Traffic → Type 0
IsLawfulHandset fingers paging traffic =
    IsFingers fingers × IsPaging paging × IsLawfulTraffic paging traffic

-- one to three paths, the best phase first
abbrev pub AreReady : Near → Type 0
AreReady near = (1 ≤ near.count) × (near.count ≤ 3) × (slice_get near.deltas 0 ≡ Some (pos 0))

-- ---- what a sink received

-- a sink received the part of the text of `heard` that follows the text of `before`
pub record GainsText (l : Listening) (before heard : List Sample) (old new : Option (List ℕ)) :
    Type 0 where
  pub text : List ℕ
  pub written : Appends old new text
  pub all : told l before ++ text ≡ told l heard

-- a sink received a prefix of that part
pub record GainsPrefix (l : Listening) (before heard : List Sample) (old new : Option (List ℕ)) :
    Type 0 where
  pub text : List ℕ
  pub written : Appends old new text
  pub begins : StartsWith (told l heard) (told l before ++ text)

-- the spellings of at most `most` samples, each within its width, and possibly more bytes were
-- taken from a source; a sink received a prefix of their text
pub record LosesSamples (l : Listening) (width : Width) (most : ℕ) (heard : List Sample)
    (rest left old new : Option (List ℕ)) : Type 0 where
  pub samples : List Sample
  pub more : List ℕ
  pub number : length samples ≤ most
  pub in_range : All (HasBits width) samples
  pub consumed : Consumes rest left (flat_map (sample_spelling width) samples ++ more)
  pub tells : GainsPrefix l heard (heard ++ samples) old new
