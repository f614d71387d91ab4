-- The tuning of a handset.
use Rattle.std.specs.Prelude.{ℕ, ◌+◌, ◌-◌, ◌/◌, ◌%◌, true, List, [], take, ℤ, Option}
use Rattle.chip_core.specs.declared.check_form.CheckForm.{CheckForm}
use Rattle.frame_decoder.specs.Spans.{sync_channel}
use Rattle.pilot_search.specs.declared.paths.Near.{Near}
use Rattle.pilot_search.specs.declared.sweeping.Best.{Best}
use Rattle.rake_finger.specs.Paths.{fingers_of}
use Rattle.rake_finger.specs.declared.form.Form.TheVariants.{Sync}
use Rattle.heard_events.specs.Streams.{Stream}
use Rattle.heard_events.specs.declared.settings.Settings.{Settings}
use Rattle.chip_core.specs.declared.assignment.Traffic.{Traffic}

-- the number of samples in the file, the best phase and its energy, the delta of each finger, how
-- the 30-bit and the 16-bit checks are sent, the number of the paging channel, and the traffic
-- channel, if one is followed
pub record Tuning : Type 0 where
  pub count : ℕ
  pub phase : ℕ
  pub energy : ℕ
  pub deltas : List ℤ
  pub check30 : CheckForm
  pub check16 : CheckForm
  pub paging : ℕ
  pub traffic : Option Traffic

-- the tuning for these settings, with the phase, the energy and the deltas that the search found
abbrev pub tuning_by : Settings → Best → Near → Tuning
tuning_by settings best near =
    record {
      count = settings.count;
      phase = best.phase;
      energy = best.energy;
      deltas = take near.count near.deltas;
      check30 = settings.check30;
      check16 = settings.check16;
      paging = settings.paging;
      traffic = settings.traffic;
    }

-- The sync channel is Walsh row 32, and its frames begin where the pilot's code does (TIA/EIA-95-B,
-- 7.1.3.3).
abbrev pub sync_stream : Tuning → Stream
sync_stream t = record {
  channel = sync_channel;
  form = Sync;
  fingers = fingers_of 32 t.phase t.deltas;
  first = (32768 - t.phase) % 32768;
  scrambling = λ k. [];
  waits = true;
}

-- a bound above the number of frames that end within n samples
abbrev pub sync_bound : ℕ → ℕ
sync_bound n = n / 32768 + 1
