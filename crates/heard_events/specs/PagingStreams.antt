-- The frames of a paging channel, from the mark on (TIA/EIA-95-B, 7.1.3.4 and 7.7.2).
use Rattle.std.specs.Prelude.{ℕ, ◌+◌, ◌*◌, ◌/◌, ◌==◌, true, if◌then◌else◌}
use Rattle.chip_core.specs.Air.{data_frame_chips}
use Rattle.frame_decoder.specs.Spans.{paging_channel}
use Rattle.long_code.specs.LongCode.{after, paging_mask}
use Rattle.rake_finger.specs.declared.form.Form.TheVariants.{Data}
use Rattle.symbol_path.specs.Scrambling.{scrambling}
use Rattle.quality_bits.specs.declared.rate.Rate.{Rate}
use Rattle.quality_bits.specs.declared.rate.Rate.TheVariants.{R9600, R4800}
use Rattle.heard_events.specs.Streams.{Stream}
use Rattle.heard_events.specs.Tuning.{Tuning}
use Rattle.rake_finger.specs.Paths.{fingers_of}
use Rattle.heard_events.specs.declared.mark.Mark.{Mark}

-- PRAT 0 means 9,600 bits a second, and PRAT 1 means 4,800
abbrev pub paging_rate : ℕ → Rate
paging_rate prat = if prat == 1 then R4800 else R9600

-- Frame 0 begins at the mark. A paging channel has the Walsh row of its number, and each frame is
-- scrambled by the long code from the frame's first chip on, under the channel's mask.
abbrev pub paging_stream : Tuning → ℕ → Mark → Stream
paging_stream t channel m = record {
  channel = paging_channel (paging_rate m.prat);
  form = Data;
  fingers = fingers_of channel t.phase t.deltas;
  first = m.sample;
  scrambling = λ k. scrambling (after m.state (data_frame_chips * k)) (paging_mask channel m.pilot);
  waits = true;
}

-- a bound above the number of frames that end within n samples
abbrev pub paging_bound : ℕ → ℕ
paging_bound n = n / data_frame_chips + 1
