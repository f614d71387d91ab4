-- The channels of a transmitter, as it represents them.
use Rattle.std.specs.Prelude.{◌≡◌, ℕ, ◌<◌, ◌%◌, Bool, false, List, [], ◌∷◌, length}
use Rattle.cell_plan.specs.declared.form.ChannelForm.{ChannelForm}
use Rattle.cell_samples.specs.declared.symbol_source.SymbolSource.{SymbolSource}
use Rattle.cell_samples.specs.declared.symbol_source.SymbolSource.TheVariants.{Pilot, Continued}
use Rattle.cell_samples.specs.declared.symbol_source.SymbolSource.TheVariants.{Traffic}
use Rattle.cell_samples.specs.Continued.{continued_form, continued_frames, symbol_count}
use Rattle.cell_plan.specs.Signal.{Carrier, paging_form, pilot_form}
use Rattle.cell_plan.specs.TrafficFrames.{traffic_frame_symbols}

-- how long the frames and symbols of a source are
abbrev pub form_of : SymbolSource → ChannelForm
form_of Pilot = pilot_form
form_of (Continued source) = continued_form source
form_of (Traffic cycle) = paging_form

-- the symbols of each frame
abbrev pub source_symbols : SymbolSource → ℕ → List Bool
source_symbols Pilot = λ k. false ∷ []
source_symbols (Continued source) = continued_frames source
source_symbols (Traffic cycle) = traffic_frame_symbols cycle

-- a channel: its gain, its Walsh row, the local chip of its first frame, and its symbols' source
pub record ChannelState : Type 0 where
  pub gain : ℕ
  pub row : ℕ
  pub first : ℕ
  pub source : SymbolSource

-- the carrier that a channel sends
abbrev pub carrier_of : ChannelState → Carrier
carrier_of c = record {
  gain = c.gain;
  row = c.row;
  first = c.first;
  form = form_of c.source;
  symbols = source_symbols c.source;
}

-- A channel that keeps a frame's symbols. Its frames begin with periods of the Walsh rows.
pub record IsOpen (c : ChannelState) (kept : ℕ) (symbols : List Bool) : Type 0 where
  pub low : c.row < 64
  pub whole : c.first % 64 ≡ 0
  pub sent : symbols ≡ source_symbols c.source kept
  pub count : length symbols ≡ symbol_count (form_of c.source)
