-- The signal of a cell, chip by chip, and the samples that a handset receives from it
-- (TIA/EIA-95-B, 7.1.3.1).
use Rattle.cell_plan.specs.Common.{origin, plus, times, Pair, walsh, CellPlan, SyncPlan, PagingPlan}
use Rattle.cell_plan.specs.Common.{paging_mask, traffic_mask, TrafficPlan}
use Rattle.std.specs.Prelude.{ℕ, ◌+◌, ◌-◌, ◌*◌, ◌/◌, ◌%◌, Bool, false, if◌then◌else◌, nat_lt, List}
use Rattle.std.specs.Prelude.{[], ◌∷◌, ◌++◌, map, get_or, ℤ, pos, ◌+ℤ◌, ◌*ℤ◌, Option, Some, None}
use Rattle.chip_core.specs.Air.{data_frame_chips, frame_offset_chips}
use Rattle.chip_core.specs.Bits.{sign, places}
use Rattle.short_code.specs.Despread.{code_point}
use Rattle.cell_plan.specs.declared.form.ChannelForm.{ChannelForm}
use Rattle.cell_plan.specs.PageCycles.{cycle_symbols, Cycle}
use Rattle.cell_plan.specs.Pages.{page_cycle, sent_paging_rate}
use Rattle.cell_plan.specs.Sendings.{sync_symbols}
use Rattle.cell_plan.specs.TrafficFrames.{traffic_frame_symbols, FrameCycle}

-- A channel that is sent: its gain, its Walsh row, the local chip at which its first frame begins,
-- the lengths of its frames and symbols, and the symbols of each frame by the frame's number.
pub record Carrier : Type 0 where
  pub gain : ℕ
  pub row : ℕ
  pub first : ℕ
  pub form : ChannelForm
  pub symbols : ℕ → List Bool

-- the symbol of a channel whose frames follow one another from a first chip on
abbrev pub symbol_at : ℕ → ℕ → ℕ → (ℕ → List Bool) → ℕ → Option Bool
symbol_at first frame_chips symbol_chips symbols chip =
    if nat_lt chip first then None
    else Some (get_or (symbols ((chip - first) / frame_chips))
    ((chip - first) % frame_chips / symbol_chips) false)

-- the symbol of a channel at a local chip, none before its first frame
abbrev pub symbol_of : Carrier → ℕ → Option Bool
symbol_of c chip = symbol_at c.first c.form.frame_chips c.form.symbol_chips c.symbols chip

-- the gain with the symbol's sign, or 0 if there is no symbol
abbrev pub level_of : ℕ → Option Bool → ℤ
level_of gain None = pos 0
level_of gain (Some symbol) = pos gain *ℤ sign symbol

abbrev pub level : ℕ → Carrier → ℤ
level chip c = level_of c.gain (symbol_of c chip)

-- The level with the sign of the channel's row. A row's chip 0 falls on the local chips that are
-- multiples of 64.
abbrev pub amplitude : ℕ → Carrier → ℤ
amplitude chip c = level chip c *ℤ sign (walsh c.row (chip % 64))

-- the sum of channels' amplitudes
abbrev pub amplitudes : ℕ → List Carrier → ℤ
amplitudes chip [] = pos 0
amplitudes chip (c ∷ carriers) = amplitude chip c +ℤ amplitudes chip carriers

abbrev pub scaled : ℤ → Pair → Pair
scaled x z = record { i = x *ℤ z.i; q = x *ℤ z.q }

-- What channels send at a local chip, spread by the pilot's codes, which lie 64 chips later for
-- each step of their offset.
unfoldable pub sent_chip : ℕ → List Carrier → ℕ → Pair
sent_chip pn [] chip = origin
sent_chip pn (c ∷ carriers) chip =
    plus (scaled (amplitude chip c) (code_point (chip + 32768 - 64 * pn)))
    (sent_chip pn carriers chip)

-- ---- the channels of a cell

-- the pilot sends one symbol 0 after the other (7.1.3.2)
abbrev pub pilot_form : ChannelForm
pilot_form = record { frame_chips = 64; symbol_chips = 64 }

abbrev pub pilot_carrier : CellPlan → Carrier
pilot_carrier plan =
    record {
      gain = plan.pilot.gain;
      row = 0;
      first = 0;
      form = pilot_form;
      symbols = λ k. false ∷ [];
    }

-- sync frames begin where the cell's code chip is 0 (7.1.3.3)
abbrev pub sync_form : ChannelForm
sync_form = record { frame_chips = 32768; symbol_chips = 256 }

-- a paging or traffic channel's symbols last one period of its row (7.1.3.4, 7.1.3.5)
abbrev pub paging_form : ChannelForm
paging_form = record { frame_chips = data_frame_chips; symbol_chips = 64 }

abbrev pub sync_carrier : CellPlan → SyncPlan → Carrier
sync_carrier plan sync = record {
  gain = sync.gain;
  row = 32;
  first = 64 * plan.cell.pn;
  form = sync_form;
  symbols = sync_symbols plan.cell sync.message;
}

abbrev pub sync_carriers : CellPlan → Option SyncPlan → List Carrier
sync_carriers plan None = []
sync_carriers plan (Some sync) = sync_carrier plan sync ∷ []

-- the half-frames that a paging channel sends under its own mask of the long code (7.7.2)
abbrev pub cycle_of : CellPlan → PagingPlan → Cycle
cycle_of plan p =
    record {
      cell = plan.cell;
      mask = paging_mask p.number plan.cell.pn;
      rate = sent_paging_rate plan.sync;
      bits = page_cycle (sent_paging_rate plan.sync) plan.cell.check30 p.pages;
    }

-- paging frames begin at local chip 0, and a channel's row is its number (7.1.3.4)
abbrev pub paging_carrier : CellPlan → PagingPlan → Carrier
paging_carrier plan p = record {
  gain = p.gain;
  row = p.number;
  first = 0;
  form = paging_form;
  symbols = cycle_symbols (cycle_of plan p);
}

-- the frames that a traffic channel sends under the public mask of its handset (7.1.3.1.6)
abbrev pub frames_of : CellPlan → TrafficPlan → FrameCycle
frames_of plan t =
    record { cell = plan.cell; mask = traffic_mask t.esn; offset = t.offset; frames = t.frames }

-- the frames of a traffic channel begin 1,536 chips later for each step of its FRAME_OFFSET
-- (7.1.3.5.1)
abbrev pub traffic_carrier : CellPlan → TrafficPlan → Carrier
traffic_carrier plan t = record {
  gain = t.gain;
  row = t.row;
  first = frame_offset_chips * t.offset;
  form = paging_form;
  symbols = traffic_frame_symbols (frames_of plan t);
}

unfoldable pub carriers : CellPlan → List Carrier
carriers plan =
    pilot_carrier plan
    ∷ (sync_carriers plan plan.sync ++ map (paging_carrier plan) plan.paging
    ++ map (traffic_carrier plan) plan.traffic)

-- ---- its samples

-- sample t of the cell's file
unfoldable pub sample_of : CellPlan → ℕ → Pair
sample_of plan t =
    times plan.link.factor (sent_chip plan.cell.pn (carriers plan) (plan.link.start + t))

-- all samples of the cell's file
unfoldable pub samples_of : CellPlan → List Pair
samples_of plan = map (sample_of plan) (places plan.link.samples)
