-- Cells for worked values.
use Rattle.clean_signal.specs.Common.{CheckForm, Plain, SetOne, CellPlan, PagingPlan, SyncPlan}
use Rattle.clean_signal.specs.Common.{TrafficPlan, SetOneFrame, planned}
use Rattle.std.specs.Prelude.{ℕ, ◌^◌, pos, negsuc, List, [], ◌∷◌, map, Option, None}

-- a cell with these channels and this form of 16-bit checks, and samples from local chip `start` on
abbrev pub cell_with : ℕ → ℕ → CheckForm → Option SyncPlan → List PagingPlan → List TrafficPlan →
    CellPlan
cell_with start samples check16 sync paging traffic = record {
  cell = record { pn = 511; time = 1000; lc = 2 ^ 41; check30 = Plain; check16 = check16 };
  link = record { factor = record { i = pos 0; q = negsuc 2 }; start = start; samples = samples };
  pilot = record { gain = 100 };
  sync = sync;
  paging = paging;
  traffic = traffic;
}

-- a cell with only a traffic channel, on row 9, 3,072 chips after the system's frames
abbrev pub cell_of_frames : ℕ → ℕ → CheckForm → List SetOneFrame → CellPlan
cell_of_frames start samples check16 frames = cell_with start samples check16 None [] (record {
  row = 9;
  esn = 2882343476;
  offset = 2;
  gain = 40;
  frames = map (planned SetOne) frames;
} ∷ [])
