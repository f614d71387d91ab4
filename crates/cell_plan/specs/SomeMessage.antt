-- A sync channel for worked values and for trials.
use Rattle.cell_plan.specs.Common.{SyncFields, SyncPlan}
use Rattle.std.specs.Prelude.{ℕ, false, None, replicate}

-- a message of 25 octets, with this LC_STATE
abbrev pub some_message : ℕ → SyncFields
some_message lc = record {
  prev = 3;
  min = 1;
  sid = 1;
  nid = 2;
  pn = 0;
  lc = lc;
  time = 0;
  lp = 13;
  ltm = 0;
  daylt = 0;
  prat = 0;
  freq = None;
  rest = replicate 3 false;
}

-- the channel that sends it
abbrev pub some_sync : ℕ → SyncPlan
some_sync lc = record { gain = 30; message = some_message lc }
