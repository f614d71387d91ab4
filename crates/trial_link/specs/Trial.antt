-- The script of a trial: a whole link, drawn from a number by a generator.
use Rattle.std.specs.Prelude.{ℕ, zero, suc, ◌+◌, ◌*◌, ◌/◌, ◌%◌, ◌^◌, ◌==◌, Bool, false, List, []}
use Rattle.std.specs.Prelude.{if◌then◌else◌, ◌∷◌, ◌++◌, map, pos, Some}
use Rattle.chip_core.specs.Bits.{binary, places}
use Rattle.chip_core.specs.declared.check_form.CheckForm.TheVariants.{Complemented}
use Rattle.quality_bits.specs.TrafficCodewords.{information_of}
use Rattle.quality_bits.specs.declared.rate.Rate.{Rate}
use Rattle.quality_bits.specs.declared.rate.Rate.TheVariants.{R9600, R4800, R2400, R1200}
use Rattle.cell_plan.specs.SomeMessage.{some_sync}
use Rattle.cell_plan.specs.declared.plan.CellIdentity.{CellIdentity}
use Rattle.cell_plan.specs.declared.plan.CellPlan.{CellPlan}
use Rattle.cell_plan.specs.declared.plan.LinkPlan.{LinkPlan}
use Rattle.cell_plan.specs.declared.plan.Page.{Page}
use Rattle.cell_plan.specs.declared.plan.PagingPlan.{PagingPlan}
use Rattle.cell_plan.specs.declared.plan.SyncPlan.{SyncPlan}
use Rattle.cell_plan.specs.declared.plan.TrafficPlan.{TrafficPlan}
use Rattle.cell_plan.specs.declared.traffic_frame.FrameRate.TheVariants.{SetOne}
use Rattle.cell_script.specs.declared.statements.TrafficLine.{TrafficLine}
use Rattle.cell_plan.specs.declared.traffic_frame.TrafficFrame.{TrafficFrame}
use Rattle.cell_script.specs.Spelling.{script_of}

-- ---- draws

-- the generator's state after a draw: a linear congruence modulo 2^64
abbrev pub past_draw : ℕ → ℕ
past_draw state = (6364136223846793005 * state + 1442695040888963407) % 2 ^ 64

-- the number drawn from a state: the upper 32 bits of the state after the draw
abbrev pub drawn : ℕ → ℕ
drawn state = past_draw state / 2 ^ 32

-- the state after n draws
unfoldable pub past_draws : ℕ → ℕ → ℕ
past_draws state zero = state
past_draws state (suc n) = past_draw (past_draws state n)

-- n bits, each the lowest of a draw
unfoldable pub bits_drawn : ℕ → ℕ → List Bool
bits_drawn state n = map (λ k. drawn (past_draws state k) % 2 == 1) (places n)

-- ---- frames

abbrev pub rate_numbered : ℕ → Rate
rate_numbered k =
    if k == 0 then R9600 else (if k == 1 then R4800 else (if k == 2 then R2400 else R1200))

-- the rate of a frame that is drawn from a state
abbrev pub rate_drawn : ℕ → Rate
rate_drawn state = rate_numbered (drawn state % 4)

-- the number of draws for a frame's information bits, after the draw of its rate
abbrev pub bits_of_frame : ℕ → ℕ
bits_of_frame state = information_of (rate_drawn state)

-- a frame: its rate, its information bits, and its power control bits
abbrev pub frame_drawn : ℕ → TrafficFrame
frame_drawn state = record {
  rate = SetOne (rate_drawn state);
  information = bits_drawn (past_draw state) (bits_of_frame state);
  power_bits = bits_drawn (past_draws (past_draw state) (bits_of_frame state)) 16;
}

-- the state after a frame
abbrev pub past_frame : ℕ → ℕ
past_frame state = past_draws (past_draws (past_draw state) (bits_of_frame state)) 16

-- the state after n frames
unfoldable pub past_frames : ℕ → ℕ → ℕ
past_frames state zero = state
past_frames state (suc n) = past_frame (past_frames state n)

-- n frames, one after another
unfoldable pub frames_drawn : ℕ → ℕ → List TrafficFrame
frames_drawn state n = map (λ k. frame_drawn (past_frames state k)) (places n)

-- ---- what a number determines

-- the state of the long code at the cell's time: of 42 bits, and not 0
abbrev pub state_of_draws : ℕ → ℕ → ℕ
state_of_draws high low = if high * 1024 + low % 1024 == 0 then 1 else high * 1024 + low % 1024

-- the cell: PILOT_PN, the time, and the long code's state; the checks of all messages are
-- complemented
unfoldable pub trial_cell : ℕ → CellIdentity
trial_cell number = record {
  pn = drawn number % 512;
  time = drawn (past_draws number 1);
  lc = state_of_draws (drawn (past_draws number 2)) (drawn (past_draws number 3));
  check30 = Complemented;
  check16 = Complemented;
}

-- the electronic serial number of the handset that follows the link
unfoldable pub trial_serial_number : ℕ → ℕ
trial_serial_number number = drawn (past_draws number 4)

-- the hundred frames that are sent to that handset
unfoldable pub trial_frames : ℕ → List TrafficFrame
trial_frames number = frames_drawn (past_draws number 5) 100

-- a CDMA Channel List message of a cell, with one channel (TIA/EIA-95-B, 7.7.2.3.2.4)
unfoldable pub trial_page : ℕ → Page
trial_page pn = record {
  follows = false;
  body = binary 8 4 ++ (binary 9 pn ++ (binary 6 0 ++ binary 11 283));
}

-- the frame of the two other traffic channels
unfoldable pub other_frame : TrafficFrame
other_frame = record {
  rate = SetOne R1200;
  information = binary 16 0xffff;
  power_bits = binary 16 0x5555;
}

-- the channel that the handset follows, and the two others
abbrev pub followed_line : ℕ → TrafficLine
followed_line esn = record { row = 8; esn = esn; offset = 0; gain = 40 }

abbrev pub second_line : TrafficLine
second_line = record { row = 9; esn = 9; offset = 0; gain = 40 }

abbrev pub third_line : TrafficLine
third_line = record { row = 10; esn = 10; offset = 5; gain = 40 }

-- ---- the plan, and its script

unfoldable pub trial_sync : SyncPlan
trial_sync = some_sync 0

abbrev pub traffic_plan_of : TrafficLine → List TrafficFrame → TrafficPlan
traffic_plan_of line frames = record {
  row = line.row;
  esn = line.esn;
  offset = line.offset;
  gain = line.gain;
  frames = frames;
}

-- two seconds of a link that leaves the samples unchanged
abbrev pub trial_link : LinkPlan
trial_link = record { factor = record { i = pos 1; q = pos 0 }; start = 0; samples = 2457600 }

-- the paging channel of a cell, with one page
abbrev pub trial_paging : ℕ → PagingPlan
trial_paging pn = record { number = 1; gain = 60; pages = trial_page pn ∷ [] }

-- the three traffic channels, of which the handset follows the first
abbrev pub trial_traffic : ℕ → List TrafficFrame → List TrafficPlan
trial_traffic esn frames =
    traffic_plan_of (followed_line esn) frames
    ∷ (traffic_plan_of second_line (other_frame ∷ [])
    ∷ (traffic_plan_of third_line (other_frame ∷ []) ∷ []))

unfoldable pub trial_plan : ℕ → CellPlan
trial_plan number = record {
  cell = trial_cell number;
  link = trial_link;
  pilot = record { gain = 100 };
  sync = Some trial_sync;
  paging = trial_paging (trial_cell number).pn ∷ [];
  traffic = trial_traffic (trial_serial_number number) (trial_frames number);
}

-- the script of a number is that of its plan
unfoldable pub trial_text : ℕ → List ℕ
trial_text number = script_of (trial_plan number)
