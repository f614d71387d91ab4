-- The frames of a traffic channel that a cell sends from the mark on and that a file holds whole
-- (TIA/EIA-95-B, 7.1.3.5).
use Rattle.clean_frames.specs.Common.{data_frame_chips, frame_offset_chips, places, sign, frames_of}
use Rattle.clean_frames.specs.Common.{traffic_mask, power_places, frame_codeword, IsUnshared, split}
use Rattle.clean_frames.specs.Common.{ShowSymbols, frame_symbols, is_replaced, cycled_frame}
use Rattle.clean_frames.specs.Common.{sent_frame_state, sent_with, set_one, set_two, CellPlan}
use Rattle.clean_frames.specs.Common.{traffic_frame_symbols, TrafficPlan, SetOneFrame, Traffic}
use Rattle.std.specs.Prelude.{ℕ, ◌+◌, ◌-◌, ◌*◌, ◌/◌, ◌<◌, ◌≤◌, ◌≡◌, ◌&&◌, Bool, true, false, nat_le}
use Rattle.std.specs.Prelude.{List, map, filter, length, get_or, ℤ, pos, ◌*ℤ◌, All, Option}
use Rattle.std.specs.List.{flat_map}
use Rattle.std.specs.Option.{option_to_list}
use Rattle.clean_frames.specs.WholePages.{end_chip}

-- ---- a channel that is followed

-- a channel that is sent is the one assigned to a handset
pub record IsAssigned (p : TrafficPlan) (traffic : Traffic) : Type 0 where
  pub row : p.row ≡ traffic.row
  pub esn : p.esn ≡ traffic.esn
  pub offset : p.offset ≡ traffic.offset

-- a channel whose frames are of rate set 1, and one whose frames are of rate set 2
abbrev pub SendsSetOne : TrafficPlan → Type 0
SendsSetOne p = 1 ≤ length (set_one p.frames)

abbrev pub SendsSetTwo : TrafficPlan → Type 0
SendsSetTwo p = 1 ≤ length (set_two p.frames)

-- ---- what a frame sends

-- the 384 symbols of a frame before scrambling, in the order in which they are sent
abbrev pub codeword_symbols : SetOneFrame → List Bool
codeword_symbols f = frame_symbols f.rate (frame_codeword f.rate f.information)

-- the power control bits of a frame's 16 groups, from a list of bits
unfoldable pub sent_bits : List Bool → List Bool
sent_bits power_bits = map (λ g. get_or power_bits g false) (places 16)

abbrev pub sent_power_bits : SetOneFrame → List Bool
sent_power_bits f = sent_bits f.power_bits

-- At the places that power control bits replace, the soft values, which are not descrambled, are a
-- number times the sign of the group's bit.
abbrev pub ShowPowerBits : List ℕ → ℕ → List Bool → List ℤ → Type 0
ShowPowerBits replaced strength power_bits softs =
    (i : ℕ) → i < 384 → is_replaced replaced i ≡ true →
    get_or softs i (pos 0) ≡ pos strength *ℤ sign (get_or power_bits (i / 24) false)

-- No other codeword, at any of the four rates, has the frame's symbols at the places that no power
-- control bit replaces, whether that codeword's quality bits are right or not.
abbrev pub IsDistinctFrame : List ℕ → SetOneFrame → Type 0
IsDistinctFrame replaced f = IsUnshared replaced f.rate (frame_codeword f.rate f.information)

-- Frame `frame` of a channel of any rate set sends these 384 symbols, here before scrambling and in
-- the order in which they are sent; these power control bits replace some of them.
pub record SendsSymbols (plan : CellPlan) (p : TrafficPlan) (frame : ℕ)
    (symbols power_bits : List Bool) : Type 0 where
  pub all : length symbols ≡ 384
  pub given : traffic_frame_symbols (frames_of plan p) frame
      ≡ sent_with (sent_frame_state (frames_of plan p) frame) (traffic_mask p.esn) power_bits
      symbols

-- Soft values of a frame that show what it sends: at the places that no power control bit replaces,
-- they are, descrambled, one positive number times the signs of its symbols.
pub record ShowFrame (replaced : List ℕ) (strength : ℕ) (symbols : List Bool)
    (descrambled : List ℤ) : Type 0 where
  pub strong : 0 < strength
  pub long : length descrambled ≡ 384
  pub shows : ShowSymbols replaced strength symbols descrambled

-- ---- the frames of a channel

-- the places in frame `frame` of the symbols that power control bits replace
abbrev pub replaced_of : CellPlan → TrafficPlan → ℕ → List ℕ
replaced_of plan p frame = power_places (sent_frame_state (frames_of plan p) frame)
    (traffic_mask p.esn)

-- the local chip at which frame `frame` begins
abbrev pub frame_chip : TrafficPlan → ℕ → ℕ
frame_chip p frame = frame_offset_chips * p.offset + data_frame_chips * frame

-- whether frame `frame` begins at local chip `mark_chip`, the mark, or later and lies in the file
abbrev pub is_received : CellPlan → TrafficPlan → ℕ → ℕ → Bool
is_received plan p mark_chip frame =
    nat_le mark_chip (frame_chip p frame) && nat_le (frame_chip p (frame + 1)) (end_chip plan)

-- the received frames, in order
abbrev pub received_frames : CellPlan → TrafficPlan → ℕ → List ℕ
received_frames plan p mark_chip =
    filter (is_received plan p mark_chip) (places (end_chip plan / data_frame_chips + 1))

-- each received frame is distinct
abbrev pub AreDistinct : CellPlan → TrafficPlan → ℕ → Type 0
AreDistinct plan p mark_chip = (frame : ℕ) → is_received plan p mark_chip frame ≡ true →
    All (IsDistinctFrame (replaced_of plan p frame)) (cycled_frame (frames_of plan p) frame)

-- the number of samples at which frame `frame` ends
abbrev pub frame_ends : CellPlan → TrafficPlan → ℕ → ℕ
frame_ends plan p frame = frame_chip p (frame + 1) - plan.link.start

-- ---- the signaling in them (TIA/EIA-95-B, 7.1.3.5.11)

-- a frame's signaling, if it has any
abbrev pub signal_sent : SetOneFrame → Option (List Bool)
signal_sent f = (split f.rate f.information).signal

-- the signaling of the frame that is sent as frame `frame`
abbrev pub signals_in : CellPlan → TrafficPlan → ℕ → List (List Bool)
signals_in plan p frame =
    flat_map (λ (f : SetOneFrame). option_to_list (signal_sent f))
    (cycled_frame (frames_of plan p) frame)

-- the signaling parts of the received frames before frame `frame`, in order; the mark is at local
-- chip `mark_chip`
abbrev pub signals_received : CellPlan → TrafficPlan → ℕ → ℕ → List (List Bool)
signals_received plan p mark_chip frame =
    flat_map (signals_in plan p) (filter (is_received plan p mark_chip) (places frame))
