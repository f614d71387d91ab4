-- The signal of a traffic channel (TIA/EIA-95-B, 7.1.3.5): frames, repeated.
use Rattle.std.specs.Prelude.{◌≡◌, ℕ, ◌+◌, ◌*◌, ◌%◌, ◌^◌, ◌<◌, ◌≤◌, Bool, false, List, [], ◌∷◌, All}
use Rattle.std.specs.Prelude.{length, replicate, take, drop, Option, Some, None, option_and_then}
use Rattle.std.specs.Prelude.{option_map}
use Rattle.std.specs.List.{flat_map}
use Rattle.std.specs.Option.{option_map_or}
use Rattle.chip_core.specs.Air.{data_frame_chips, frame_offset_chips}
use Rattle.long_code.specs.LongCode.{after, IsState}
use Rattle.conv_code.specs.ConvCode.{code_symbols}
use Rattle.symbol_path.specs.Scrambling.{scrambling, with_power_bits}
use Rattle.symbol_path.specs.SentOrder.{data_shape, sent}
use Rattle.quality_bits.specs.TrafficCodewords.{repeats_of, information_of, traffic_codeword}
use Rattle.symbol_path.specs.FramesTwo.{sent_frame2}
use Rattle.symbol_path.specs.declared.rate_two.Rate2.{Rate2}
use Rattle.quality_bits.specs.declared.rate.Rate.{Rate}
use Rattle.cell_plan.specs.declared.plan.CellIdentity.{CellIdentity}
use Rattle.cell_plan.specs.declared.traffic_frame.FrameRate.{FrameRate}
use Rattle.cell_plan.specs.declared.traffic_frame.FrameRate.TheVariants.{SetOne, SetTwo}
use Rattle.cell_plan.specs.declared.traffic_frame.RateSet.{RateSet}
use Rattle.cell_plan.specs.declared.traffic_frame.RateSet.TheVariants.{One, Two}
use Rattle.cell_plan.specs.declared.traffic_frame.TrafficFrame.{TrafficFrame}
use Rattle.cell_plan.specs.PageCycles.{scrambled}
use Rattle.symbol_path.specs.RatesTwo as second

-- ---- a frame

-- the rate set of a rate
abbrev pub rate_set : FrameRate → RateSet
rate_set (SetOne rate) = One
rate_set (SetTwo rate) = Two

-- the number of information bits in a frame of a rate
abbrev pub information_bits_of : FrameRate → ℕ
information_bits_of (SetOne rate) = information_of rate
information_bits_of (SetTwo rate) = second.information_of2 rate

-- a frame with as many information bits as its rate has
abbrev pub IsTrafficFrame : TrafficFrame → Type 0
IsTrafficFrame f = length f.information ≡ information_bits_of f.rate

-- The 384 symbols of a frame with this information before they are scrambled. The encoder starts in
-- state zero.
unfoldable pub placed_symbols : FrameRate → List Bool → List Bool
placed_symbols (SetOne rate) information =
    let code = code_symbols (replicate 8 false) (traffic_codeword rate information) in
    sent data_shape (repeats_of rate) code
placed_symbols (SetTwo rate) information = sent_frame2 rate information

-- the 384 symbols of a frame as they are sent, made from those before scrambling; power control
-- bits replace symbols after scrambling
abbrev pub sent_with : ℕ → ℕ → List Bool → List Bool → List Bool
sent_with state mask power_bits symbols =
    with_power_bits state mask power_bits (scrambled (scrambling state mask) symbols)

-- the 384 symbols of a frame that begins at a state of the long code, under a mask
unfoldable pub traffic_symbols : ℕ → ℕ → TrafficFrame → List Bool
traffic_symbols state mask f =
    sent_with state mask f.power_bits (placed_symbols f.rate f.information)

-- ---- frames of one rate set

-- a frame at one of the rates of a set
pub record FrameAt (R : Type 0) : Type 0 where
  pub rate : R
  pub information : List Bool
  pub power_bits : List Bool

abbrev pub SetOneFrame : Type 0
SetOneFrame = FrameAt Rate

abbrev pub SetTwoFrame : Type 0
SetTwoFrame = FrameAt Rate2

-- the same frame with its rate as a `FrameRate`
abbrev pub planned : {R : Type 0} → (R → FrameRate) → FrameAt R → TrafficFrame
planned at f = record { rate = at f.rate; information = f.information; power_bits = f.power_bits }

abbrev pub IsSetOneFrame : SetOneFrame → Type 0
IsSetOneFrame f = IsTrafficFrame (planned SetOne f)

abbrev pub IsSetTwoFrame : SetTwoFrame → Type 0
IsSetTwoFrame f = IsTrafficFrame (planned SetTwo f)

-- a rate as one of rate set 1, and as one of rate set 2
abbrev pub in_set_one : FrameRate → Option Rate
in_set_one (SetOne rate) = Some rate
in_set_one (SetTwo rate) = None

abbrev pub in_set_two : FrameRate → Option Rate2
in_set_two (SetOne rate) = None
in_set_two (SetTwo rate) = Some rate

-- a frame as one of a set
abbrev pub frame_of_set : {R : Type 0} → (FrameRate → Option R) → TrafficFrame → Option (FrameAt R)
frame_of_set {R} in_set f =
    option_map (λ (rate : R).
    record { rate = rate; information = f.information; power_bits = f.power_bits })
    (in_set f.rate)

-- frames as those of a set, if all of them are
abbrev pub all_of_set : {R : Type 0} → (FrameRate → Option R) → List TrafficFrame →
    Option (List (FrameAt R))
all_of_set in_set [] = Some []
all_of_set {R} in_set (f ∷ frames) =
    option_and_then (λ (first : FrameAt R).
    option_map (λ (rest : List (FrameAt R)). first ∷ rest) (all_of_set in_set frames))
    (frame_of_set in_set f)

-- the frames of a channel of the set; none if the channel is of another set
abbrev pub frames_of_set : {R : Type 0} → (FrameRate → Option R) → List TrafficFrame →
    List (FrameAt R)
frames_of_set {R} in_set frames =
    option_map_or (λ (all : List (FrameAt R)). all) (all_of_set in_set frames) []

abbrev pub set_one : List TrafficFrame → List SetOneFrame
set_one = frames_of_set in_set_one

abbrev pub set_two : List TrafficFrame → List SetTwoFrame
set_two = frames_of_set in_set_two

-- ---- a channel's frames

-- the frames of a channel, which a cell sends under a mask of the long code, with a FRAME_OFFSET
pub record FrameCycle : Type 0 where
  pub cell : CellIdentity
  pub mask : ℕ
  pub offset : ℕ
  pub frames : List TrafficFrame

-- the one frame of a list that is sent as frame k
abbrev pub frames_in_turn : {F : Type 0} → List F → ℕ → List F
frames_in_turn frames k = take 1 (drop (k % length frames) frames)

-- the same for a channel of rate set 1
abbrev pub cycled_frame : FrameCycle → ℕ → List SetOneFrame
cycled_frame c k = frames_in_turn (set_one c.frames) k

-- the long code's state at the first chip of frame k
abbrev pub sent_frame_state : FrameCycle → ℕ → ℕ
sent_frame_state c k = after c.cell.lc (data_frame_chips * k + frame_offset_chips * c.offset)

-- the 384 symbols of frame k as they are sent
unfoldable pub traffic_frame_symbols : FrameCycle → ℕ → List Bool
traffic_frame_symbols c k =
    flat_map (traffic_symbols (sent_frame_state c k) c.mask) (frames_in_turn c.frames k)

-- frames that can be sent: FRAME_OFFSET is 0 to 15 (7.1.3.5.1)
pub record IsFrameCycle (c : FrameCycle) : Type 0 where
  pub lc : IsState c.cell.lc
  pub mask : c.mask < 2 ^ 42
  pub offset : c.offset ≤ 15
  pub some : 1 ≤ length c.frames
  pub frames : All IsTrafficFrame c.frames
