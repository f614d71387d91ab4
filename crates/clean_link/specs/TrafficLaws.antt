-- What comes back of a traffic channel after a true mark in a file of any origin, by the signs of
-- its soft values, and the soft values on a clean link (TIA/EIA-95-B, 7.1.3.5).
use Rattle.clean_link.specs.Common.{places, Sample, Width, kept_count, ShowSymbols, Data, frames_of}
use Rattle.clean_link.specs.Common.{made_samples, cycled_frame, CellPlan, TrafficPlan, SetOneFrame}
use Rattle.clean_link.specs.Common.{frames_at, legs_at, messages_at, frame_softs, power_bits_at}
use Rattle.clean_link.specs.Common.{decoded_at, frame_heard, raw_softs, has_frame, replaced_in, Leg}
use Rattle.clean_link.specs.Common.{stream_of, Tuning, Mark, Traffic, IsReceivable, Decoded, Rate}
use Rattle.clean_link.specs.Common.{Rate2, IsAllowed, Codeword, Zero, frame_codeword, unreplaced}
use Rattle.clean_link.specs.Common.{FrameFormat, bits_in, format_of, score_in, HasSign, KeepSigns}
use Rattle.clean_link.specs.Common.{is_replaced, soft_strength, frame_ends, received_frames}
use Rattle.clean_link.specs.Common.{sent_power_bits, codeword_symbols, AreDistinct, IsAssigned}
use Rattle.clean_link.specs.Common.{IsDistinctFrame, SendsSetOne, ShowPowerBits}
use Rattle.std.specs.Prelude.{ℕ, ◌+◌, ◌-◌, ◌*◌, ◌<◌, ◌≤◌, ◌≡◌, true, List, [], ◌∷◌, length, map, ℤ}
use Rattle.std.specs.Prelude.{pos, All, ◌<ℤ◌, ◌/◌, Bool, false, get_or}
use Rattle.std.specs.List.{Contains, flat_map}
use Rattle.clean_link.specs.CleanLink.{IsNotDirected, IsOnPath, IsTrueMark}
use Rattle.clean_link.specs.HeardFrames.{frames_of_channel, IsOnePilot, messages_of_channel}
use Rattle.clean_link.specs.SentSigns.{TrafficFrameHasSigns}
use Rattle.rate_set_two.specs.TrafficFrames as second

-- A handset after a true mark, which was assigned a traffic channel that the cell sends.
pub record HearsSentTraffic (width : Width) (plan : CellPlan) (p : TrafficPlan) (t : Tuning)
    (traffic : Traffic) (m : Mark) (superframes : ℕ) : Type 0 where
  pub receivable : IsReceivable width plan
  pub sent : Contains plan.traffic p
  pub assigned : IsAssigned p traffic
  pub tuned : IsOnPath plan t
  pub marked : IsTrueMark plan m superframes

-- Frame k after the mark is heard only from the reference's pilot, lies in the file, and is frame
-- f. The channel sends it k frames after the first that begins at the mark's superframe or later;
-- each superframe has four.
pub record IsHeardAs (plan : CellPlan) (p : TrafficPlan) (t : Tuning) (traffic : Traffic)
    (m : Mark) (legs : ℕ → List Leg) (superframes k : ℕ) (f : SetOneFrame) : Type 0 where
  pub pilot : IsOnePilot traffic (legs k)
  pub here : has_frame t traffic m legs k ≡ true
  pub frame : cycled_frame (frames_of plan p) (4 * superframes + k) ≡ f ∷ []

-- ---- handoff

-- no message that is received on the channel within n samples directs a handoff
abbrev pub IsUndirected : Tuning → Traffic → Mark → List Sample → ℕ → Type 0
IsUndirected t traffic m samples n =
    (i : ℕ) → i ≤ n → All IsNotDirected (messages_at t traffic m samples i)

-- If no message directs a handoff, in any file, each frame is heard only from the reference's
-- pilot: a direction never waits, and everything else that is received keeps the active set.
abbrev pub OnePilotIsHeard : Type 0
OnePilotIsHeard = (t : Tuning) (traffic : Traffic) (m : Mark) (samples : List Sample) (n k : ℕ) →
    IsUndirected t traffic m samples n → IsOnePilot traffic (legs_at t traffic m samples n k)

-- ---- soft values

-- P holds for each frame of a clean link that is heard so.
abbrev pub HoldsOfCleanFrames : (CellPlan → TrafficPlan → Tuning → Traffic → Mark →
    (ℕ → List Leg) → ℕ → SetOneFrame → Type 0) → Type 0
HoldsOfCleanFrames P = (width : Width) (plan : CellPlan) (p : TrafficPlan) (t : Tuning)
    (traffic : Traffic) (m : Mark) (legs : ℕ → List Leg) (superframes k : ℕ) (f : SetOneFrame) →
    HearsSentTraffic width plan p t traffic m superframes →
    IsHeardAs plan p t traffic m legs superframes k f → P plan p t traffic m legs k f

-- At the places that no power control bit replaces, the soft values of a frame, turned by its
-- scrambling, are one positive number times the signs of its symbols before scrambling. At the
-- other places, the raw soft values are that number times the signs of the power control bits.
abbrev pub TrafficHaveSentSigns : Type 0
TrafficHaveSentSigns = HoldsOfCleanFrames (λ plan p t traffic m legs k f.
    (0 < soft_strength plan Data p.gain)
    × ShowSymbols (replaced_in traffic m k) (soft_strength plan Data p.gain) (codeword_symbols f)
    (frame_softs (made_samples plan) (stream_of t traffic m legs k) k)
    × ShowPowerBits (replaced_in traffic m k) (soft_strength plan Data p.gain) f.power_bits
    (raw_softs t traffic m legs (made_samples plan) k))

-- ---- frames

-- If no other codeword shares its symbols, it is decoded as a good frame, with its rate and its
-- information bits.
abbrev pub TrafficFramesComeBack : Type 0
TrafficFramesComeBack = HoldsOfCleanFrames (λ plan p t traffic m legs k f.
    IsDistinctFrame (replaced_in traffic m k) f →
    decoded_at t traffic m legs (made_samples plan) k ≡ record {
      rate = f.rate;
      good = true;
      bits = f.information;
      score = pos (soft_strength plan Data p.gain * kept_count (replaced_in traffic m k));
    })

-- a list of 16 power control bits is sent as it is
abbrev pub SixteenPowerBitsAreSent : Type 0
SixteenPowerBitsAreSent =
    (f : SetOneFrame) → length f.power_bits ≡ 16 → sent_power_bits f ≡ f.power_bits

-- ---- in a file

-- If no handoff is directed, there is one event, in order, for each frame of the channel that
-- begins at the mark or after it and lies in the file, at the frame's own end. It is the event for
-- any legs with only the reference's pilot. This holds in any file as long as the cell's.
abbrev pub EachFrameIsHeard : Type 0
EachFrameIsHeard = (width : Width) (plan : CellPlan) (p : TrafficPlan) (t : Tuning)
    (traffic : Traffic) (m : Mark) (superframes : ℕ) (legs : ℕ → List Leg)
    (samples : List Sample) →
    HearsSentTraffic width plan p t traffic m superframes → length samples ≡ plan.link.samples →
    IsUndirected t traffic m samples plan.link.samples →
    ((k : ℕ) → IsOnePilot traffic (legs k)) →
    flat_map (frames_at t traffic m samples) (places (plan.link.samples + 1)) ≡
    map (λ frame. frame_heard t traffic m legs samples (frame_ends plan p frame)
    (frame - 4 * superframes))
    (received_frames plan p (plan.link.start + m.sample))

-- P holds for every channel with frames of rate set 1, if each frame from the mark on is distinct
-- and has the sent signs.
abbrev pub HoldsOfDistinct : (CellPlan → TrafficPlan → Tuning → Traffic → Mark → List Sample →
    Type 0) → Type 0
HoldsOfDistinct P = (width : Width) (plan : CellPlan) (p : TrafficPlan) (t : Tuning)
    (traffic : Traffic) (m : Mark) (superframes : ℕ) (samples : List Sample) →
    HearsSentTraffic width plan p t traffic m superframes → length samples ≡ plan.link.samples →
    ((k : ℕ) → TrafficFrameHasSigns plan p samples (4 * superframes + k)) → SendsSetOne p →
    AreDistinct plan p (plan.link.start + m.sample) → P plan p t traffic m samples

-- If no handoff is directed, exactly the frames that were sent are received.
abbrev pub SentFramesComeBack : Type 0
SentFramesComeBack = HoldsOfDistinct (λ plan p t traffic m samples.
    IsUndirected t traffic m samples plan.link.samples →
    flat_map (frames_at t traffic m samples) (places (plan.link.samples + 1)) ≡
    frames_of_channel plan p (plan.link.start + m.sample))

-- The messages are then exactly those that the signaling in these frames spells.
abbrev pub SentMessagesComeBack : Type 0
SentMessagesComeBack = HoldsOfDistinct (λ plan p t traffic m samples.
    IsUndirected t traffic m samples plan.link.samples →
    flat_map (messages_at t traffic m samples) (places (plan.link.samples + 1)) ≡
    messages_of_channel plan p (plan.link.start + m.sample))

-- No handoff is directed if none of the messages that the signaling in these frames spells, as they
-- are sent, directs one.
abbrev pub NoneIsDirected : Type 0
NoneIsDirected = HoldsOfDistinct (λ plan p t traffic m samples.
    All IsNotDirected (messages_of_channel plan p (plan.link.start + m.sample)) →
    IsUndirected t traffic m samples plan.link.samples)

-- ---- samples from which the frames come back

-- A frame is decoded as it was sent: with its rate and its information bits, and as a good frame,
-- whatever its score is.
pub record IsDecodedAs (f : SetOneFrame) (decoded : Decoded) : Type 0 where
  pub score : ℤ
  pub same : decoded ≡ record { rate = f.rate; good = true; bits = f.information; score = score }

-- There are as many samples as the cell's. Each frame that is heard only from the reference's pilot
-- comes back with its power control bits and, if it is distinct, with its rate and its information
-- bits.
pub record ShowsTraffic (plan : CellPlan) (p : TrafficPlan) (t : Tuning) (traffic : Traffic)
    (m : Mark) (superframes : ℕ) (samples : List Sample) : Type 0 where
  pub long : length samples ≡ plan.link.samples
  pub decoded : (legs : ℕ → List Leg) (k : ℕ) (f : SetOneFrame) →
      IsHeardAs plan p t traffic m legs superframes k f →
      IsDistinctFrame (replaced_in traffic m k) f →
      IsDecodedAs f (decoded_at t traffic m legs samples k)
  pub power_bits : (legs : ℕ → List Leg) (k : ℕ) (f : SetOneFrame) →
      IsHeardAs plan p t traffic m legs superframes k f →
      power_bits_at t traffic m legs samples k ≡ sent_power_bits f

-- ---- the only best codeword

-- how well a codeword of a format agrees with a frame's soft values at the places that power
-- control bits leave
abbrev pub kept_score : {R : Type 0} → List ℕ → List ℤ → FrameFormat R → Codeword → ℤ
kept_score replaced softs format w = score_in (unreplaced replaced softs) format w

-- A codeword of one of a set's rates, which have these formats. Every other codeword of any of
-- these rates, its quality indicator right or not, has a lesser score.
pub record IsOnlyBestIn {R : Type 0} (format_of : R → FrameFormat R) (replaced : List ℕ)
    (softs : List ℤ) (rate : R) (best : Codeword) : Type 0 where
  pub allowed : IsAllowed Zero (bits_in (format_of rate)) best
  pub lesser : (r : R) (w : Codeword) → IsAllowed Zero (bits_in (format_of r)) w →
      ¬ ((r ≡ rate) × (w ≡ best)) →
      kept_score replaced softs (format_of r) w <ℤ kept_score replaced softs (format_of rate) best

abbrev pub IsOnlyBestFrame : List ℕ → List ℤ → Rate → Codeword → Type 0
IsOnlyBestFrame = IsOnlyBestIn format_of

abbrev pub IsOnlyBestFrame2 : List ℕ → List ℤ → Rate2 → Codeword → Type 0
IsOnlyBestFrame2 = IsOnlyBestIn second.format_of2

-- ---- a frame with the sent signs

-- At each place of a frame that a power control bit replaces, the soft value is related to the bit
-- of the place's group of 24.
abbrev pub ArePowered : (Bool → ℤ → Type 0) → List ℕ → List Bool → List ℤ → Type 0
ArePowered Related replaced power_bits softs =
    (i : ℕ) → i < 384 → is_replaced replaced i ≡ true →
    Related (get_or power_bits (i / 24) false) (get_or softs i (pos 0))

-- The soft values at these places have the signs of the power control bits.
abbrev pub HavePowerSigns : List ℕ → List Bool → List ℤ → Type 0
HavePowerSigns = ArePowered HasSign

-- A frame has 384 soft values, which have the signs of these symbols at the places that no power
-- control bit replaces.
pub record NoisyFrame (replaced : List ℕ) (symbols : List Bool) (softs : List ℤ) : Type 0 where
  pub long : length softs ≡ 384
  pub keeps : KeepSigns replaced symbols softs

-- ---- a frame that is heard only from the reference's pilot

-- P holds for each such frame with the sent signs, whatever the other frames are.
abbrev pub HoldsOfHeardFrames : (Tuning → Traffic → Mark → (ℕ → List Leg) → ℕ → SetOneFrame →
    List Sample → Type 0) → Type 0
HoldsOfHeardFrames P = (width : Width) (plan : CellPlan) (p : TrafficPlan) (t : Tuning)
    (traffic : Traffic) (m : Mark) (legs : ℕ → List Leg) (superframes k : ℕ) (f : SetOneFrame)
    (samples : List Sample) →
    HearsSentTraffic width plan p t traffic m superframes →
    IsHeardAs plan p t traffic m legs superframes k f →
    TrafficFrameHasSigns plan p samples (4 * superframes + k) → P t traffic m legs k f samples

-- Its 384 soft values, descrambled, have the signs of its symbols before scrambling where no power
-- control bit replaces them. Raw, they have the signs of its power control bits at the other
-- places.
abbrev pub TrafficShowsSigns : Type 0
TrafficShowsSigns = HoldsOfHeardFrames (λ t traffic m legs k f samples.
    (length (frame_softs samples (stream_of t traffic m legs k) k) ≡ 384)
    × KeepSigns (replaced_in traffic m k) (codeword_symbols f)
    (frame_softs samples (stream_of t traffic m legs k) k)
    × HavePowerSigns (replaced_in traffic m k) f.power_bits (raw_softs t traffic m legs samples k))

-- Its power control bits are the ones that were sent.
abbrev pub PowerBitsComeBack : Type 0
PowerBitsComeBack = HoldsOfHeardFrames (λ t traffic m legs k f samples.
    power_bits_at t traffic m legs samples k ≡ sent_power_bits f)

-- If no other codeword shares its symbols, only its codeword has the greatest score of all
-- codewords of every rate.
abbrev pub HeardAreTheOnlyBest : Type 0
HeardAreTheOnlyBest = HoldsOfHeardFrames (λ t traffic m legs k f samples.
    IsDistinctFrame (replaced_in traffic m k) f →
    IsOnlyBestFrame (replaced_in traffic m k)
    (frame_softs samples (stream_of t traffic m legs k) k) f.rate
    (frame_codeword f.rate f.information))

-- Such a frame is decoded as a good frame, with its rate and its information bits.
abbrev pub SignedFramesAreDecoded : Type 0
SignedFramesAreDecoded = HoldsOfHeardFrames (λ t traffic m legs k f samples.
    IsDistinctFrame (replaced_in traffic m k) f →
    IsDecodedAs f (decoded_at t traffic m legs samples k))
