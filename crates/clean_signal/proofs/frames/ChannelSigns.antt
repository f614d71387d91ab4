-- The soft values of any channel that is sent, and the codewords that a stream hears of it.
use Rattle.clean_signal.proofs.Common.{ℕ, ◌+◌, ◌<◌, List, [], ◌∷◌, refl, ◌∙◌, arith, made_samples, CellPlan, softs, Sync, soft_strength}
use Rattle.clean_signal.proofs.Common.{AreReadBy, IsHeardBy, path_finger, IsReceivable, Sample, Width, Bears, IsNear, ◌*◌, Bool, Contains}
use Rattle.clean_signal.proofs.Common.{All-contains, Data, mul-pos, lt-ltb, norm, symbol_chips, window_chips, Form, Carrier, carriers}
use Rattle.clean_signal.proofs.Common.{IsAligned, frame_softs, NoisyChannelsHaveSentSigns, NoisyCodewordsAreTheOnlyBest, StreamOf, Channel}
use Rattle.clean_signal.proofs.Common.{NoisyStreamsShowSymbols}
use Rattle.clean_signal.proofs.signal.CarriersApart.{plan_apart}
use Rattle.clean_signal.proofs.noise.Near.{none_borne, near-self, IsSigned, signed_is, signed_turn}
use Rattle.clean_signal.proofs.frames.Heard.{AreFramesShown, shown_alone, heard_shown, order_of, stream_related}
use Rattle.clean_signal.proofs.signal.Rows.{level_at-alone, level_at-none}
use Rattle.clean_signal.proofs.signal.Frames.{clean_relates, silent_softs, noisy_relates}
use Rattle.clean_signal.specs.ChannelLaws as laws

positive : (form : Form) (n g gain : ℕ) → 0 < n → 0 < g → 0 < gain →
    0 < 4 * n * (g * gain) * (window_chips form * symbol_chips form)
positive Sync n g gain a b c =
    let all : 0 < n * (g * gain) = mul-pos a (mul-pos b c) in
    omega (arith, all)
positive Data n g gain a b c =
    let all : 0 < n * (g * gain) = mul-pos a (mul-pos b c) in
    omega (arith, all)

-- a channel that is sent has a strength
pub strength_some : laws.StrengthsArePositive
strength_some width plan form gain is some =
    positive form (norm plan.link.factor) plan.pilot.gain gain is.link is.lawful.pilot some

pub channel_signs : laws.ChannelsHaveSentSigns
channel_signs width plan c form u frame is has at long =
    signed_is (soft_strength plan form c.gain) (c.symbols frame)
    (softs (made_samples plan) (path_finger plan c.row ∷ []) form u) (clean_relates is c form has frame u at long)

pub noisy_signs : NoisyChannelsHaveSentSigns
noisy_signs width plan c form u frame e samples is has at long near bears =
    noisy_relates is c form e samples has near bears frame u at long

pub silent_rows : laws.SilentRowsAreZero
silent_rows width plan row form u is below none at =
    silent_softs is row form u below at (λ chip from to. level_at-none row chip (carriers plan) none)

pub early_frames : laws.EarlyFramesAreZero
early_frames width plan c form u is has at before =
    let apart = plan_apart width plan is.lawful in
    let own = All-contains IsAligned (carriers plan) c apart.aligned has in
    silent_softs is c.row form u own.row at
    (λ chip from to.
    level_at-alone chip (carriers plan) c apart.own_rows has ∙
    (let e = lt-ltb chip c.first (omega (arith, to, before)) in rw e refl))

pub stream_symbols : laws.StreamsShowSymbols
stream_symbols width plan c s bits_of base k is has heard read here =
    let strength = soft_strength plan s.form c.gain in
    signed_is strength (order_of s bits_of (base + k)) (frame_softs (made_samples plan) s k)
    (stream_related (IsSigned strength) (signed_turn strength) (made_samples plan) heard read k
    (clean_relates is c s.form has (base + k)) here)

-- ---- a stream of near samples

pub noisy_shown : {width : Width} {plan : CellPlan} {c : Carrier} {s : StreamOf Channel}
    {bits_of : ℕ → List Bool} {base : ℕ} (e : ℕ) (samples : List Sample) → IsReceivable width plan →
    Contains (carriers plan) c → IsHeardBy plan c s base → AreReadBy c s bits_of base →
    IsNear e samples (made_samples plan) → Bears plan c.gain e → AreFramesShown plan.link.samples samples s bits_of base
noisy_shown {width} {plan} {c} {s} {base = base} e samples is has heard read near bears =
    heard_shown samples (λ k. noisy_relates is c s.form e samples has near bears (base + k)) heard read

pub noisy_streams : NoisyStreamsShowSymbols
noisy_streams width plan c s bits_of base k e samples is has heard read here near bears =
    (noisy_shown e samples is has heard read near bears).shown k here

pub noisy_codewords : NoisyCodewordsAreTheOnlyBest
noisy_codewords width plan c s bits_of base k e samples is has heard read here near bears =
    shown_alone (noisy_shown e samples is has heard read near bears) k here

-- ---- of a clean link

pub channel_codewords : laws.ChannelCodewordsAreTheOnlyBest
channel_codewords width plan c s bits_of base k is has some heard read here =
    noisy_codewords width plan c s bits_of base k 0 (made_samples plan) is has heard read here
    (near-self 0 (made_samples plan)) (none_borne width plan c.gain is some)
