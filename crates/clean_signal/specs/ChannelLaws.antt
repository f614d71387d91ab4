-- The soft values that any stream receives from any channel sent over a clean link, and the
-- codewords that they show.
use Rattle.clean_signal.specs.Common.{frame_chips, softs, symbols, Form, sent, signed, Width}
use Rattle.clean_signal.specs.Common.{made_samples, continued_symbols, Carrier, carriers, CellPlan}
use Rattle.clean_signal.specs.Common.{frame_softs, is_in_file, span_first, span_frames, StreamOf}
use Rattle.clean_signal.specs.Common.{IsReceivable, Channel}
use Rattle.std.specs.Prelude.{ℕ, ◌+◌, ◌<◌, ◌≤◌, ◌≡◌, ◌≢◌, true, All, Bool, List, [], ◌∷◌, length}
use Rattle.std.specs.Prelude.{pos, replicate}
use Rattle.std.specs.List.{Contains}
use Rattle.clean_signal.specs.Signals.{soft_strength, AreReadBy, IsOnlyBest, span_codeword}
use Rattle.clean_signal.specs.Signals.{IsFrameAt, IsFrameOf, IsHeardBy, path_finger}

-- The soft values of a frame, not turned by scrambling, are one number times the signs of the
-- symbols that the channel sends in it.
abbrev pub ChannelsHaveSentSigns : Type 0
ChannelsHaveSentSigns = (width : Width) (plan : CellPlan) (c : Carrier) (form : Form)
    (u frame : ℕ) →
    IsReceivable width plan → Contains (carriers plan) c → IsFrameOf plan c form u frame →
    length (c.symbols frame) ≡ symbols form →
    softs (made_samples plan) (path_finger plan c.row ∷ []) form u ≡
    signed (soft_strength plan form c.gain) (c.symbols frame)

-- The soft values are 0 on a row that no channel has.
abbrev pub SilentRowsAreZero : Type 0
SilentRowsAreZero = (width : Width) (plan : CellPlan) (row : ℕ) (form : Form) (u : ℕ) →
    IsReceivable width plan → row < 64 → All (λ (c : Carrier). c.row ≢ row) (carriers plan) →
    IsFrameAt plan form u →
    softs (made_samples plan) (path_finger plan row ∷ []) form u ≡
    replicate (symbols form) (pos 0)

-- They are 0 on the row of a channel before its first frame.
abbrev pub EarlyFramesAreZero : Type 0
EarlyFramesAreZero = (width : Width) (plan : CellPlan) (c : Carrier) (form : Form) (u : ℕ) →
    IsReceivable width plan → Contains (carriers plan) c → IsFrameAt plan form u →
    plan.link.start + u + frame_chips form ≤ c.first →
    softs (made_samples plan) (path_finger plan c.row ∷ []) form u ≡
    replicate (symbols form) (pos 0)

-- The soft values of a stream's frames, descrambled by its scrambling, are one number times the
-- signs of the symbols before scrambling.
abbrev pub StreamsShowSymbols : Type 0
StreamsShowSymbols = (width : Width) (plan : CellPlan) (c : Carrier) (s : StreamOf Channel)
    (bits_of : ℕ → List Bool) (base k : ℕ) →
    IsReceivable width plan → Contains (carriers plan) c → IsHeardBy plan c s base →
    AreReadBy c s bits_of base → is_in_file plan.link.samples s k ≡ true →
    frame_softs (made_samples plan) s k ≡
    signed (soft_strength plan s.form c.gain)
    (sent s.channel.shape s.channel.repeats (continued_symbols bits_of (base + k)))

-- That number is above 0 if the channel's gain is.
abbrev pub StrengthsArePositive : Type 0
StrengthsArePositive = (width : Width) (plan : CellPlan) (form : Form) (gain : ℕ) →
    IsReceivable width plan → 0 < gain → 0 < soft_strength plan form gain

-- Among all codewords of a frame's span, with any start bits, only the sent one has the greatest
-- score.
abbrev pub ChannelCodewordsAreTheOnlyBest : Type 0
ChannelCodewordsAreTheOnlyBest = (width : Width) (plan : CellPlan) (c : Carrier)
    (s : StreamOf Channel) (bits_of : ℕ → List Bool) (base k : ℕ) →
    IsReceivable width plan → Contains (carriers plan) c → 0 < c.gain → IsHeardBy plan c s base →
    AreReadBy c s bits_of base → is_in_file plan.link.samples s k ≡ true →
    IsOnlyBest plan.link.samples (made_samples plan) s k
    (span_codeword bits_of (base + span_first plan.link.samples s k)
    (span_frames plan.link.samples s k))
