-- The streams of received frames, and how their frames are decoded.
use Rattle.std.specs.Prelude.{ℕ, ◌-◌, Bool, List}
use Rattle.chip_core.specs.declared.sample.Sample.{Sample}
use Rattle.frame_decoder.specs.Spans.{Channel, own_bits}
use Rattle.rake_finger.specs.Streams.{span_first, span_frames, span_softs}
use Rattle.rake_finger.specs.Streams as streams

-- the frames of a channel, decoded according to how the channel is sent
abbrev pub Stream : Type 0
Stream = streams.StreamOf Channel

-- frame k's own bits of its span's best codeword
unfoldable pub frame_own_bits : ℕ → List Sample → Stream → ℕ → List Bool
frame_own_bits count samples s k =
    own_bits s.channel (span_frames count s k) (k - span_first count s k)
    (span_softs count samples s k)
