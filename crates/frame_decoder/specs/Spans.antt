-- The best codeword of a span of frames, and the bits of one of its frames (TIA/EIA-95-B, 7.1.3.1
-- and 7.7.1.2).
use Rattle.frame_decoder.specs.Common.{places, code_symbols, Shape, sync_shape, data_shape, size}
use Rattle.frame_decoder.specs.Common.{shape_of, sent, gathered, repeats_of, Rate, Codeword, Free}
use Rattle.frame_decoder.specs.Common.{correlation, best_codeword}
use Rattle.std.specs.Prelude.{ℕ, ◌*◌, ◌/◌, Bool, List, take, drop, ℤ}
use Rattle.std.specs.List.{flat_map}
use Rattle.frame_decoder.specs.declared.span_format.FrameKind.{FrameKind}
use Rattle.frame_decoder.specs.declared.span_format.FrameKind.TheVariants.{Sync, Paging}
use Rattle.frame_decoder.specs.declared.span_format.SpanFormat.{SpanFormat}

-- how a channel's frames are sent: the order, the bits, and how often each code symbol is sent
pub record Channel : Type 0 where
  pub shape : Shape
  pub bits : ℕ
  pub repeats : ℕ

abbrev pub sync_channel : Channel
sync_channel = record { shape = sync_shape; bits = 32; repeats = 2 }

-- 192 bits per frame at 9,600 bits per second, each code symbol sent once; 96 bits at 4,800, each
-- sent twice
abbrev pub paging_channel : Rate → Channel
paging_channel rate =
    record { shape = data_shape; bits = 192 / repeats_of rate; repeats = repeats_of rate }

-- the channel of each kind of frame
abbrev pub channel_for : FrameKind → Channel
channel_for Sync = sync_channel
channel_for (Paging rate) = paging_channel rate

abbrev pub channel_of : SpanFormat → Channel
channel_of l = record { shape = shape_of l.kind; bits = l.bits; repeats = l.repeats }

-- how a codeword is sent: the number of frames, and the order, repeats and code symbols of each
pub record Sending : Type 0 where
  pub frames : ℕ
  pub shape : Shape
  pub repeats : ℕ
  pub code_symbols : ℕ

abbrev pub sending : Channel → ℕ → Sending
sending c frames =
    record { frames = frames; shape = c.shape; repeats = c.repeats; code_symbols = 2 * c.bits }

-- symbols divided into frames, and put into the sent order within each
abbrev pub sent_frames : Sending → List Bool → List Bool
sent_frames s symbols =
    flat_map (λ k. sent s.shape s.repeats (take s.code_symbols (drop (s.code_symbols * k) symbols)))
    (places s.frames)

-- a codeword's symbols as they are sent
abbrev pub sent_symbols : Sending → Codeword → List Bool
sent_symbols s w = sent_frames s (code_symbols w.start w.bits)

-- how well a codeword's symbols, as they are sent, agree with the soft values
abbrev pub score : List ℤ → Sending → Codeword → ℤ
score softs s w = correlation softs (sent_symbols s w)

-- the bits of frame `own` of a span, given the soft values of its frames one after another
abbrev pub own_bits : Channel → ℕ → ℕ → List ℤ → List Bool
own_bits c frames own softs =
    let best = best_codeword (score softs (sending c frames)) Free (c.bits * frames) in
    take c.bits (drop (c.bits * own) best.bits)

-- for each code symbol of each frame, the sum of the soft values that are sent for it
abbrev pub gathered_span : Channel → ℕ → List ℤ → List ℤ
gathered_span c frames softs =
    flat_map (λ k. gathered c.shape c.repeats (take (size c.shape) (drop (size c.shape * k) softs)))
    (places frames)
