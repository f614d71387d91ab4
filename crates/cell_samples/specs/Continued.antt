-- Channels whose encoder continues from frame to frame, as the transmitter represents them.
use Rattle.std.specs.Prelude.{◌≡◌, ℕ, ◌/◌, Bool, List}
use Rattle.chip_core.specs.Bits.{binary}
use Rattle.cell_plan.specs.declared.form.ChannelForm.{ChannelForm}
use Rattle.cell_samples.specs.declared.frame_source.FrameSource.{FrameSource}
use Rattle.cell_samples.specs.declared.frame_source.FrameSource.TheVariants.{Sync, Paging}
use Rattle.quality_bits.specs.TrafficCodewords.{repeats_of}
use Rattle.cell_plan.specs.PageCycles.{cycle_frame_bits, cycle_symbols, frame_scrambling, scrambled}
use Rattle.cell_plan.specs.PageCycles.{paging_frame_size}
use Rattle.cell_plan.specs.Sendings.{bits_before, sync_frame_bits, sync_symbols}
use Rattle.cell_plan.specs.Signal.{paging_form, sync_form}
use Rattle.symbol_path.specs.declared.kinds.Kind as kinds

-- the bits of each frame of a source, and their number
abbrev pub frame_bits_of : FrameSource → ℕ → List Bool
frame_bits_of (Sync sent) = sync_frame_bits sent.cell sent.message
frame_bits_of (Paging cycle) = cycle_frame_bits cycle

abbrev pub frame_size : FrameSource → ℕ
frame_size (Sync sent) = 32
frame_size (Paging cycle) = paging_frame_size cycle.rate

-- how they are sent: the frames' form, the interleaver, and how often a code symbol is sent
abbrev pub continued_form : FrameSource → ChannelForm
continued_form (Sync sent) = sync_form
continued_form (Paging cycle) = paging_form

abbrev pub symbol_kind_of : FrameSource → kinds.Kind
symbol_kind_of (Sync sent) = kinds.TheVariants.Sync
symbol_kind_of (Paging cycle) = kinds.TheVariants.Data

abbrev pub repeats_in : FrameSource → ℕ
repeats_in (Sync sent) = 2
repeats_in (Paging cycle) = repeats_of cycle.rate

-- the symbols of a frame, scrambled if the channel is
abbrev pub scrambled_by : FrameSource → ℕ → List Bool → List Bool
scrambled_by (Sync sent) frame symbols = symbols
scrambled_by (Paging cycle) frame symbols = scrambled (frame_scrambling cycle frame) symbols

-- the symbols of each frame as they are sent
abbrev pub continued_frames : FrameSource → ℕ → List Bool
continued_frames (Sync sent) = sync_symbols sent.cell sent.message
continued_frames (Paging cycle) = cycle_symbols cycle

-- the number of symbols of a frame
abbrev pub symbol_count : ChannelForm → ℕ
symbol_count form = form.frame_chips / form.symbol_chips

-- the encoder's state before a frame, as a number
abbrev pub IsBefore : FrameSource → ℕ → ℕ → Type 0
IsBefore source frame state = binary 8 state ≡ bits_before (frame_bits_of source) frame
