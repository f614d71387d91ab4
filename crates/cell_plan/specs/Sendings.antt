-- The signal of the sync channel (TIA/EIA-95-B, 7.7.1.2 and 7.7.1.3): one message repeated, with
-- the time and the long code's state of each transmission filled in.
use Rattle.std.specs.Prelude.{ℕ, zero, suc, ◌+◌, ◌-◌, ◌*◌, ◌/◌, ◌%◌, Bool, false, ◌==◌, List, ◌∷◌}
use Rattle.std.specs.Prelude.{◌++◌, length, take, drop, replicate}
use Rattle.chip_core.specs.Air.{superframe_chips}
use Rattle.long_code.specs.LongCode.{after}
use Rattle.conv_code.specs.ConvCode.{code_symbols}
use Rattle.symbol_path.specs.SentOrder.{sent, sync_shape}
use Rattle.sync_message.specs.Framing.{superframes_of}
use Rattle.sync_message.specs.SyncMessage.{sync_capsule}
use Rattle.sync_message.specs.declared.fields.SyncFields.{SyncFields}
use Rattle.cell_plan.specs.declared.plan.CellIdentity.{CellIdentity}

-- The message of a transmission contains the time and the state four superframes after its last
-- one, less the pilot's offset. The number of superframes in a transmission does not depend on the
-- values filled in.
abbrev pub superframes_a_sending : CellIdentity → SyncFields → ℕ
superframes_a_sending cell m = superframes_of (sync_capsule cell.check30 m)

-- the number of superframes from local chip 64 pn up to that time
abbrev pub told_superframes : CellIdentity → SyncFields → ℕ → ℕ
told_superframes cell m sending = (sending + 1) * superframes_a_sending cell m + 4

unfoldable pub message_of : CellIdentity → SyncFields → ℕ → SyncFields
message_of cell m sending =
    record m {
      pn = cell.pn;
      time = cell.time + told_superframes cell m sending;
      lc = after cell.lc (superframe_chips * told_superframes cell m sending);
    }

-- the capsule of a transmission, and zeros after it
abbrev pub padded_sending : CellIdentity → SyncFields → ℕ → List Bool
padded_sending cell m sending =
    sync_capsule cell.check30 (message_of cell m sending) ++ replicate 93 false

-- the 32 bits of a frame: the SOM bit, and 31 bits of the transmission to which it belongs
unfoldable pub sync_frame_bits : CellIdentity → SyncFields → ℕ → List Bool
sync_frame_bits cell m frame =
    let frames = 3 * superframes_a_sending cell m in
    let following = drop (31 * (frame % frames)) (padded_sending cell m (frame / frames)) in
    (frame % frames == 0) ∷ take 31 following

-- The eight bits before a frame of a channel whose encoder starts in state zero and continues from
-- frame to frame: the last eight bits of the previous frame.
unfoldable pub bits_before : (ℕ → List Bool) → ℕ → List Bool
bits_before bits_of zero = replicate 8 false
bits_before bits_of (suc k) = drop (length (bits_of k) - 8) (bits_of k)

-- the code symbols of a frame of such a channel
unfoldable pub continued_symbols : (ℕ → List Bool) → ℕ → List Bool
continued_symbols bits_of zero = code_symbols (replicate 8 false) (bits_of 0)
continued_symbols bits_of (suc k) =
    code_symbols (drop (length (bits_of k) - 8) (bits_of k)) (bits_of (suc k))

-- the 128 symbols of a frame in the order in which they are sent
unfoldable pub sync_symbols : CellIdentity → SyncFields → ℕ → List Bool
sync_symbols cell m frame = sent sync_shape 2 (continued_symbols (sync_frame_bits cell m) frame)
