-- How many bits the frames of the sync channel have.
use Rattle.cell_plan.proofs.Common.{◌≡◌, ℕ, suc, ◌+◌, ◌*◌, ◌/◌, ◌%◌, ◌≤◌, false, ◌++◌, length, take, drop, replicate, refl, ap, ◌∙◌, arith}
use Rattle.cell_plan.proofs.Common.{length-take-le, sync_capsule, SyncFields, CellIdentity, message_of, padded_sending, sync_frame_bits}
use Rattle.cell_plan.proofs.Common.{superframes_a_sending, length-append, length-drop}
use Rattle.cell_plan.proofs.SentMessages.{piece_within, superframes_some}

frame_bits-is : (cell : CellIdentity) (m : SyncFields) (frame : ℕ) → length (sync_frame_bits cell m frame)
    ≡ suc (length
    (take 31 (drop (31 * (frame % (3 * superframes_a_sending cell m)))
    (padded_sending cell m (frame / (3 * superframes_a_sending cell m))))))
unfolding sync_frame_bits
frame_bits-is cell m frame = refl

-- A frame has 32 bits, its SOM bit and 31 of the padded capsule: the piece begins at most 62 bits
-- after the capsule's end (`piece_within`), and 93 zeros follow the capsule.
pub length-sync_frame_bits : (cell : CellIdentity) (m : SyncFields) (frame : ℕ) →
    length (sync_frame_bits cell m frame) ≡ 32
length-sync_frame_bits cell m frame =
    let n = superframes_a_sending cell m in
    let sending = frame / (3 * n) in
    let place = 31 * (frame % (3 * n)) in
    let capsule = sync_capsule cell.check30 (message_of cell m sending) in
    let room : place ≤ length capsule + 62 =
    piece_within cell m frame n sending capsule refl (superframes_some cell.check30 m) refl
    in
    let whole : length (capsule ++ replicate 93 false) ≡ length capsule + 93 =
    length-append capsule (replicate 93 false) in
    let enough : 31 ≤ length (drop place (capsule ++ replicate 93 false)) =
    omega (arith, room, whole, length-drop place (capsule ++ replicate 93 false)) in
    frame_bits-is cell m frame ∙
    ap suc (length-take-le 31 (drop place (capsule ++ replicate 93 false)) enough)
