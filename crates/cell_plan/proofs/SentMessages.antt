-- The messages of transmissions, and the frames that they fill.
use Rattle.cell_plan.proofs.Common.{superframes_a_sending, get_or-replicate, length-replicate, mul-le-mul_left, sync_frame_bits, SyncFields}
use Rattle.cell_plan.proofs.Common.{length-capsule, superframes_of, padded_sending, length-append, IsSyncMessage, fixed_fields, get_or-drop}
use Rattle.cell_plan.proofs.Common.{sync_capsule, CellIdentity, length-body, length-drop, message_of, replicate, take_more, FieldsFit, ◌==◌}
use Rattle.cell_plan.proofs.Common.{CheckForm, sync_body, fixed_fit, admitted, tail_of, length, get_or, mod-lt, false, arith, zero, Bool, ℕ}
use Rattle.cell_plan.proofs.Common.{List, ◌++◌, take, drop, refl, ◌≡◌, ◌+◌, ◌*◌, ◌/◌, ◌%◌, ◌^◌, ◌<◌, ◌≤◌, suc, ◌∷◌, sym, ◌∙◌, M30, [], ap}

-- a message with another offset, time and state
abbrev pub refilled : SyncFields → ℕ → ℕ → ℕ → SyncFields
refilled m pn time lc = record m { pn = pn; time = time; lc = lc }

-- A sync message stays one when its PILOT_PN, SYS_TIME and LC_STATE are filled in: the three values
-- fit into their fields, and all others are the ones that it had.
pub refilled_is : (m : SyncFields) (pn time lc : ℕ) → IsSyncMessage m → pn < 512 → time < 2 ^ 36 →
    lc < 2 ^ 42 → IsSyncMessage (refilled m pn time lc)
refilled_is m pn time lc is offset early below =
    let fit = fixed_fit m is in
    let type = fit.0 in
    let prev = fit.1.0 in
    let min = fit.1.1.0 in
    let sid = fit.1.1.1.0 in
    let nid = fit.1.1.1.1.0 in
    let following = fit.1.1.1.1.1.1.1.1 in
    let small : pn < 2 ^ 9 = omega (arith, offset) in
    let fits : FieldsFit (fixed_fields (refilled m pn time lc)) =
    (type, (prev, (min, (sid, (nid, (small, (below, (early, following)))))))) in
    admitted (refilled m pn time lc) fits (tail_of m is)

pub length-sync : (form : CheckForm) (m : SyncFields) → length (sync_capsule form m) ≡ 38 + length (sync_body m)
unfolding sync_capsule
length-sync form m = omega (arith, length-capsule M30 form (sync_body m))

pub length-refilled : (form : CheckForm) (m : SyncFields) (pn time lc : ℕ) →
    length (sync_capsule form (refilled m pn time lc)) ≡ length (sync_capsule form m)
length-refilled form m pn time lc =
    omega (
      arith,
      length-sync form m,
      length-sync form (refilled m pn time lc),
      length-body m,
      length-body (refilled m pn time lc),
    )

pub length-sending : (cell : CellIdentity) (m : SyncFields) (sending : ℕ) →
    length (sync_capsule cell.check30 (message_of cell m sending)) ≡ length (sync_capsule cell.check30 m)
unfolding message_of
length-sending cell m sending = length-refilled cell.check30 m _ _ _

pub capsule_most : (form : CheckForm) (m : SyncFields) → IsSyncMessage m → length (sync_capsule form m) ≤ 1184
capsule_most form m is = omega (arith, length-sync form m, is.fills.whole, is.fills.most)

pub superframes_some : (form : CheckForm) (m : SyncFields) → 1 ≤ superframes_of (sync_capsule form m)
superframes_some form m = omega (arith, length-sync form m)

pub superframes_few : (form : CheckForm) (m : SyncFields) → IsSyncMessage m → superframes_of (sync_capsule form m) ≤ 13
superframes_few form m is = omega (arith, capsule_most form m is)

-- FRAMES

-- zeros after a list don't show where a place after its end has a 0
pub padded_at : (bits : List Bool) (n i : ℕ) → i < length bits + n →
    get_or (bits ++ replicate n false) i false ≡ get_or bits i false
padded_at [] n i within = get_or-replicate n i false false (omega (arith, within))
padded_at (b ∷ bits) n zero within = refl
padded_at (b ∷ bits) n (suc i) within = padded_at bits n i (omega (arith, within))

abbrev pub padded : List Bool → List Bool
padded capsule = capsule ++ replicate 93 false

length-padded : (capsule : List Bool) → length (padded capsule) ≡ length capsule + 93
length-padded capsule = length-append capsule (replicate 93 false)
    ∙ ap (λ (n : ℕ). length capsule + n) (length-replicate 93 false)

-- One bit more makes the frame's piece k + 1 bits long: the bit is the capsule's, k places after the
-- piece begins, or 0 after its end, and so is the padded capsule's, whose 93 zeros reach so far.
pub piece_more : (capsule bits : List Bool) (place k : ℕ) (som bit : Bool) → 31 * place ≤ length capsule + 62 → k < 31 →
    bits ≡ som ∷ (take k (drop (31 * place) (padded capsule))) → bit ≡ get_or capsule (31 * place + k) false →
    bits ++ bit ∷ [] ≡ som ∷ take (k + 1) (drop (31 * place) (padded capsule))
piece_more capsule bits place k som bit room few before read =
    let rest = drop (31 * place) (padded capsule) in
    let within : k < length rest = omega (arith, length-drop (31 * place) (padded capsule), length-padded capsule) in
    let here : get_or rest k false ≡ bit =
    get_or-drop (31 * place) (padded capsule) k false
    ∙ padded_at capsule 93 (31 * place + k) (omega arith) ∙ sym read in
    ap (λ (r : List Bool). r ++ bit ∷ []) before
    ∙ ap (λ (r : List Bool). som ∷ r)
    (sym (take_more rest k false within ∙ ap (λ (b : Bool). take k rest ++ b ∷ []) here))

-- a frame lies within its transmission
pub piece_within : (cell : CellIdentity) (m : SyncFields) (frame superframes sending : ℕ)
    (capsule : List Bool) → superframes ≡ superframes_a_sending cell m → 1 ≤ superframes →
    capsule ≡ sync_capsule cell.check30 (message_of cell m sending) →
    31 * (frame % (3 * superframes)) ≤ length capsule + 62
piece_within cell m frame superframes sending capsule needed some is =
    let below : frame % (3 * superframes) < 3 * superframes = mod-lt frame (omega (arith, some)) in
    let long : length capsule ≡ length (sync_capsule cell.check30 m) = ap length is
    ∙ length-sending cell m sending in
    omega (arith, below, long, needed)

pub piece_is : (cell : CellIdentity) (m : SyncFields) (frame superframes : ℕ)
    (capsule bits : List Bool) → superframes ≡ superframes_a_sending cell m →
    capsule ≡ sync_capsule cell.check30 (message_of cell m (frame / (3 * superframes))) →
    bits ≡ (frame % (3 * superframes) == 0) ∷ (take 31 (drop (31 * (frame % (3 * superframes))) (padded capsule))) →
    bits ≡ sync_frame_bits cell m frame
unfolding sync_frame_bits
piece_is cell m frame superframes capsule bits needed is same =
    let piece : ℕ →
    List Bool = λ n. (frame % (3 * n) == 0) ∷ take 31
    (drop (31 * (frame % (3 * n))) (padded_sending cell m (frame / (3 * n)))) in
    same
    ∙ ap (λ (c : List Bool).
    (frame % (3 * superframes) == 0) ∷ take 31 (drop (31 * (frame % (3 * superframes))) (padded c)))
    is
    ∙ ap piece needed

pub told_early : (time sending superframes : ℕ) → time ≤ 34359738368 → superframes ≤ 13 →
    sending < 2 ^ 20 → time + ((sending + 1) * superframes + 4) < 2 ^ 36
told_early time sending superframes early few soon =
    let most : (sending + 1) * superframes ≤ (sending + 1) * 13 = mul-le-mul_left (sending + 1) few in
    omega (arith, most, early, soon)
