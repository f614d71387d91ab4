-- A cell that runs: its channels, and the samples that are next.
use Rattle.cell_samples.proofs.Common.{◌≡◌, ℕ, ◌+◌, ◌-◌, ◌*◌, ◌%◌, ◌<◌, ◌≤◌, List, ◌++◌, length, map, get_or, take, drop, sym, ap, ◌∙◌, ℤ}
use Rattle.cell_samples.proofs.Common.{arith, pos, subst, length-drop, length-map, map-append, take_at, drop-drop, All-append, All-drop}
use Rattle.cell_samples.proofs.Common.{All-from_get_or, take-put_mid, take-add, put_mid, times, of_sample, Pair, Sample, Width, code_point}
use Rattle.cell_samples.proofs.Common.{length-pilot_signs, get_or-pilot_signs, pilot_chip, chip_signs, pilot_signs, HasBits, CellPlan}
use Rattle.cell_samples.proofs.Common.{loudness, most_part, Carrier, amplitudes, carriers, sample_of, samples_of, scaled, IsPoint, phase_at}
use Rattle.cell_samples.proofs.Common.{point_of, chip_fits, chip_most, few_channels, most_part_small, signal_of_carriers, pieces_are}
use Rattle.cell_samples.proofs.Common.{AreQuiet, AreTurned, BlockState, chip_at, sign_unit, ChannelState, carrier_of, get_or-drop}
use Rattle.std.specs.List.{All}
use Rattle.cell_plan.proofs.Pieces.{no_sample}

-- a chip of a plan's block
pub chip_is : (plan : CellPlan) (block : BlockState) (chip : ℕ) →
    map carrier_of block.channels ≡ carriers plan → block.factor ≡ plan.link.factor →
    chip_at block chip ≡ scaled (amplitudes chip (carriers plan)) plan.link.factor
chip_is plan block chip sent link =
    ap (λ (cs : List Carrier). scaled (amplitudes chip cs) block.factor) sent
    ∙ ap (scaled (amplitudes chip (carriers plan))) link

-- it is at most as loud as a sample may be
pub chips_quiet : (width : Width) (plan : CellPlan) (channels : List ChannelState) →
    map carrier_of channels ≡ carriers plan → loudness plan ≤ most_part width →
    AreQuiet (map carrier_of channels) plan.link.factor
chips_quiet width plan channels sent loud chip =
    let z = scaled (amplitudes chip (map carrier_of channels)) plan.link.factor in
    let is : z ≡ scaled (amplitudes chip (carriers plan)) plan.link.factor =
    ap (λ (cs : List Carrier). scaled (amplitudes chip cs) plan.link.factor) sent in
    omega (arith, chip_most plan chip z is, loud, most_part_small width)

sample_is : (plan : CellPlan) (given phase : ℕ) (chip : Pair) (result : Sample) (signs : ℤ × ℤ) →
    chip ≡ scaled (amplitudes (plan.link.start + given) (carriers plan)) plan.link.factor →
    phase ≡ phase_at plan (plan.link.start + given) → signs ≡ chip_signs (pilot_chip phase) →
    of_sample result ≡ times chip (point_of signs) → of_sample result ≡ sample_of plan given
sample_is plan given phase chip result signs is code read made =
    let point : point_of signs ≡ code_point (plan.link.start + given + 32768 - 64 * plan.cell.pn) =
    ap point_of (read ∙ ap (λ (p : ℕ). chip_signs (pilot_chip p)) code) in
    made
    ∙ ap (λ (s : Pair). times s (point_of signs)) is
    ∙ ap (times (scaled (amplitudes (plan.link.start + given) (carriers plan)) plan.link.factor))
    point
    ∙ sym (signal_of_carriers plan given)

-- ---- the codes over a block

-- the codes don't begin again within a block
pub code_goes_on : (plan : CellPlan) (chip phase n : ℕ) → plan.cell.pn < 512 →
    phase ≡ phase_at plan chip → chip % 64 + n ≤ 64 → phase + n ≤ 32768
code_goes_on plan chip phase n pilot is within = omega (arith, pilot, is, within)

pub signs_ahead : (phase n : ℕ) (signs : List (ℤ × ℤ)) → signs ≡ drop phase pilot_signs →
    phase + n ≤ 32768 → n ≤ length signs
signs_ahead phase n signs is within =
    omega (arith, within, ap length is, length-drop phase pilot_signs, length-pilot_signs)

phase_on : (plan : CellPlan) (chip phase k : ℕ) → plan.cell.pn < 512 →
    phase ≡ phase_at plan chip → phase + k < 32768 → phase + k ≡ phase_at plan (chip + k)
phase_on plan chip phase k pilot is below = omega (arith, pilot, is, below)

all_points : All IsPoint pilot_signs
all_points = λ k d inside.
    subst IsPoint (sym (get_or-pilot_signs k d (omega (arith, inside, length-pilot_signs))))
    (sign_unit (pilot_chip k).0, sign_unit (pilot_chip k).1)

pub points_ahead : (phase : ℕ) (signs : List (ℤ × ℤ)) → signs ≡ drop phase pilot_signs → All IsPoint signs
points_ahead phase signs is = subst (All IsPoint) (sym is) (All-drop IsPoint phase pilot_signs all_points)

-- ---- the samples of a block

-- what is known of samples that a block gave
pub record AreGiven (plan : CellPlan) (block : BlockState) (given phase : ℕ)
    (signs : List (ℤ × ℤ)) (out : List Sample) : Type 0 where
  pub pilot : plan.cell.pn < 512
  pub sent : map carrier_of block.channels ≡ carriers plan
  pub link : block.factor ≡ plan.link.factor
  pub code : phase ≡ phase_at plan (plan.link.start + given)
  pub ahead : signs ≡ drop phase pilot_signs
  pub within : (plan.link.start + given) % 64 + length out ≤ 64
  pub turned : AreTurned (λ k. chip_at block (plan.link.start + given + k)) signs (length out) out

pub are_given : (plan : CellPlan) (block : BlockState) (given phase n : ℕ)
    (signs : List (ℤ × ℤ)) (out : List Sample) → plan.cell.pn < 512 →
    map carrier_of block.channels ≡ carriers plan → block.factor ≡ plan.link.factor →
    phase ≡ phase_at plan (plan.link.start + given) → signs ≡ drop phase pilot_signs →
    length out ≡ n → (plan.link.start + given) % 64 + n ≤ 64 →
    AreTurned (λ k. chip_at block (plan.link.start + given + k)) signs n out → AreGiven plan block given phase signs out
are_given plan block given phase n signs out pilot sent link code ahead long within turned =
    let chips : ℕ → Pair = λ k. chip_at block (plan.link.start + given + k) in
    record {
      pilot = pilot;
      sent = sent;
      link = link;
      code = code;
      ahead = ahead;
      within = omega (arith, long, within);
      turned = subst (λ (m : ℕ). AreTurned chips signs m out) (sym long) turned;
    }

-- Each sample that a block gave is the plan's at its place: the block's chip is the sum of what the
-- channels send there, and the pilot codes that turn it are those of the sample's own phase, which
-- doesn't come round to 0 within the block.
given_one : (plan : CellPlan) (block : BlockState) (given phase : ℕ) (signs : List (ℤ × ℤ))
    (out : List Sample) → AreGiven plan block given phase signs out → (k : ℕ) → k < length out →
    of_sample (get_or out k no_sample) ≡ sample_of plan (given + k)
given_one plan block given phase signs out are k low =
    let chip = plan.link.start + given in
    let before : phase + length out ≤ 32768 = code_goes_on plan chip phase (length out) are.pilot are.code are.within in
    let below : phase + k < 32768 = omega (arith, before, low) in
    let place : chip + k ≡ plan.link.start + (given + k) = omega arith in
    let read : get_or signs k (pos 0, pos 0) ≡ chip_signs (pilot_chip (phase + k)) =
    ap (λ (xs : List (ℤ × ℤ)). get_or xs k (pos 0, pos 0)) are.ahead
    ∙ get_or-drop phase pilot_signs k (pos 0, pos 0)
    ∙ get_or-pilot_signs (phase + k) (pos 0, pos 0) below in
    sample_is plan (given + k) (phase + k) (chip_at block (chip + k)) (get_or out k no_sample)
    (get_or signs k (pos 0, pos 0))
    (chip_is plan block (chip + k) are.sent are.link
    ∙ ap (λ (n : ℕ). scaled (amplitudes n (carriers plan)) plan.link.factor) place)
    (phase_on plan chip phase k are.pilot are.code below ∙ ap (phase_at plan) place)
    read (are.turned k low).value

pub samples_given : (plan : CellPlan) (block : BlockState) (given phase n : ℕ)
    (signs : List (ℤ × ℤ)) (out : List Sample) → AreGiven plan block given phase signs out →
    n ≡ length out → given + n ≤ plan.link.samples → map of_sample out ≡ take n (drop given (samples_of plan))
samples_given plan block given phase n signs out are long left =
    pieces_are plan given out (omega (arith, long, left)) (given_one plan block given phase signs out are)
    ∙ ap (λ (m : ℕ). take m (drop given (samples_of plan))) (sym long)

pub bits_given : (width : Width) (plan : CellPlan) (block : BlockState) (given phase : ℕ)
    (signs : List (ℤ × ℤ)) (out : List Sample) → AreGiven plan block given phase signs out →
    loudness plan ≤ most_part width → All (HasBits width) out
bits_given width plan block given phase signs out are loud =
    let chip = plan.link.start + given in
    All-from_get_or (HasBits width) out no_sample
    (λ k low. chip_fits width plan (chip + k) (chip_at block (chip + k)) (get_or out k no_sample)
    (chip_is plan block (chip + k) are.sent are.link) loud (are.turned k low).in_phase (are.turned k low).quadrature)

-- ---- pieces after one another

piece_joined : {X : Type 0} (out part : List X) (done k count : ℕ) → done ≤ length out →
    length part ≡ count → take (done + count) (put_mid done k out part) ≡ take done out ++ part
piece_joined out part done k count within long =
    take-put_mid done k out part (done + count) (omega (arith, long)) within

pub samples_joined : (all : List Pair) (given done k count : ℕ) (out part : List Sample) →
    done ≤ length out → length part ≡ count → map of_sample (take done out) ≡ take done (drop given all) →
    map of_sample part ≡ take count (drop (given + done) all) →
    map of_sample (take (done + count) (put_mid done k out part)) ≡ take (done + count) (drop given all)
samples_joined all given done k count out part within long before next =
    ap (map of_sample) (piece_joined out part done k count within long)
    ∙ map-append of_sample (take done out) part
    ∙ ap (λ (xs : List Pair). xs ++ map of_sample part) before
    ∙ ap (λ (xs : List Pair). take done (drop given all) ++ xs)
    (next ∙ ap (take count) (sym (drop-drop done given all)))
    ∙ sym (take-add done count (drop given all))

pub bits_joined : (width : Width) (done k count : ℕ) (out part : List Sample) →
    done ≤ length out → length part ≡ count → All (HasBits width) (take done out) → All (HasBits width) part →
    All (HasBits width) (take (done + count) (put_mid done k out part))
bits_joined width done k count out part within long before next =
    subst (All (HasBits width)) (sym (piece_joined out part done k count within long))
    (All-append (HasBits width) (take done out) part before next)

-- ---- the channels

-- a plan's channels are few
pub few_states : (plan : CellPlan) (channels : List ChannelState) → length plan.paging ≤ 7 → length plan.traffic ≤ 62 →
    map carrier_of channels ≡ carriers plan → length channels ≤ 128
few_states plan channels few few_traffic are =
    omega (arith, few_channels plan few few_traffic, length-map channels carrier_of, ap length are)

-- a list that was lent and came back as it was
pub written_back : {X : Type 0} (items new : List X) (count : ℕ) → new ≡ items → length new ≡ count →
    take count (new ++ drop (length new) items) ≡ items
written_back items new count same long = take_at new (drop (length new) items) count long ∙ same
