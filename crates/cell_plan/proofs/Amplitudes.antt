-- The amplitudes of a cell's channels, and the samples that they make.
use Rattle.cell_plan.proofs.Common.{◌≡◌, ℕ, zero, suc, ◌+◌, ◌-◌, ◌*◌, ◌/◌, ◌%◌, ◌≤◌, Bool, false, List, [], ◌∷◌, refl, sym, ap, ◌∙◌, arith}
use Rattle.cell_plan.proofs.Common.{ℤ, pos, ◌+ℤ◌, ◌*ℤ◌, unsigned_abs, Option, Some, None, ◌++◌, length, sign_unit, abs_sum, length-append}
use Rattle.cell_plan.proofs.Common.{map, get_or, FitsSigned, le-ltb, ints, unsigned_abs-mul, fits_signed_from_abs, length-map, w8, w16}
use Rattle.cell_plan.proofs.Common.{mul-le-mul_left, sign, origin, plus, times, Pair, Sample, split, diff-times, diff-same, distrib_right}
use Rattle.cell_plan.proofs.Common.{code_point, walsh, CellPlan, PagingPlan, SyncPlan, TrafficPlan, integer_width_of, HasBits, Width, Eight}
use Rattle.cell_plan.proofs.Common.{Sixteen, most_part, loudness, gain_sum, paging_gains, sync_gain, traffic_gains, Carrier, amplitude}
use Rattle.cell_plan.proofs.Common.{amplitudes, level, level_of, scaled, sent_chip, sync_carriers, paging_carrier, pilot_carrier, carriers}
use Rattle.cell_plan.proofs.Common.{sample_of, symbol_of, traffic_carrier}
pub use Rattle.walsh.proofs.RowTable.{walsh-pilot}

-- THE SUM OF THE CHANNELS

pub scaled_sum : (a b : ℤ) (z : Pair) → plus (scaled a z) (scaled b z) ≡ scaled (a +ℤ b) z
scaled_sum a b z = rw (distrib_right a b z.i, distrib_right a b z.q) refl

pub times_moved : (l s z : ℤ) → l *ℤ (s *ℤ z) ≡ (s *ℤ l) *ℤ z
times_moved l s z = rw (split l, split s, split z) (simp diff-times (diff-same _ _ _ _ (omega arith)))

times_scaled : (l z : Pair) (s : ℤ) → times l (scaled s z) ≡ times (scaled s l) z
times_scaled l z s =
    rw (
      times_moved l.i s z.i,
      times_moved l.q s z.q,
      times_moved l.i s z.q,
      times_moved l.q s z.i,
    ) refl

one_symbol : (n : ℕ) → get_or (false ∷ []) n false ≡ false
one_symbol zero = refl
one_symbol (suc n) = refl

-- the pilot's amplitude is its gain
pub pilot_amplitude : (plan : CellPlan) (chip : ℕ) → amplitude chip (pilot_carrier plan) ≡ pos plan.pilot.gain
pilot_amplitude plan chip =
    rw (walsh-pilot (chip % 64), le-ltb chip 0 (omega arith), one_symbol ((chip - 0) % 64 / 64)) (omega (arith, ints))

pub scaled_none : (z : Pair) → scaled (pos 0) z ≡ origin
scaled_none z =
    let i : pos 0 *ℤ z.i ≡ pos 0 = omega (arith, ints) in
    let q : pos 0 *ℤ z.q ≡ pos 0 = omega (arith, ints) in
    rw (i, q) refl

-- what channels send is the sum of their amplitudes, times the codes' point
pub sent_is : (pn chip : ℕ) (cs : List Carrier) →
    sent_chip pn cs chip ≡ scaled (amplitudes chip cs) (code_point (chip + 32768 - 64 * pn))
unfolding sent_chip
sent_is pn chip [] = sym (scaled_none (code_point (chip + 32768 - 64 * pn)))
sent_is pn chip (c ∷ cs) =
    let z = code_point (chip + 32768 - 64 * pn) in
    ap (plus (scaled (amplitude chip c) z)) (sent_is pn chip cs)
    ∙ scaled_sum (amplitude chip c) (amplitudes chip cs) z

-- so is a sample, with the link
pub signal_of_carriers : (plan : CellPlan) (t : ℕ) → sample_of plan t
    ≡ times (scaled (amplitudes (plan.link.start + t) (carriers plan)) plan.link.factor)
    (code_point (plan.link.start + t + 32768 - 64 * plan.cell.pn))
unfolding sample_of
signal_of_carriers plan t =
    let chip = plan.link.start + t in
    let z = code_point (chip + 32768 - 64 * plan.cell.pn) in
    ap (times plan.link.factor) (sent_is plan.cell.pn chip (carriers plan))
    ∙ times_scaled plan.link.factor z (amplitudes chip (carriers plan))

-- BOUNDS

product_most : (a b : ℤ) → unsigned_abs b ≤ 1 → unsigned_abs (a *ℤ b) ≤ unsigned_abs a
product_most a b unit =
    let most : unsigned_abs a * unsigned_abs b ≤ unsigned_abs a * 1 = mul-le-mul_left (unsigned_abs a) unit in
    omega (arith, most, unsigned_abs-mul a b)

level_most : (gain : ℕ) (symbol : Option Bool) → unsigned_abs (level_of gain symbol) ≤ gain
level_most gain None = omega arith
level_most gain (Some symbol) = product_most (pos gain) (sign symbol) (sign_unit symbol)

pub amplitude_most : (chip : ℕ) (c : Carrier) → unsigned_abs (amplitude chip c) ≤ c.gain
amplitude_most chip c =
    let row = product_most (level chip c) (sign (walsh c.row (chip % 64))) (sign_unit _) in
    let symbol = level_most c.gain (symbol_of c chip) in
    omega (arith, row, symbol)

-- the gains of channels
abbrev pub gains : List Carrier → ℕ
gains [] = 0
gains (c ∷ cs) = c.gain + gains cs

pub amplitudes_most : (chip : ℕ) (cs : List Carrier) → unsigned_abs (amplitudes chip cs) ≤ gains cs
amplitudes_most chip [] = omega arith
amplitudes_most chip (c ∷ cs) =
    omega (arith, abs_sum (amplitude chip c) (amplitudes chip cs), amplitude_most chip c, amplitudes_most chip cs)

-- channels after others add their gains
pub gains_append : (cs ds : List Carrier) → gains (cs ++ ds) ≡ gains cs + gains ds
gains_append [] ds = omega arith
gains_append (c ∷ cs) ds = omega (arith, gains_append cs ds)

pub sync_gains : (plan : CellPlan) (sync : Option SyncPlan) → gains (sync_carriers plan sync) ≡ sync_gain sync
sync_gains plan None = refl
sync_gains plan (Some sync) = omega arith

pub paging_gains-is : (plan : CellPlan) (paging : List PagingPlan) →
    gains (map (paging_carrier plan) paging) ≡ paging_gains paging
paging_gains-is plan [] = refl
paging_gains-is plan (p ∷ paging) = ap (λ (n : ℕ). p.gain + n) (paging_gains-is plan paging)

pub traffic_gains-is : (plan : CellPlan) (traffic : List TrafficPlan) →
    gains (map (traffic_carrier plan) traffic) ≡ traffic_gains traffic
traffic_gains-is plan [] = refl
traffic_gains-is plan (t ∷ traffic) = ap (λ (n : ℕ). t.gain + n) (traffic_gains-is plan traffic)

plan_gains : (plan : CellPlan) → gains (carriers plan) ≡ gain_sum plan
unfolding carriers
plan_gains plan =
    omega (
      arith,
      gains_append (sync_carriers plan plan.sync ++ map (paging_carrier plan) plan.paging)
          (map (traffic_carrier plan) plan.traffic),
      gains_append (sync_carriers plan plan.sync) (map (paging_carrier plan) plan.paging),
      sync_gains plan plan.sync,
      paging_gains-is plan plan.paging,
      traffic_gains-is plan plan.traffic,
    )

scaled_most : (s a b : ℤ) (most : ℕ) → unsigned_abs s ≤ most →
    unsigned_abs (s *ℤ a) + unsigned_abs (s *ℤ b) ≤ (unsigned_abs a + unsigned_abs b) * most
scaled_most s a b most below =
    let n = unsigned_abs a + unsigned_abs b in
    let all : n * unsigned_abs s ≤ n * most = mul-le-mul_left n below in
    omega (arith, all, unsigned_abs-mul s a, unsigned_abs-mul s b)

-- a chip of a block is at most as loud as the plan
pub chip_most : (plan : CellPlan) (chip : ℕ) (z : Pair) →
    z ≡ scaled (amplitudes chip (carriers plan)) plan.link.factor → unsigned_abs z.i + unsigned_abs z.q ≤ loudness plan
chip_most plan chip z is =
    let sum = amplitudes chip (carriers plan) in
    let most : unsigned_abs sum ≤ gain_sum plan =
    omega (arith, amplitudes_most chip (carriers plan), plan_gains plan) in
    rw is (scaled_most sum plan.link.factor.i plan.link.factor.q (gain_sum plan) most)

-- a cell has few channels
one_sync : (plan : CellPlan) (sync : Option SyncPlan) → length (sync_carriers plan sync) ≤ 1
one_sync plan None = omega arith
one_sync plan (Some sync) = omega arith

pub few_channels : (plan : CellPlan) → length plan.paging ≤ 7 → length plan.traffic ≤ 62 → length (carriers plan) ≤ 128
unfolding carriers
few_channels plan few few_traffic =
    let sync = sync_carriers plan plan.sync in
    let paging = map (paging_carrier plan) plan.paging in
    let traffic = map (traffic_carrier plan) plan.traffic in
    omega (
      arith,
      few,
      few_traffic,
      one_sync plan plan.sync,
      length-append (sync ++ paging) traffic,
      length-append sync paging,
      length-map plan.paging (paging_carrier plan),
      length-map plan.traffic (traffic_carrier plan),
    )

-- SAMPLES

pub part_fits : (width : Width) (part : ℤ) → unsigned_abs part ≤ most_part width →
    FitsSigned (integer_width_of width) part
part_fits Sixteen part most = fits_signed_from_abs w16 part (omega (arith, most))
part_fits Eight part most = fits_signed_from_abs w8 part (omega (arith, most))

pub most_part_small : (width : Width) → most_part width ≤ 32767
most_part_small Sixteen = omega arith
most_part_small Eight = omega arith

-- the parts of a chip of a block, with any signs, fit the width of a lawful plan
pub chip_fits : (width : Width) (plan : CellPlan) (at_chip : ℕ) (chip : Pair) (result : Sample) →
    chip ≡ scaled (amplitudes at_chip (carriers plan)) plan.link.factor → loudness plan ≤ most_part width →
    unsigned_abs result.i ≤ unsigned_abs chip.i + unsigned_abs chip.q →
    unsigned_abs result.q ≤ unsigned_abs chip.i + unsigned_abs chip.q → HasBits width result
chip_fits width plan at_chip chip result is loud i q =
    let most = chip_most plan at_chip chip is in
    record {
      in_phase = part_fits width result.i (omega (arith, most, loud, i));
      quadrature = part_fits width result.q (omega (arith, most, loud, q));
    }
