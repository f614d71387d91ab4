-- A cell's samples without one of its channels: how near they are, and that the channel is gone.
use Rattle.clean_signal.proofs.Common.{◌≡◌, ◌≢◌, ℕ, zero, suc, ◌+◌, ◌-◌, ◌*◌, ◌/◌, ◌%◌, ◌<◌, ◌≤◌, Bool, true, false, List, [], ◌∷◌, length}
use Rattle.clean_signal.proofs.Common.{refl, sym, ap, ◌∙◌, arith, ints, ⊎_elim, ℤ, pos, unsigned_abs, ◌+ℤ◌, ◌-ℤ◌, ◌*ℤ◌, ◌<ℤ◌, All, All-cons}
use Rattle.clean_signal.proofs.Common.{All-nil, Contains, get_or, of_sample, map, replicate, sign, times, point, Pair, Sample, sum_below}
use Rattle.clean_signal.proofs.Common.{sum_same, distrib_right, unsigned_abs-mul, mul-le-mul_right, cases_lt, subst, no_sample, sample_with}
use Rattle.clean_signal.proofs.Common.{pilot_chip, scaled, places, CellPlan, Carrier, amplitude, amplitudes, carriers, sample_of, walsh}
use Rattle.clean_signal.proofs.Common.{samples_of, made_samples, signal_of_carriers, Form, Sync, Data, soft, soft_is, symbol_chips, symbols}
use Rattle.clean_signal.proofs.Common.{window_chips, pilot_sum, turned_part, turned_part-is, get_or-map-places, length-map-places, IsNear}
use Rattle.clean_signal.proofs.Common.{IsCloseSample, HaveSigns, IsFrameOf, IsAligned, level_at, path_finger, IsReceivable, Width, neg_ℤ}
use Rattle.clean_signal.proofs.Common.{symbol_inside, sum_turned}
use Rattle.cell_plan.proofs.Amplitudes.{amplitude_most}
use Rattle.clean_signal.proofs.frames.ChannelSigns.{noisy_signs}
use Rattle.clean_signal.proofs.noise.Axes.{below_amplitude, times_none}
use Rattle.clean_signal.proofs.noise.Near.{near-near, near-self}
use Rattle.clean_signal.proofs.signal.CarriersApart.{plan_apart}
use Rattle.clean_signal.proofs.signal.Frames.{Finds, block_begins, channel_level, first_block, own, row_total, softs_none, symbol_blocks}
use Rattle.clean_signal.proofs.signal.Rows.{chips_sum, level_at-alone, sum_plus}
use Rattle.clean_signal.proofs.signal.Samples.{AreSentAs}
use Rattle.clean_signal.specs.BoundedNoise.{channel_loudness, sample_without}
unfoldable use Rattle.clean_signal.specs.BoundedNoise.{samples_without}
use Rattle.clean_signal.specs.BoundedNoise as laws

-- ---- how near the samples are

close_i : (X Y U V x y : ℤ) (p q : Bool) (n : ℕ) → X ≡ U +ℤ x → Y ≡ V +ℤ y → unsigned_abs x + unsigned_abs y ≤ n →
    unsigned_abs (((U *ℤ sign p) -ℤ (V *ℤ sign q)) -ℤ ((X *ℤ sign p) -ℤ (Y *ℤ sign q))) ≤ n
close_i X Y U V x y true true n i q few = omega (arith, ints, i, q, few)
close_i X Y U V x y false true n i q few = omega (arith, ints, i, q, few)
close_i X Y U V x y b c n i q few = omega (arith, ints, i, q, few)

close_q : (X Y U V x y : ℤ) (p q : Bool) (n : ℕ) → X ≡ U +ℤ x → Y ≡ V +ℤ y → unsigned_abs x + unsigned_abs y ≤ n →
    unsigned_abs (((U *ℤ sign q) +ℤ (V *ℤ sign p)) -ℤ ((X *ℤ sign q) +ℤ (Y *ℤ sign p))) ≤ n
close_q X Y U V x y true true n i q few = omega (arith, ints, i, q, few)
close_q X Y U V x y false true n i q few = omega (arith, ints, i, q, few)
close_q X Y U V x y b c n i q few = omega (arith, ints, i, q, few)

-- an amplitude is what is left of it without a part, and that part
parted : (a b x : ℤ) → a *ℤ x ≡ ((a -ℤ b) *ℤ x) +ℤ (b *ℤ x)
parted a b x =
    let whole : a ≡ (a -ℤ b) +ℤ b = omega (arith, ints) in
    ap (λ (z : ℤ). z *ℤ x) whole ∙ distrib_right (a -ℤ b) b x

part_small : (a x y : ℤ) (gain : ℕ) → unsigned_abs a ≤ gain →
    unsigned_abs (a *ℤ x) + unsigned_abs (a *ℤ y) ≤ gain * (unsigned_abs x + unsigned_abs y)
part_small a x y gain few =
    let i = unsigned_abs-mul a x in
    let q = unsigned_abs-mul a y in
    let all : unsigned_abs a * (unsigned_abs x + unsigned_abs y) ≤
    gain * (unsigned_abs x + unsigned_abs y) = mul-le-mul_right (unsigned_abs x + unsigned_abs y) few in
    omega (arith, i, q, all)

-- two samples that differ by a part of the amplitude
close_part : (a b : ℤ) (gain : ℕ) (h : Pair) (chips : Bool × Bool) → unsigned_abs b ≤ gain →
    IsCloseSample (gain * (unsigned_abs h.i + unsigned_abs h.q)) (sample_with (times (scaled (a -ℤ b) h) (point chips)))
    (sample_with (times (scaled a h) (point chips)))
close_part a b gain h chips few =
    let n = gain * (unsigned_abs h.i + unsigned_abs h.q) in
    let small = part_small b h.i h.q gain few in
    let x = parted a b h.i in
    let y = parted a b h.q in
    record {
      i = close_i (a *ℤ h.i) (a *ℤ h.q) ((a -ℤ b) *ℤ h.i) ((a -ℤ b) *ℤ h.q) (b *ℤ h.i) (b *ℤ h.q)
          chips.0 chips.1 n x y small;
      q = close_q (a *ℤ h.i) (a *ℤ h.q) ((a -ℤ b) *ℤ h.i) ((a -ℤ b) *ℤ h.q) (b *ℤ h.i) (b *ℤ h.q)
          chips.0 chips.1 n x y small;
    }

near_places : (plan : CellPlan) (c : Carrier) (ts : List ℕ) →
    IsNear (channel_loudness plan c.gain) (map (λ t. sample_with (sample_without plan c t)) ts)
    (map sample_with (map (sample_of plan) ts))
near_places plan c [] = tt
near_places plan c (t ∷ ts) = (
  subst (λ (z : Pair). IsCloseSample (channel_loudness plan c.gain)
      (sample_with (sample_without plan c t)) (sample_with z)) (sym (signal_of_carriers plan t))
      (close_part (amplitudes (plan.link.start + t) (carriers plan)) (amplitude (plan.link.start + t) c)
      c.gain plan.link.factor (pilot_chip ((plan.link.start + t + 32768 - 64 * plan.cell.pn) % 32768))
      (amplitude_most (plan.link.start + t) c)),
  near_places plan c ts,
)

-- ---- what the channel's row finds

without_sent : (plan : CellPlan) (c : Carrier) →
    AreSentAs plan (λ chip. amplitudes chip (carriers plan) -ℤ amplitude chip c) (samples_without plan c)
unfolding samples_without
without_sent plan c = record {
  long = length-map-places (λ t. sample_with (sample_without plan c t)) plan.link.samples;
  each = λ t lt.
      ap of_sample
      (get_or-map-places (λ t. sample_with (sample_without plan c t)) plan.link.samples t no_sample
      lt);
}

difference : (n : ℕ) (f g : ℕ → ℤ) → sum_below n (λ k. f k -ℤ g k) ≡ sum_below n f -ℤ sum_below n g
difference n f g = sum_plus n f (λ k. neg_ℤ (g k)) ∙ ap (λ (z : ℤ). sum_below n f +ℤ z) (sum_turned n g)

signed_difference : (b : Bool) (x y : ℤ) → sign b *ℤ (x -ℤ y) ≡ (sign b *ℤ x) -ℤ (sign b *ℤ (y +ℤ pos 0))
signed_difference true x y = omega (arith, ints)
signed_difference false x y = omega (arith, ints)

-- It finds as much of all channels as of its own alone, and so nothing where that is taken away.
nothing_left : (row b m : ℕ) (c : Carrier) (cs : List Carrier) (l : ℤ) → row < 64 →
    All IsAligned cs → All IsAligned (c ∷ []) → ((i : ℕ) → i < m → level_at row cs (64 * (b + i)) ≡ l) →
    ((i : ℕ) → i < m → level_at row (c ∷ []) (64 * (b + i)) ≡ l) →
    Finds row (λ chip. amplitudes chip cs -ℤ amplitude chip c) b m (pos 0)
nothing_left row b m c cs l below all one each own =
    let f = λ (k : ℕ). sign (walsh row (k % 64)) *ℤ amplitudes (64 * b + k) cs in
    let g = λ (k : ℕ). sign (walsh row (k % 64)) *ℤ amplitudes (64 * b + k) (c ∷ []) in
    let x : sum_below (64 * m) f ≡ pos (64 * m) *ℤ l = chips_sum row b m cs l below all each in
    let y : sum_below (64 * m) g ≡ pos (64 * m) *ℤ l = chips_sum row b m (c ∷ []) l below one own in
    sum_same (64 * m) _ _
    (λ k lt. signed_difference (walsh row (k % 64)) (amplitudes (64 * b + k) cs) (amplitude (64 * b + k) c))
    ∙ difference (64 * m) f g
    ∙ no_more (sum_below (64 * m) f) (sum_below (64 * m) g) (64 * m) (x ∙ sym y)
  where
    no_more : (x y : ℤ) (n : ℕ) → x ≡ y → x -ℤ y ≡ pos n *ℤ pos 0
    no_more x y n same =
        let none = times_none (pos n) (pos 0) refl in
        omega (arith, ints, same, none)

-- ---- a soft value without the channel

no_product : (p : Pair) (h : Pair) (n : ℕ) → turned_part p (scaled (pos 2 *ℤ (pos n *ℤ pos 0)) h) ≡ pos 0
no_product p h n =
    let z = times_none (pos 2) (pos n *ℤ pos 0) (times_none (pos n) (pos 0) refl) in
    let i : (pos 2 *ℤ (pos n *ℤ pos 0)) *ℤ h.i ≡ pos 0 = ap (λ (x : ℤ). x *ℤ h.i) z ∙ omega (arith, ints) in
    let q : (pos 2 *ℤ (pos n *ℤ pos 0)) *ℤ h.q ≡ pos 0 = ap (λ (x : ℤ). x *ℤ h.q) z ∙ omega (arith, ints) in
    let a = times_none p.i _ i in
    let b = times_none p.q _ q in
    sym (turned_part-is p (scaled (pos 2 *ℤ (pos n *ℤ pos 0)) h)) ∙ omega (arith, ints, a, b)

no_soft : {width : Width} {plan : CellPlan} {c : Carrier} {form : Form} {u frame : ℕ} →
    (is : IsReceivable width plan) → (has : Contains (carriers plan) c) →
    (sent : IsFrameOf plan c form u frame) → (j : ℕ) → j < symbols form →
    soft (samples_without plan c) (path_finger plan c.row) form u j ≡ pos 0
no_soft {width} {plan} {c} {form} {u} {frame} is has sent j few =
    let apart = plan_apart width plan is.lawful in
    let row = own is has sent in
    let block = first_block is has sent + symbol_blocks form * j in
    let l = pos c.gain *ℤ sign (get_or (c.symbols frame) j false) in
    let symbol = symbol_inside form j few in
    let room = sent.room in
    let each = channel_level is has sent j few in
    let xs = samples_without plan c in
    let p = pilot_sum xs (path_finger plan c.row) form u (symbol_chips form * j / window_chips form) in
    sym (soft_is xs (path_finger plan c.row) form u j)
    ∙ ap (turned_part p)
    (row_total plan (λ chip. amplitudes chip (carriers plan) -ℤ amplitude chip c) xs form c.row u
    (first_block is has sent) j (pos 0) (without_sent plan c) is.lawful.pn (block_begins is has sent)
    (omega (arith, room, symbol))
    (nothing_left c.row block (symbol_blocks form) c (carriers plan) l row.row apart.aligned
    (All-cons IsAligned c [] row (All-nil IsAligned)) each
    (λ i lt.
    level_at-alone (64 * (block + i)) (c ∷ []) c (All-nil (λ (d : Carrier). d.row ≢ c.row), tt) (0, omega arith, refl)
    ∙ sym (level_at-alone (64 * (block + i)) (carriers plan) c apart.own_rows has)
    ∙ each i lt)))
    ∙ no_product p plan.link.factor (symbol_chips form)

-- ---- the laws

pub taken_away : laws.ChannelsAreTakenAway
unfolding made_samples samples_of samples_without
taken_away width plan c is has = (
  near_places plan c (places plan.link.samples),
  λ form u frame at.
      softs_none (samples_without plan c) (path_finger plan c.row) form u
      (no_soft is has at),
)

symbols_some : (form : Form) → 0 < symbols form
symbols_some Sync = omega arith
symbols_some Data = omega arith

near-more : (d e : ℕ) (xs ys : List Sample) → d ≤ e → IsNear d xs ys → IsNear e xs ys
near-more d e xs ys more near =
    let rest : d + (e - d) ≡ e = omega (arith, more) in
    subst (λ (n : ℕ). IsNear n xs ys) rest (near-near d (e - d) xs ys ys near (near-self (e - d) ys))

-- no symbol has a soft value of 0
signs_lost : (bits : List Bool) (n : ℕ) → length bits ≡ n → 0 < n → ¬ (HaveSigns bits (replicate n (pos 0)))
signs_lost [] n long some signs = absurd (omega (arith, long, some))
signs_lost (true ∷ bits) (suc n) long some signs =
    let first : pos 0 <ℤ (pos 0 *ℤ sign true) = signs.0 in absurd (omega (arith, ints, first))
signs_lost (false ∷ bits) (suc n) long some signs =
    let first : pos 0 <ℤ (pos 0 *ℤ sign false) = signs.0 in absurd (omega (arith, ints, first))
signs_lost (b ∷ bits) zero long some signs = absurd (omega (arith, some))

pub exact : laws.MarginsAreExact
exact width plan c form u frame e is has axis soft_enough at long = (
  λ bears samples near. noisy_signs width plan c form u frame e samples is has at long near bears,
  λ all. ⊎_elim (λ (borne : e < channel_loudness plan c.gain). (below_amplitude plan c.gain e axis soft_enough).1 borne)
      (λ (lost : channel_loudness plan c.gain ≤ e).
      absurd (signs_lost (c.symbols frame) (symbols form) long (symbols_some form)
      (subst (HaveSigns (c.symbols frame)) ((taken_away width plan c is has).1 form u frame at)
      (all (samples_without plan c)
      (near-more (channel_loudness plan c.gain) e (samples_without plan c) (made_samples plan) lost
      (taken_away width plan c is has).0)))))
      (cases_lt e (channel_loudness plan c.gain)),
)
