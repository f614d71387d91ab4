-- A slot whose four frames were kept: its soft values are small, and its lines are those told.
use Rattle.tuned_listener.proofs.Common.{slot_span_softs, if◌then◌else◌, sum_by-append, unsigned_abs, is_monitored, paging_rate, frame_most}
use Rattle.tuned_listener.proofs.Common.{slot_lines, slot_pages, SlotWriter, drop-drop, CheckForm, SoftFrame, slot_bits, HoldsSlot, length}
use Rattle.tuned_listener.proofs.Common.{slot_text, flat_map, take-add, take_all, nat_lt, sum_by, eq-eqb, false, arith, zero, Bool, true, ℕ}
use Rattle.tuned_listener.proofs.Common.{List, take, drop, refl, Some, None, Mark, Rate, ◌≡◌, ◌<◌, ◌≤◌, suc, ◌+◌, ◌*◌, ◌/◌, sym, ◌∙◌, ap, ℤ}

-- ---- its soft values

module _ (softs : List ℤ) (small : (frame : ℕ) → frame < 4 →
    sum_by unsigned_abs (take 384 (drop (384 * frame) softs)) ≤ frame_most) where
  -- those of some frames in a row
  frames_small : (first count : ℕ) → first + count ≤ 4 →
      sum_by unsigned_abs (take (384 * count) (drop (384 * first) softs)) ≤ count * frame_most
  frames_small first zero within = omega arith
  frames_small first (suc count) within =
      let all : 384 * suc count ≡ 384 + 384 * count = omega arith in
      let next : 384 * first + 384 ≡ 384 * (first + 1) = omega arith in
      let rest = drop (384 * first) softs in
      let here = small first (omega (arith, within)) in
      let later = frames_small (first + 1) count (omega (arith, within)) in
      let parted : sum_by unsigned_abs (take (384 * suc count) rest)
      ≡ sum_by unsigned_abs (take 384 rest)
      + sum_by unsigned_abs (take (384 * count) (drop (384 * (first + 1)) softs)) =
      ap (λ (n : ℕ). sum_by unsigned_abs (take n rest)) all
      ∙ ap (sum_by unsigned_abs) (take-add 384 (384 * count) rest)
      ∙ sum_by-append unsigned_abs (take 384 rest) (take (384 * count) (drop 384 rest))
      ∙ ap (λ (xs : List ℤ). sum_by unsigned_abs (take 384 rest)
      + sum_by unsigned_abs (take (384 * count) xs))
      (drop-drop 384 (384 * first) softs ∙ ap (λ (n : ℕ). drop n softs) next) in
      let more : suc count * frame_most ≡ frame_most + count * frame_most = omega arith in
      omega (arith, parted, here, later, more)

  -- those of a frame's span
  pub spans_small : (frame : ℕ) → frame < 4 → sum_by unsigned_abs (slot_span_softs softs frame) ≤ 4611686018427387904
  spans_small zero below = let few = frames_small 0 2 (omega arith) in omega (arith, few)
  spans_small (suc zero) below = let few = frames_small 0 3 (omega arith) in omega (arith, few)
  spans_small (suc (suc zero)) below =
      let few = frames_small 1 3 (omega arith) in omega (arith, few)
  spans_small (suc (suc (suc zero))) below =
      let few = frames_small 2 2 (omega arith) in omega (arith, few)
  spans_small (suc (suc (suc (suc n)))) below = absurd (omega (arith, below))

-- ---- its lines

-- the soft values that are kept of a whole slot are those of its frames
kept_softs : (w : SlotWriter) (slot : List SoftFrame) → HoldsSlot w slot → w.kept ≡ 4 →
    length w.softs ≡ 1536 → w.softs ≡ flat_map (λ (f : SoftFrame). f.descrambled) slot
kept_softs w slot holds all long =
    let whole : length w.softs ≤ 384 * w.kept = omega (arith, all, long) in
    sym (take_all (384 * w.kept) w.softs whole) ∙ holds.softs_are

-- where a mark's data rate stands for one, it is this one
rate_told : (prat : ℕ) (rate : Rate) → (if nat_lt prat 2 then Some (paging_rate prat) else None) ≡ Some rate →
    (nat_lt prat 2 ≡ true) × (paging_rate prat ≡ rate)
rate_told prat rate is = by_test (nat_lt prat 2) refl is
  where
    by_test : (b : Bool) → nat_lt prat 2 ≡ b → (if b then Some (paging_rate prat) else None) ≡ Some rate →
        (nat_lt prat 2 ≡ true) × (paging_rate prat ≡ rate)
    by_test true low told = (low, cc)
    by_test false high told = absurd (cc)

-- the text of a slot that is monitored
pub slot_told : (w : SlotWriter) (key cycle : ℕ) (check : CheckForm) (m : Mark)
    (slot : List SoftFrame) (frame : SoftFrame) (time : ℕ) (rate : Rate) (bits : List Bool) →
    HoldsSlot w slot → w.kept ≡ 4 → length w.softs ≡ 1536 → time ≡ m.time + frame.number / 4 →
    is_monitored time key cycle ≡ true → (if nat_lt m.prat 2 then Some (paging_rate m.prat) else None) ≡ Some rate →
    bits ≡ slot_bits rate w.softs →
    slot_text key cycle check m slot frame ≡ slot_lines frame.end time (slot_pages check rate bits)
slot_told w key cycle check m slot frame time rate bits holds all long at awake told is =
    let (low, same) = rate_told m.prat rate told in
    let four = eq-eqb (length slot) 4 (sym holds.count_is ∙ all) in
    let softs = kept_softs w slot holds all long in
    rw (sym at, four, awake, low, same, sym softs, is) refl
