-- What is read of a frame depends only on its fingers' samples, and so stays when more samples
-- follow.
use Rattle.rake_finger.proofs.Common.{◌≡◌, ℕ, ◌+◌, ◌*◌, ◌/◌, ◌<◌, ◌≤◌, true, ◌&&◌, List, [], ◌∷◌, ◌++◌, map, length, take, drop, refl, ap}
use Rattle.rake_finger.proofs.Common.{arith, ℤ, pos, ◌+ℤ◌, ◌-ℤ◌, length-drop, unsigned_abs, int_le, ints, and_parts, take-append-le, sum_of}
use Rattle.rake_finger.proofs.Common.{drop-append-le, total, Sample, despread, symbol_chips, window_chips, symbols, frame_chips, pilot_sum}
use Rattle.rake_finger.proofs.Common.{finger_place, despread_at, covered_from, symbol_sum, soft, softs, Finger, Form, Sync, Data, is_within}
use Rattle.rake_finger.proofs.Common.{frame_end, map_ext_places, ◌-◌, sym, ◌∙◌, drop-drop, drop-take, take-take, AgreeIn, All, All-cons}
use Rattle.rake_finger.proofs.Common.{All-head, All-nil, All-tail}

-- a part of a part
part_is : {A : Type 0} (xs : List A) (place off count m : ℕ) → off + count ≤ m →
    take count (drop off (take m (drop place xs))) ≡ take count (drop (place + off) xs)
part_is xs place off count m fits =
    let rest : ℕ = m - off in
    let whole : m ≡ off + rest = omega (arith, fits) in
    ap (λ (n : ℕ). take count (drop off (take n (drop place xs)))) whole
    ∙ ap (take count) (drop-take off rest (drop place xs))
    ∙ take-take count rest (drop off (drop place xs)) (omega (arith, fits))
    ∙ ap (take count) (drop-drop off place xs)

part_same : {A : Type 0} (one other : List A) (place off count m : ℕ) → off + count ≤ m →
    take m (drop place one) ≡ take m (drop place other) →
    take count (drop (place + off) one) ≡ take count (drop (place + off) other)
part_same one other place off count m fits same =
    sym (part_is one place off count m fits)
    ∙ ap (λ xs. take count (drop off xs)) same
    ∙ part_is other place off count m fits

-- symbols and their windows lie in the frame
pub window_inside : (form : Form) (j : ℕ) → j < symbols form →
    window_chips form * (symbol_chips form * j / window_chips form) + window_chips form ≤ frame_chips form
window_inside Sync j h = omega arith
window_inside Data j h = omega arith

pub symbol_inside : (form : Form) (j : ℕ) → j < symbols form →
    symbol_chips form * j + symbol_chips form ≤ frame_chips form
symbol_inside Sync j h = omega arith
symbol_inside Data j h = omega arith

-- two files that agree in a finger's samples of a frame
module _ (one other : List Sample) (f : Finger) (form : Form) (u : ℕ)
    (same : take (frame_chips form) (drop (finger_place f u) one)
    ≡ take (frame_chips form) (drop (finger_place f u) other)) where
  despread_same : (off count : ℕ) → off + count ≤ frame_chips form →
      despread_at one f.phase (finger_place f u + off) count ≡ despread_at other f.phase (finger_place f u + off) count
  despread_same off count fits =
      ap (despread (f.phase + (finger_place f u + off)))
      (part_same one other (finger_place f u) off count (frame_chips form) fits same)

  pilot_same : (w : ℕ) → window_chips form * w + window_chips form ≤ frame_chips form →
      pilot_sum one f form u w ≡ pilot_sum other f form u w
  unfolding pilot_sum
  pilot_same w fits = ap sum_of (despread_same (window_chips form * w) (window_chips form) fits)

  symbol_same : (j : ℕ) → symbol_chips form * j + symbol_chips form ≤ frame_chips form →
      symbol_sum one f form u j ≡ symbol_sum other f form u j
  unfolding symbol_sum
  symbol_same j fits =
      ap (λ ps. sum_of (covered_from f.row 0 ps)) (despread_same (symbol_chips form * j) (symbol_chips form) fits)

  soft_same : (j : ℕ) → j < symbols form → soft one f form u j ≡ soft other f form u j
  unfolding soft
  soft_same j h =
      let a = pilot_same (symbol_chips form * j / window_chips form) (window_inside form j h) in
      let b = symbol_same j (symbol_inside form j h) in
      rw (a, b) refl

all_soft_same : (one other : List Sample) (fingers : List Finger) (form : Form) (u j : ℕ) →
    j < symbols form → AgreeIn one other form u fingers →
    map (λ f. soft one f form u j) fingers ≡ map (λ f. soft other f form u j) fingers
all_soft_same one other [] form u j h same = refl
all_soft_same one other (f ∷ fingers) form u j h same =
    let here : soft one f form u j ≡ soft other f form u j = soft_same one other f form u same.0 j h in
    let rest = all_soft_same one other fingers form u j h same.1 in
    rw (here, rest) refl

pub softs_same : (one other : List Sample) (fingers : List Finger) (form : Form) (u : ℕ) →
    AgreeIn one other form u fingers → softs one fingers form u ≡ softs other fingers form u
unfolding softs
softs_same one other fingers form u same =
    map_ext_places (λ j. total (map (λ f. soft one f form u j) fingers))
    (λ j. total (map (λ f. soft other f form u j) fingers)) (symbols form)
    (λ j h. ap total (all_soft_same one other fingers form u j h same))

-- MORE SAMPLES
-- a finger's samples of the frame lie among the first n
abbrev pub Fits : ℕ → Form → ℕ → Finger → Type 0
Fits n form u f = finger_place f u + frame_chips form ≤ n

-- so do each finger's
abbrev pub AllFit : ℕ → Form → ℕ → List Finger → Type 0
AllFit n form u fingers = All (Fits n form u) fingers

place_fits : (u m : ℕ) (d : ℤ) (n : ℕ) → int_le d (pos u) ≡ true →
    unsigned_abs ((pos u -ℤ d) +ℤ pos m) ≤ n → unsigned_abs (pos u -ℤ d) + m ≤ n
place_fits u m d n h e = grind (arith, ints)

-- A frame that lies in the stream on each finger, and ends at n or before, has each finger's
-- samples among the first n, by induction over the fingers: each has begun, so its place isn't
-- below 0, and its end is at most the latest one.
pub all_fit : (count n : ℕ) (fingers : List Finger) (form : Form) (u : ℕ) →
    is_within count fingers form u ≡ true → frame_end fingers form u ≤ n → AllFit n form u fingers
all_fit count n [] form u within ends = All-nil (Fits n form u)
all_fit count n (f ∷ fingers) form u within ends =
    let begun = int_le f.delta (pos u) in
    let fits = int_le ((pos u -ℤ f.delta) +ℤ pos (frame_chips form)) (pos count) in
    let parts = and_parts (begun && fits) (is_within count fingers form u) within in
    let one = and_parts begun fits parts.0 in
    All-cons (Fits n form u) f fingers (place_fits u (frame_chips form) f.delta n one.0 (omega arith))
    (all_fit count n fingers form u parts.1 (omega arith))

part_sooner : {A : Type 0} (xs ys : List A) (place count : ℕ) → place + count ≤ length xs →
    take count (drop place (xs ++ ys)) ≡ take count (drop place xs)
part_sooner xs ys place count h =
    let a : place ≤ length xs = omega arith in
    let b : count ≤ length (drop place xs) = omega (arith, length-drop place xs) in
    rw (drop-append-le place xs ys a) (take-append-le count (drop place xs) ys b)

agree_sooner : (xs ys : List Sample) (fingers : List Finger) (form : Form) (u : ℕ) →
    AllFit (length xs) form u fingers → AgreeIn (xs ++ ys) xs form u fingers
agree_sooner xs ys [] form u fit = tt
agree_sooner xs ys (f ∷ fingers) form u fit = (
  part_sooner xs ys (finger_place f u) (frame_chips form)
      (All-head (Fits (length xs) form u) f fingers fit),
  agree_sooner xs ys fingers form u (All-tail (Fits (length xs) form u) f fingers fit),
)

pub softs_sooner : (xs ys : List Sample) (fingers : List Finger) (form : Form) (u : ℕ) →
    AllFit (length xs) form u fingers → softs (xs ++ ys) fingers form u ≡ softs xs fingers form u
softs_sooner xs ys fingers form u fit = softs_same (xs ++ ys) xs fingers form u (agree_sooner xs ys fingers form u fit)
