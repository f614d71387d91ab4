-- The soft values of the last frames, and what their absolute values add up to.
use Rattle.reception.proofs.Common.{◌≡◌, ℕ, zero, suc, ◌+◌, ◌-◌, ◌*◌, ◌≤◌, List, [], ◌∷◌, ◌++◌, length, drop, refl, ap, ◌∙◌, arith, ℤ, pos}
use Rattle.reception.proofs.Common.{replicate, length-drop, sum_by, unsigned_abs, drop-append-le, drop-drop, drop-replicate, sum_by-append}
use Rattle.reception.proofs.Common.{sum_by-replicate, symbols, soft_bound, Form, Sync, Data, AreSmall, frame_most, last_softs}

-- a frame over three fingers
pub frame_small : (form : Form) (fingers : ℕ) → fingers ≤ 3 → fingers * (symbols form * soft_bound form) ≤ frame_most
frame_small Sync fingers few = omega arith
frame_small Data fingers few = omega arith

pub most_symbols : (form : Form) → symbols form ≤ 384
most_symbols Sync = omega arith
most_symbols Data = omega arith

-- three frames have room
pub frames_fit : (symbols frames : ℕ) → symbols ≤ 384 → frames ≤ 3 → symbols * frames ≤ 1152
frames_fit symbols zero few most = omega arith
frames_fit symbols (suc zero) few most = omega arith
frames_fit symbols (suc (suc zero)) few most = omega arith
frames_fit symbols (suc (suc (suc zero))) few most = omega arith
frames_fit symbols (suc (suc (suc (suc n)))) few most = absurd (omega arith)

-- ONE FRAME MORE
-- the last frames, with one frame more after them
pub last_more : (symbols frames : ℕ) (softs fresh : List ℤ) → length softs ≡ 1152 → symbols * frames + symbols ≤ 1152 →
    last_softs symbols (suc frames) (drop symbols softs ++ fresh) ≡ last_softs symbols frames softs ++ fresh
last_more symbols frames softs fresh long room =
    let older : List ℤ = drop symbols softs in
    let left : ℕ = 1152 - symbols - symbols * frames in
    let count : length older ≡ 1152 - symbols = omega (arith, length-drop symbols softs) in
    let a : 1152 - symbols * suc frames ≡ left = omega arith in
    let b : left ≤ length older = omega (arith, count) in
    let c : symbols + left ≡ 1152 - symbols * frames = omega arith in
    ap (λ n. drop n (older ++ fresh)) a
    ∙ drop-append-le left older fresh b
    ∙ ap (λ (xs : List ℤ). xs ++ fresh) (drop-drop left symbols softs)
    ∙ ap (λ n. drop n softs ++ fresh) c

last_none : (symbols : ℕ) (softs fresh : List ℤ) → length softs ≡ 1152 → last_softs symbols 0 softs ++ fresh ≡ fresh
last_none symbols softs fresh long =
    let none : symbols * 0 ≡ 0 = omega arith in
    let all : 1152 - symbols * 0 ≡ length softs = omega (arith, long, none) in
    ap (λ n. drop n softs ++ fresh) all ∙ ap (λ (xs : List ℤ). xs ++ fresh) (drop_all' softs)
  where
    drop_all' : (xs : List ℤ) → drop (length xs) xs ≡ []
    drop_all' [] = refl
    drop_all' (x ∷ xs) = drop_all' xs

-- When a frame's soft values are shifted in, those of the last one, two and three frames stay
-- within their bounds: they are the new ones, and those of one frame less from before, so each sum
-- grows by at most one frame's.
pub shifted_small : (symbols : ℕ) (softs fresh : List ℤ) → symbols ≤ 384 →
    length softs ≡ 1152 → AreSmall symbols softs → sum_by unsigned_abs fresh ≤ frame_most →
    AreSmall symbols (drop symbols softs ++ fresh)
shifted_small symbols softs fresh room long small few =
    let size : List ℤ → ℕ = λ xs. sum_by unsigned_abs xs in
    let one = last_more symbols 0 softs fresh long (omega arith) in
    let two = last_more symbols 1 softs fresh long (omega arith) in
    let three = last_more symbols 2 softs fresh long (omega arith) in
    let joined : (m : ℕ) → size (last_softs symbols m softs ++ fresh)
    ≡ size (last_softs symbols m softs) + size fresh =
    λ m. sum_by-append unsigned_abs (last_softs symbols m softs) fresh in
    record {
      one = rw (one ∙ last_none symbols softs fresh long) few;
      two = rw two (omega (arith, joined 1, small.one, few));
      three = rw three (omega (arith, joined 2, small.two, few));
    }

pub zeros_small : (symbols : ℕ) → AreSmall symbols (replicate 1152 (pos 0))
zeros_small symbols =
    let none : (n : ℕ) → sum_by unsigned_abs (drop n (replicate 1152 (pos 0))) ≡ 0 = λ n.
    ap (sum_by unsigned_abs) (drop-replicate n 1152 (pos 0))
    ∙ sum_by-replicate unsigned_abs (1152 - n) (pos 0)
    ∙ omega arith in
    record {
      one = omega (arith, none (1152 - symbols * 1));
      two = omega (arith, none (1152 - symbols * 2));
      three = omega (arith, none (1152 - symbols * 3));
    }
