-- The best codeword of the gathered soft values is the best codeword of the span.
use Rattle.frame_decoder.proofs.Common.{◌≡◌, ℕ, zero, suc, ◌+◌, ◌*◌, ◌<◌, ◌≤◌, List, length, take, drop, reverse, refl, ap, ◌∙◌, arith, ℤ}
use Rattle.frame_decoder.proofs.Common.{length-drop, if◌then◌else◌, int_lt, length-reverse, binary, first_greatest, shape_of, length-binary}
use Rattle.frame_decoder.proofs.Common.{size, Kind, Codeword, score_of, codeword_count, codeword_at, best_codeword, IsBestCodeword, Free}
use Rattle.frame_decoder.proofs.Common.{by_definition, Channel, sending, score, gathered_span, own_bits}
use Rattle.frame_decoder.proofs.Parts.{within}
use Rattle.frame_decoder.proofs.Gathered.{channel, length-gathered_span}
use Rattle.frame_decoder.proofs.Scores.{score_is}

pub first_greatest-same : (f g : ℕ → ℤ) (n : ℕ) → ((k : ℕ) → f k ≡ g k) → first_greatest f n ≡ first_greatest g n
unfolding first_greatest
first_greatest-same f g zero h = refl
first_greatest-same f g (suc n) h =
    let b = first_greatest g n in
    ap (λ (k : ℕ). if int_lt (f k) (f n) then n else k) (first_greatest-same f g n h)
    ∙ ap (λ (z : ℤ). if int_lt z (f n) then n else b) (h b)
    ∙ ap (λ (z : ℤ). if int_lt (g b) z then n else b) (h n)

length-codeword_at : (n r : ℕ) → length (codeword_at Free n r).bits ≡ n
length-codeword_at n r =
    let joined = reverse (binary (n + 8) r) in
    let long : length joined ≡ n + 8 = length-reverse (binary (n + 8) r)
    ∙ length-binary (n + 8) r in
    length-drop 8 joined ∙ omega (arith, long)

pub length-best_codeword : (f : Codeword → ℤ) (n : ℕ) → length (best_codeword f Free n).bits ≡ n
unfolding best_codeword
length-best_codeword f n = length-codeword_at n (first_greatest (λ r. f (codeword_at Free n r)) (codeword_count Free n))

-- scores that agree on the codewords of n bits have the same best codeword of n bits
pub best_codeword-same : (f g : Codeword → ℤ) (n : ℕ) → ((w : Codeword) → length w.bits ≡ n → f w ≡ g w) →
    best_codeword f Free n ≡ best_codeword g Free n
unfolding best_codeword
best_codeword-same f g n h =
    ap (codeword_at Free n)
    (first_greatest-same (λ r. f (codeword_at Free n r)) (λ r. g (codeword_at Free n r)) (codeword_count Free n)
    (λ r. h (codeword_at Free n r) (length-codeword_at n r)))

-- how many bits the span's codeword has
pub length-best : (kind : Kind) (bits repeats n : ℕ) (softs : List ℤ) (best : Codeword) →
    2 * bits * repeats ≡ size (shape_of kind) →
    IsBestCodeword (gathered_span (channel kind bits repeats) n softs) Free best → length best.bits ≡ bits * n
length-best kind bits repeats n softs best e h =
    let half = h.half in
    let long = length-gathered_span kind bits repeats n softs e in
    let all : 2 * bits * n ≡ 2 * (bits * n) = omega arith in
    omega (arith, half, long, all)

-- frame `own` lies within the codeword
pub own_within : (kind : Kind) (bits repeats n own : ℕ) (softs : List ℤ) (best : Codeword) →
    2 * bits * repeats ≡ size (shape_of kind) → own < n →
    IsBestCodeword (gathered_span (channel kind bits repeats) n softs) Free best → bits * own + bits ≤ length best.bits
own_within kind bits repeats n own softs best e h is =
    let room = within bits n own h in
    let long = length-best kind bits repeats n softs best e is in
    omega (arith, room, long)

-- The bits of frame `own` are the definition's: codewords of the span's length have the same scores
-- under the gathered soft values (`score_is`), so the best one is the same (`by_definition`).
pub own_is : (kind : Kind) (bits repeats n own : ℕ) (softs : List ℤ) (best : Codeword) → 8 ≤ bits →
    2 * bits * repeats ≡ size (shape_of kind) → length softs ≡ size (shape_of kind) * n → own < n →
    IsBestCodeword (gathered_span (channel kind bits repeats) n softs) Free best →
    take bits (drop (bits * own) best.bits) ≡ own_bits (channel kind bits repeats) n own softs
own_is kind bits repeats n own softs best least e long h is =
    let c : Channel = channel kind bits repeats in
    let room = within bits n own h in
    let enough : 8 ≤ bits * n = omega (arith, least, room) in
    let count : length (gathered_span c n softs) ≡ 2 * (bits * n) =
    length-gathered_span kind bits repeats n softs e
    ∙ omega arith in
    let codeword : best ≡ best_codeword (score softs (sending c n)) Free (bits * n) =
    by_definition (gathered_span c n softs) Free (bits * n) best enough count is
    ∙ best_codeword-same (score_of (gathered_span c n softs)) (score softs (sending c n)) (bits * n)
    (λ w long'. score_is kind bits repeats n softs w e long long') in
    ap (λ (w : Codeword). take bits (drop (bits * own) w.bits)) codeword
