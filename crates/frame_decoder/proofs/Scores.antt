-- A codeword's score under a span's soft values is its score under the gathered ones.
use Rattle.frame_decoder.proofs.Common.{◌≡◌, ℕ, zero, suc, ◌+◌, ◌*◌, ◌≤◌, Bool, List, [], ◌∷◌, ◌++◌, length, take, drop, refl, sym, ap, ◌∙◌}
use Rattle.frame_decoder.proofs.Common.{arith, ℤ, ◌+ℤ◌, length-drop, length-take-le, take_all, ints, code_symbols, length-code_symbols}
use Rattle.frame_decoder.proofs.Common.{shape_of, size, sent, gathered, Kind, length-sent, agreement-gathered, Codeword, correlation, score}
use Rattle.frame_decoder.proofs.Common.{score_of, sending, sent_frames, gathered_span, flat_map-next, flat_map-zero}
use Rattle.frame_decoder.proofs.Parts.{length-frames, take-frames}
use Rattle.frame_decoder.proofs.Gathered.{channel, frame_of, length-gathered_span}

correlation-append : (xs ys : List ℤ) (bs cs : List Bool) → length xs ≡ length bs →
    correlation (xs ++ ys) (bs ++ cs) ≡ correlation xs bs +ℤ correlation ys cs
correlation-append [] ys [] cs e = omega (arith, ints)
correlation-append [] ys (b ∷ bs) cs e = absurd (omega (arith, e))
correlation-append (x ∷ xs) ys [] cs e = absurd (omega (arith, e))
correlation-append (x ∷ xs) ys (b ∷ bs) cs e =
    let rest = correlation-append xs ys bs cs (omega (arith, e)) in
    rw rest (omega (arith, ints))

-- frame k of the code symbols, as it is sent
abbrev sent_frame : Kind → ℕ → ℕ → List Bool → ℕ → List Bool
sent_frame kind bits repeats symbols k = sent (shape_of kind) repeats (take (2 * bits) (drop (2 * bits * k) symbols))

length-sent_frames : (kind : Kind) (bits repeats n : ℕ) (symbols : List Bool) →
    length (sent_frames (sending (channel kind bits repeats) n) symbols) ≡ size (shape_of kind) * n
length-sent_frames kind bits repeats n symbols =
    length-frames (sent_frame kind bits repeats symbols) (size (shape_of kind)) n
    (λ k. length-sent (shape_of kind) repeats (take (2 * bits) (drop (2 * bits * k) symbols)))

-- a part of `size` elements lies within
length-part : {A : Type 0} (xs : List A) (size n : ℕ) → size * suc n ≤ length xs →
    length (take size (drop (size * n) xs)) ≡ size
length-part xs size n room =
    let more : size * suc n ≡ size * n + size = omega arith in
    length-take-le size (drop (size * n) xs) (rw (length-drop (size * n) xs) (omega (arith, room, more)))

length-front : {A : Type 0} (xs : List A) (size n : ℕ) → size * suc n ≤ length xs →
    length (take (size * n) xs) ≡ size * n
length-front xs size n room =
    let more : size * suc n ≡ size * n + size = omega arith in
    length-take-le (size * n) xs (omega (arith, room, more))

-- By induction over n, the first n frames have one correlation, as sent and as gathered: it is so
-- for the last one (`agreement-gathered`), and those of parts add up (`correlation-append`).
frames_agree : (kind : Kind) (bits repeats n : ℕ) (softs : List ℤ) (symbols : List Bool) →
    2 * bits * repeats ≡ size (shape_of kind) →
    size (shape_of kind) * n ≤ length softs → 2 * bits * n ≤ length symbols →
    correlation (take (size (shape_of kind) * n) softs) (sent_frames (sending (channel kind bits repeats) n) symbols)
    ≡ correlation (gathered_span (channel kind bits repeats) n softs) (take (2 * bits * n) symbols)
frames_agree kind bits repeats zero softs symbols e room room' =
    let none : size (shape_of kind) * 0 ≡ 0 = omega arith in
    let gathered_none =
    flat_map-zero (λ k. gathered (shape_of kind) repeats (frame_of (size (shape_of kind)) k softs)) in
    rw (none, gathered_none) refl
frames_agree kind bits repeats (suc n) softs symbols e room room' =
    let s = shape_of kind in
    let c = channel kind bits repeats in
    let more : size s * suc n ≡ size s * n + size s = omega arith in
    let more' : 2 * bits * suc n ≡ 2 * bits * n + 2 * bits = omega arith in
    let front = take (size s * n) softs in
    let here = frame_of (size s) n softs in
    let front' = take (2 * bits * n) symbols in
    let here' = take (2 * bits) (drop (2 * bits * n) symbols) in
    let sent_front = sent_frames (sending c n) symbols in
    let gathered_front = gathered_span c n softs in
    let rest =
    frames_agree kind bits repeats n softs symbols e (omega (arith, room, more)) (omega (arith, room', more')) in
    let long : length here ≡ size s = length-part softs (size s) n room in
    let long' : length here' * repeats ≡ size s =
    ap (λ (k : ℕ). k * repeats) (length-part symbols (2 * bits) n room')
    ∙ e in
    let sent_all = sent_frames (sending c (suc n)) symbols in
    let gathered_frame : ℕ → List ℤ = λ k. gathered s repeats (frame_of (size s) k softs) in
    let front_long = length-front softs (size s) n room in
    let front_long' = length-front symbols (2 * bits) n room' in
    let sent_long = length-sent_frames kind bits repeats n symbols in
    let gathered_long = length-gathered_span kind bits repeats n softs e in
    ap (λ (xs : List ℤ). correlation xs sent_all) (take-frames softs (size s) n)
    ∙ ap (correlation (front ++ here)) (flat_map-next (sent_frame kind bits repeats symbols) n)
    ∙ correlation-append front here sent_front (sent s repeats here') (front_long ∙ sym sent_long)
    ∙ ap (λ (z : ℤ). z +ℤ correlation here (sent s repeats here')) rest
    ∙ ap (λ (z : ℤ). correlation gathered_front front' +ℤ z) (agreement-gathered kind repeats here here' long long')
    ∙ sym (correlation-append gathered_front (gathered s repeats here) front' here' (gathered_long ∙ sym front_long'))
    ∙ ap (λ (xs : List ℤ). correlation xs (front' ++ here')) (sym (flat_map-next gathered_frame n))
    ∙ ap (correlation (gathered_span c (suc n) softs)) (sym (take-frames symbols (2 * bits) n))

-- A codeword of the span's length has the same score under the gathered soft values as under those
-- that were sent: it is `frames_agree` for n frames, which are all of the soft values and symbols.
pub score_is : (kind : Kind) (bits repeats n : ℕ) (softs : List ℤ) (w : Codeword) →
    2 * bits * repeats ≡ size (shape_of kind) → length softs ≡ size (shape_of kind) * n → length w.bits ≡ bits * n →
    score_of (gathered_span (channel kind bits repeats) n softs) w
    ≡ score softs (sending (channel kind bits repeats) n) w
score_is kind bits repeats n softs w e long long' =
    let c = channel kind bits repeats in
    let symbols = code_symbols w.start w.bits in
    let count : length symbols ≡ 2 * bits * n = length-code_symbols w.start w.bits
    ∙ ap (λ (k : ℕ). 2 * k) long' ∙ omega arith in
    let whole = take_all (2 * bits * n) symbols (omega (arith, count)) in
    let all = take_all (size (shape_of kind) * n) softs (omega (arith, long)) in
    ap (correlation (gathered_span c n softs)) (sym whole)
    ∙ sym (frames_agree kind bits repeats n softs symbols e (omega (arith, long)) (omega (arith, count)))
    ∙ ap (λ (xs : List ℤ). correlation xs (sent_frames (sending c n) symbols)) all
