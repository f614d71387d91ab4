-- The soft values of a span, gathered frame by frame.
use Rattle.frame_decoder.proofs.Common.{◌≡◌, ℕ, ◌+◌, ◌-◌, ◌*◌, ◌≤◌, List, ◌++◌, length, take, drop, sym, ap, ◌∙◌, arith, add-one, ℤ, sum_by}
use Rattle.frame_decoder.proofs.Common.{unsigned_abs, sum_by-append, sum_by-take-le, sum_by-take-drop, take-put_mid, put_mid, shape_of}
use Rattle.frame_decoder.proofs.Common.{size, gathered, Kind, length-gathered, size_some, count_is, Channel, gathered_span, flat_map-next}
use Rattle.frame_decoder.proofs.Common.{flat_map-zero}
use Rattle.frame_decoder.proofs.Parts.{length-frames, take-frames}

-- a channel whose frames are of a kind
abbrev pub channel : Kind → ℕ → ℕ → Channel
channel kind bits repeats = record { shape = shape_of kind; bits = bits; repeats = repeats }

-- the soft values of frame k of a span
abbrev pub frame_of : ℕ → ℕ → List ℤ → List ℤ
frame_of size k softs = take size (drop (size * k) softs)

pub frame_is : (symbols size k : ℕ) (softs : List ℤ) → symbols ≡ size →
    take (symbols * k + symbols - symbols * k) (drop (symbols * k) softs) ≡ frame_of size k softs
frame_is symbols size k softs e =
    let long : symbols * k + symbols - symbols * k ≡ symbols = omega arith in
    ap (λ (n : ℕ). take n (drop (symbols * k) softs)) long ∙ ap (λ (n : ℕ). frame_of n k softs) e

-- a frame's absolute values add up to no more than the span's
pub frame_small : (size k : ℕ) (softs : List ℤ) →
    sum_by unsigned_abs (frame_of size k softs) ≤ sum_by unsigned_abs softs
frame_small size k softs =
    let here = sum_by-take-le unsigned_abs (drop (size * k) softs) size in
    let rest = sum_by-take-drop unsigned_abs softs (size * k) in
    omega (arith, here, rest)

pub none_gathered : (c : Channel) (softs out : List ℤ) → take (2 * c.bits * 0) out ≡ gathered_span c 0 softs
none_gathered c softs out =
    let none : 2 * c.bits * 0 ≡ 0 = omega arith in
    rw none (sym (flat_map-zero (λ k. gathered c.shape c.repeats (frame_of (size c.shape) k softs))))

pub none_small : (code size : ℕ) (softs out : List ℤ) →
    sum_by unsigned_abs (take (code * 0) out) ≤ sum_by unsigned_abs (take (size * 0) softs)
none_small code size softs out =
    let none : code * 0 ≡ 0 = omega arith in
    rw none (omega arith)

-- a frame's part is written after those before
pub written : (bits code k : ℕ) (out part : List ℤ) → code ≡ 2 * bits → length part ≡ code → code * k ≤ length out →
    take (2 * bits * (k + 1)) (put_mid (code * k) (code * k + code - code * k) out part)
    ≡ take (2 * bits * k) out ++ part
written bits code k out part e long room =
    let end : 2 * bits * (k + 1) ≡ code * k + length part = rw (long, e) (omega arith) in
    let start : code * k ≡ 2 * bits * k = ap (λ (n : ℕ). n * k) e in
    take-put_mid (code * k) (code * k + code - code * k) out part (2 * bits * (k + 1)) end room
    ∙ ap (λ (n : ℕ). take n out ++ part) start

-- one frame more
pub one_gathered : (c : Channel) (code symbols k : ℕ) (softs out part : List ℤ) →
    code ≡ 2 * c.bits → symbols ≡ size c.shape → length part ≡ code → code * k ≤ length out →
    take (2 * c.bits * k) out ≡ gathered_span c k softs → part ≡ gathered c.shape c.repeats
    (take (symbols * k + symbols - symbols * k) (drop (symbols * k) softs)) →
    take (2 * c.bits * (k + 1)) (put_mid (code * k) (code * k + code - code * k) out part)
    ≡ gathered_span c (k + 1) softs
one_gathered c code symbols k softs out part e f long room before here =
    let f' = λ (j : ℕ). gathered c.shape c.repeats (frame_of (size c.shape) j softs) in
    let is : part ≡ f' k = here
    ∙ ap (gathered c.shape c.repeats) (frame_is symbols (size c.shape) k softs f) in
    written c.bits code k out part e long room
    ∙ ap (λ (xs : List ℤ). xs ++ part) before
    ∙ ap (λ (xs : List ℤ). gathered_span c k softs ++ xs) is
    ∙ sym (flat_map-next f' k)
    ∙ ap (λ (n : ℕ). gathered_span c n softs) (sym (add-one k))

-- What is gathered stays within the soft values' sizes with one frame more: the new frame's values
-- add up to at most that of its own soft values, and so do those of the frames before.
pub one_small : (bits size code symbols k : ℕ) (softs out part : List ℤ) → code ≡ 2 * bits →
    symbols ≡ size → length part ≡ code → code * k ≤ length out →
    sum_by unsigned_abs (take (2 * bits * k) out) ≤ sum_by unsigned_abs (take (size * k) softs) →
    sum_by unsigned_abs part ≤ sum_by unsigned_abs
    (take (symbols * k + symbols - symbols * k) (drop (symbols * k) softs)) → sum_by unsigned_abs
    (take (2 * bits * (k + 1)) (put_mid (code * k) (code * k + code - code * k) out part))
    ≤ sum_by unsigned_abs (take (size * (k + 1)) softs)
one_small bits size code symbols k softs out part e f long room before here =
    let one : sum_by unsigned_abs part ≤ sum_by unsigned_abs (frame_of size k softs) =
    rw (frame_is symbols size k softs f) at here in
    let all : take (size * (k + 1)) softs ≡ take (size * k) softs ++ frame_of size k softs =
    ap (λ (n : ℕ). take (size * n) softs) (add-one k) ∙ take-frames softs size k in
    let sum = sum_by-append unsigned_abs (take (2 * bits * k) out) part in
    let sum' = sum_by-append unsigned_abs (take (size * k) softs) (frame_of size k softs) in
    rw (written bits code k out part e long room, all, sum, sum') (omega (arith, before, one))

-- how many soft values are gathered
pub length-gathered_span : (kind : Kind) (bits repeats n : ℕ) (softs : List ℤ) →
    2 * bits * repeats ≡ size (shape_of kind) →
    length (gathered_span (channel kind bits repeats) n softs) ≡ 2 * bits * n
length-gathered_span kind bits repeats n softs e =
    let count = count_is (2 * bits) repeats (size (shape_of kind)) e (size_some kind) in
    let frame : ℕ → List ℤ = λ k. frame_of (size (shape_of kind)) k softs in
    length-frames (λ k. gathered (shape_of kind) repeats (frame k)) (2 * bits) n
    (λ k. length-gathered (shape_of kind) repeats (frame k) ∙ count)
