-- A span of one frame.
use Rattle.frame_decoder.proofs.Common.{◌≡◌, ℕ, ◌*◌, Bool, List, ◌++◌, length, take, drop, ap, ◌∙◌, arith, take_all, code_symbols, sent}
use Rattle.frame_decoder.proofs.Common.{length-code_symbols, Codeword, correlation, best_codeword, Free, Channel, sending, sent_frames}
use Rattle.frame_decoder.proofs.Common.{score, IsOneFrame, flat_map-next, flat_map-zero}
use Rattle.frame_decoder.specs.Laws.{channel_frame_score}
use Rattle.frame_decoder.proofs.BestCodewords.{length-best_codeword, best_codeword-same}

sent_one : (c : Channel) (symbols : List Bool) → length symbols ≡ 2 * c.bits →
    sent_frames (sending c 1) symbols ≡ sent c.shape c.repeats symbols
sent_one c symbols long =
    let f = λ (k : ℕ). sent c.shape c.repeats (take (2 * c.bits) (drop (2 * c.bits * k) symbols)) in
    let none : 2 * c.bits * 0 ≡ 0 = omega arith in
    flat_map-next f 0
    ∙ ap (λ (xs : List Bool). xs ++ f 0) (flat_map-zero f)
    ∙ ap (λ (k : ℕ). sent c.shape c.repeats (take (2 * c.bits) (drop k symbols))) none
    ∙ ap (sent c.shape c.repeats) (take_all (2 * c.bits) symbols (omega (arith, long)))

-- A span of one frame has that frame's code symbols and no others, so each codeword scores the same
-- over the span as over the frame, the best one is the same, and all of its bits are the frame's
-- own.
pub one_frame : IsOneFrame
one_frame c softs =
    let none : c.bits * 0 ≡ 0 = omega arith in
    let one : c.bits * 1 ≡ c.bits = omega arith in
    let best = best_codeword (channel_frame_score c softs) Free c.bits in
    let span : ℕ → Codeword = λ n. best_codeword (score softs (sending c 1)) Free n in
    let twice : (w : Codeword) → length w.bits ≡ c.bits →
    length (code_symbols w.start w.bits) ≡ 2 * c.bits = λ w long.
    length-code_symbols w.start w.bits ∙ ap (λ (k : ℕ). 2 * k) long in
    let same : span c.bits ≡ best =
    best_codeword-same (score softs (sending c 1)) (channel_frame_score c softs) c.bits
    (λ w long. ap (correlation softs) (sent_one c (code_symbols w.start w.bits) (twice w long))) in
    let long = length-best_codeword (channel_frame_score c softs) c.bits in
    ap (λ (n : ℕ). take c.bits (drop n (span (c.bits * 1)).bits)) none
    ∙ ap (λ (n : ℕ). take c.bits (span n).bits) one
    ∙ ap (λ (w : Codeword). take c.bits w.bits) same
    ∙ take_all c.bits best.bits (omega (arith, long))
