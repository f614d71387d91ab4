-- The bits of frames whose encoder goes on from one to the next.
use Rattle.cell_plan.proofs.Common.{◌≡◌, ℕ, zero, suc, ◌+◌, ◌-◌, ◌≤◌, Bool, List, ◌++◌, length, drop, refl, sym, ap, ◌∙◌, arith, add-one}
use Rattle.cell_plan.proofs.Common.{drop-append-add, binary, length-binary, code_symbols, state_after, bits_before, continued_symbols}

pub before-first : (bits : ℕ → List Bool) → binary 8 0 ≡ bits_before bits 0
unfolding binary bits_before
before-first bits = refl

before-next : (bits : ℕ → List Bool) (k : ℕ) → bits_before bits (k + 1) ≡ drop (length (bits k) - 8) (bits k)
unfolding bits_before
before-next bits k = rw add-one refl

-- the encoder's state after eight bits or more is the last eight
pub last_eight : (start bits : List Bool) → length start ≡ 8 → 8 ≤ length bits →
    state_after start bits ≡ drop (length bits - 8) bits
last_eight start bits eight enough =
    let n : length bits ≡ length start + (length bits - 8) = omega (arith, eight, enough) in
    ap (λ (k : ℕ). drop k (start ++ bits)) n ∙ drop-append-add start bits (length bits - 8)

-- after a frame of eight bits or more the encoder is in the next frame's first state
pub last_before : (bits : ℕ → List Bool) (k start last : ℕ) (frame : List Bool) → frame ≡ bits k →
    8 ≤ length frame → binary 8 last ≡ state_after (binary 8 start) frame → binary 8 last ≡ bits_before bits (k + 1)
last_before bits k start last frame is enough following =
    following ∙ last_eight (binary 8 start) frame (length-binary 8 start) enough
    ∙ ap (λ (b : List Bool). drop (length b - 8) b) is ∙ sym (before-next bits k)

pub continued_is : (bits : ℕ → List Bool) (k : ℕ) →
    continued_symbols bits k ≡ code_symbols (bits_before bits k) (bits k)
unfolding continued_symbols bits_before
continued_is bits zero = refl
continued_is bits (suc k) = refl

-- the code symbols of a frame
pub coded : (bits : ℕ → List Bool) (k start : ℕ) (frame code : List Bool) → frame ≡ bits k →
    binary 8 start ≡ bits_before bits k → code ≡ code_symbols (binary 8 start) frame → code ≡ continued_symbols bits k
coded bits k start frame code is before coded_is =
    coded_is
    ∙ ap (λ (b : List Bool). code_symbols (binary 8 start) b) is
    ∙ ap (λ (s : List Bool). code_symbols s (bits k)) before
    ∙ sym (continued_is bits k)
