-- Which states have a survivor.
use Rattle.viterbi.proofs.Common.{◌≡◌, ℕ, ◌+◌, ◌*◌, ◌%◌, ◌<◌, ◌≤◌, Bool, true, false, List, ◌++◌, length, take, drop, get_or, replicate, ap}
use Rattle.viterbi.proofs.Common.{refl, sym, ◌∙◌, arith, ℤ, Option, Some, None, length-append, length-drop, nat_eq, length-replicate, Alive}
use Rattle.viterbi.proofs.Common.{take-append-drop, take-append-le, take-replicate, length-take-le, drop_at, get_or-drop, get_or-replicate}
use Rattle.viterbi.proofs.Common.{get_or_append_left, nat_tests, Codeword, HasStart, spelled_codeword, low_bits, forced_at, Ends, Zero}
use Rattle.viterbi.proofs.Common.{Free, Survivor}
use Rattle.viterbi.proofs.StateBits.{length-low_bits, low_bits-more}
use Rattle.viterbi.proofs.Choices.{IsBestOf}
use Rattle.viterbi.proofs.Steps.{Into, Survive}

-- a codeword of k bits into a state: zeros and then the state's bits
joined_to : ℕ → ℕ → List Bool
joined_to k t = replicate k false ++ low_bits 8 t

codeword_to : ℕ → ℕ → Codeword
codeword_to k t = record { start = take 8 (joined_to k t); bits = drop 8 (joined_to k t) }

joined_size : (k t : ℕ) → length (joined_to k t) ≡ k + 8
unfolding joined_to
joined_size k t =
    length-append (replicate k false) (low_bits 8 t)
    ∙ omega (arith, length-replicate k false, length-low_bits 8 t)

bits_size : (k t : ℕ) → length (drop 8 (joined_to k t)) ≡ k
bits_size k t = length-drop 8 (joined_to k t) ∙ omega (arith, joined_size k t)

starts : (ends : Ends) (k t : ℕ) → forced_at ends k ≡ false → HasStart ends (take 8 (joined_to k t))
unfolding joined_to
starts Free k t h = tt
starts Zero k t h =
    let long : 8 ≤ k = grind (arith, nat_tests, h) in
    let size = length-replicate k false in
    take-append-le 8 (replicate k false) (low_bits 8 t) (omega (arith, size, long))
    ∙ take-replicate 8 k false long

tail_of : (k t : ℕ) → drop k (joined_to k t) ≡ low_bits 8 t
unfolding joined_to
tail_of k t = drop_at (replicate k false) (low_bits 8 t) k (length-replicate k false)

codeword_into : (ends : Ends) (k t : ℕ) → forced_at ends k ≡ false → Into ends k (low_bits 8 t) (codeword_to k t)
unfolding codeword_to
codeword_into ends k t h = record {
  start_long = length-take-le 8 (joined_to k t) (omega (arith, joined_size k t));
  bits_long = bits_size k t;
  begins = starts ends k t h;
  reached = ap (λ (n : ℕ). drop n (take 8 (joined_to k t) ++ drop 8 (joined_to k t))) (bits_size k t)
      ∙ ap (drop k) (take-append-drop 8 (joined_to k t))
      ∙ tail_of k t;
}

-- before eight bits from zeros, a state's oldest bit is 0
oldest_zero : (k t : ℕ) (w : Codeword) → k < 8 → Into Zero k (low_bits 8 t) w → nat_eq (t % 2) 1 ≡ false
oldest_zero k t w few h =
    let size : length w.start ≡ 8 = h.start_long in
    let first : get_or (low_bits 8 t) 0 false ≡ nat_eq (t % 2) 1 =
    ap (λ (r : List Bool). get_or r 0 false) (low_bits-more 7 t) in
    sym first
    ∙ ap (λ (r : List Bool). get_or r 0 false) (sym h.reached)
    ∙ get_or-drop (length w.bits) (w.start ++ w.bits) 0 false
    ∙ ap (λ (i : ℕ). get_or (w.start ++ w.bits) i false) (omega (arith, h.bits_long))
    ∙ get_or_append_left w.start w.bits false k (omega (arith, few, size))
    ∙ ap (λ (r : List Bool). get_or r k false) h.begins
    ∙ get_or-replicate 8 k false false few

odd_is : (t : ℕ) → nat_eq ((2 * t + 1) % 2) 1 ≡ true
odd_is t = let one : (2 * t + 1) % 2 ≡ 1 = omega arith in ap (λ (n : ℕ). nat_eq n 1) one

differ : (b : Bool) → b ≡ true → ¬ (b ≡ false)
differ true p q = grind (arith, q)
differ false p q = grind (arith, p)

alive_of : (softs : List ℤ) (ends : Ends) (k t : ℕ) (forced : Bool) (o0 o1 : Option Survivor) →
    forced_at ends k ≡ forced → IsBestOf softs (Into ends k (low_bits 8 (2 * t + 0))) o0 →
    IsBestOf softs (Into ends k (low_bits 8 (2 * t + 1))) o1 → Alive forced o0 o1
alive_of softs ends k t false None o1 f h0 h1 = h0 (codeword_to k (2 * t + 0)) (codeword_into ends k (2 * t + 0) f)
alive_of softs ends k t false (Some s) None f h0 h1 =
    h1 (codeword_to k (2 * t + 1)) (codeword_into ends k (2 * t + 1) f)
alive_of softs ends k t false (Some s) (Some s') f h0 h1 = tt
alive_of softs ends k t true o0 None f h0 h1 = tt
alive_of softs Free k t true o0 (Some s) f h0 h1 = differ true refl (sym f)
alive_of softs Zero k t true o0 (Some s) f h0 h1 =
    let few : k < 8 = grind (arith, nat_tests, f) in
    differ _ (odd_is t) (oldest_zero k (2 * t + 1) (spelled_codeword s.codeword) few h1.kind)

pub alive : (softs : List ℤ) (ends : Ends) (k : ℕ) (column : List (Option Survivor)) →
    Survive softs ends k column → (t : ℕ) → Alive (forced_at ends k) (get_or column (2 * (t % 128) + 0) None)
    (get_or column (2 * (t % 128) + 1) None)
alive softs ends k column survive t =
    alive_of softs ends k (t % 128) (forced_at ends k) _ _ refl
    (survive (2 * (t % 128) + 0) (omega arith)) (survive (2 * (t % 128) + 1) (omega arith))

-- where no state is closed, each has a survivor
pub has_survivor : (softs : List ℤ) (ends : Ends) (k t : ℕ) → forced_at ends k ≡ false →
    ¬ (IsBestOf softs (Into ends k (low_bits 8 t)) None)
has_survivor softs ends k t f h = h (codeword_to k t) (codeword_into ends k t f)
