-- Choices with one more.
use Rattle.list_viterbi.proofs.Common.{◌≡◌, ℕ, zero, suc, ◌+◌, ◌-◌, ◌*◌, ◌%◌, ◌^◌, ◌<◌, ◌≤◌, Bool, true, false, List, [], ◌∷◌, ◌++◌, length}
use Rattle.list_viterbi.proofs.Common.{refl, sym, ap, subst, ◌∙◌, arith, ℤ, length-append, nat_eq, if◌then◌else◌, mod-mul-add, div-mul-add}
use Rattle.list_viterbi.proofs.Common.{pow_mono, two-pow-succ, bit_of, digit, low_bit, Pick, ones_below, pointer_of, HasChoices}

-- THE NEW BIT
low_same : (c m r : ℕ) (b : Bool) → c < 2 ^ m → r < m → bit_of (digit b * 2 ^ m + c) r ≡ bit_of c r
low_same c m r b small lt =
    sym (low_bit (digit b * 2 ^ m + c) m r lt)
    ∙ ap (λ (n : ℕ). bit_of n r) (mod-mul-add (digit b) (2 ^ m) c small)

of_digit : (b : Bool) → nat_eq (digit b % 2) 1 ≡ b
of_digit true = refl
of_digit false = refl

top_bit : (c m : ℕ) (b : Bool) → c < 2 ^ m → bit_of (digit b * 2 ^ m + c) m ≡ b
top_bit c m b small = ap (λ (n : ℕ). nat_eq (n % 2) 1) (div-mul-add (digit b) (2 ^ m) c small) ∙ of_digit b

pub grown : (c m : ℕ) (b : Bool) → c < 2 ^ m → digit b * 2 ^ m + c < 2 ^ (m + 1)
grown c m true small =
    let double : 2 ^ (m + 1) ≡ 2 ^ m + 2 ^ m = ap (λ (n : ℕ). 2 ^ n) (omega arith) ∙ two-pow-succ m in
    omega (arith, double, small)
grown c m false small =
    let double : 2 ^ (m + 1) ≡ 2 ^ m + 2 ^ m = ap (λ (n : ℕ). 2 ^ n) (omega arith) ∙ two-pow-succ m in
    omega (arith, double, small)

-- 16 choices are a number of 16 bits
pub weight_most : (m : ℕ) → m ≤ 16 → 2 ^ m ≤ 65536
weight_most m few = pow_mono few

-- WHERE WORDS COME FROM
ones_same : (c d n : ℕ) → ((r : ℕ) → r < n → bit_of d r ≡ bit_of c r) → ones_below d n ≡ ones_below c n
unfolding ones_below
ones_same c d zero same = refl
ones_same c d (suc n) same =
    ap (λ (k : ℕ). k + digit (bit_of d n)) (ones_same c d n (λ r b. same r (omega (arith, b))))
    ∙ ap (λ (b : Bool). ones_below c n + digit b) (same n (omega arith))

pointer_same : (c d n : ℕ) → ((r : ℕ) → r < n + 1 → bit_of d r ≡ bit_of c r) → pointer_of d n ≡ pointer_of c n
pointer_same c d n same =
    ap (λ (k : ℕ). if bit_of d n then 2 * k + 1 else 2 * (n - k)) (ones_same c d n (λ r b. same r (omega (arith, b))))
    ∙ ap (λ (b : Bool). if b then 2 * ones_below c n + 1 else 2 * (n - ones_below c n)) (same n (omega arith))

choices_push : (c d place : ℕ) (ps : List Pick) (p : Pick) →
    ((r : ℕ) → r < place + length ps → bit_of d r ≡ bit_of c r) →
    pointer_of d (place + length ps) ≡ p.back → HasChoices c place ps → HasChoices d place (ps ++ p ∷ [])
choices_push c d place [] p same last h = (ap (pointer_of d) (omega arith) ∙ last, tt)
choices_push c d place (q ∷ ps) p same last h = (
  pointer_same c d place (λ r b. same r (omega (arith, b))) ∙ h.0,
  choices_push c d (suc place) ps p (λ r b. same r (omega (arith, b)))
      (ap (pointer_of d) (omega arith) ∙ last) h.1,
)

-- the pointer that a new choice gives
abbrev pub pointer_by : Bool → ℕ → ℕ → ℕ
pointer_by b ones place = if b then 2 * ones + 1 else 2 * (place - ones)

-- One choice more is told by one bit more above the choices so far: these keep their bits and so
-- their pointers, and the new one's pointer counts the odd picks before it, or for an even pick the
-- others.
pub chosen_more : (c new m : ℕ) (b : Bool) (ps : List Pick) (p : Pick) → length ps ≡ m →
    c < 2 ^ m → new ≡ digit b * 2 ^ m + c → p.back ≡ pointer_by b (ones_below c m) m →
    HasChoices c 0 ps → HasChoices new 0 (ps ++ p ∷ [])
chosen_more c new m b ps p long small is back h =
    let d = digit b * 2 ^ m + c in
    let place : 0 + length ps ≡ m = omega (arith, long) in
    let same : (r : ℕ) → r < m → bit_of d r ≡ bit_of c r = λ r lt. low_same c m r b small lt in
    let pointer : pointer_of d m ≡ p.back =
    ap (λ (t : Bool). pointer_by t (ones_below d m) m) (top_bit c m b small)
    ∙ ap (λ (k : ℕ). pointer_by b k m) (ones_same c d m same) ∙ sym back in
    subst (λ (n : ℕ). HasChoices n 0 (ps ++ p ∷ [])) (sym is)
    (choices_push c d 0 ps p (λ r lt. same r (omega (arith, lt, place))) (ap (pointer_of d) place ∙ pointer) h)

pub ones_more : (c new m : ℕ) (b : Bool) → c < 2 ^ m → new ≡ digit b * 2 ^ m + c →
    ones_below new (m + 1) ≡ ones_below c m + digit b
unfolding ones_below
ones_more c new m b small is =
    let d = digit b * 2 ^ m + c in
    let next : m + 1 ≡ suc m = omega arith in
    ap (λ (n : ℕ). ones_below n (m + 1)) is ∙ ap (ones_below d) next
    ∙ ap (λ (k : ℕ). k + digit (bit_of d m)) (ones_same c d m (λ r lt. low_same c m r b small lt))
    ∙ ap (λ (t : Bool). ones_below c m + digit t) (top_bit c m b small)

pub ones_none : (c : ℕ) → ones_below c 0 ≡ 0
unfolding ones_below
ones_none c = refl

-- the weight of the next choice
pub weight_next : (weight next : ℕ) (scores : List ℤ) (value : ℤ) → weight ≡ 2 ^ length scores →
    next ≡ weight + weight → next ≡ 2 ^ length (scores ++ value ∷ [])
weight_next weight next scores value power double =
    let longer : length (scores ++ value ∷ []) ≡ suc (length scores) =
    length-append scores (value ∷ []) ∙ omega arith in
    double ∙ ap (λ (w : ℕ). w + w) power ∙ sym (two-pow-succ (length scores))
    ∙ ap (λ (n : ℕ). 2 ^ n) (sym longer)

pub ones_next : (c n ones one : ℕ) (b : Bool) → ones ≡ ones_below c n → b ≡ bit_of c n →
    one ≡ digit b → ones + one ≡ ones_below c (n + 1)
unfolding ones_below
ones_next c n ones one b ones_is b_is one_is =
    let next : n + 1 ≡ suc n = omega arith in
    rw next
    (ap (λ (x : ℕ). x + one) ones_is
    ∙ ap (λ (x : ℕ). ones_below c n + x) (one_is ∙ ap digit b_is))
