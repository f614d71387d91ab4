-- The sums of the soft values of power control bits.
use Rattle.frame_decoder.proofs.Common.{◌≡◌, ℕ, ◌+◌, ◌*◌, ◌^◌, ◌<◌, ◌≤◌, ◌≢◌, List, length, get_or, set, ap, ◌∙◌, arith, ℤ, pos, ◌+ℤ◌, All}
use Rattle.frame_decoder.proofs.Common.{below_more, sum_by, unsigned_abs, IsStrictlyIncreasing, get_or-set_same, get_or-set_other}
use Rattle.frame_decoder.proofs.Common.{length-set, sum_by-set, get_or-le-sum_by, group_sum}

-- a list is made place by place
pub set_more : {A : Type 0} (f : ℕ → A) (xs : List A) (n : ℕ) (v d : A) → n < length xs →
    v ≡ f n → ((k : ℕ) → k < n → get_or xs k d ≡ f k) → (k : ℕ) → k < n + 1 → get_or (set xs n v) k d ≡ f k
set_more f xs n v d within is each =
    below_more (λ k. get_or (set xs n v) k d ≡ f k) n
    (λ k lt. let other : k ≢ n = omega (arith, lt) in
    get_or-set_other xs n k v d other ∙ each k lt)
    (get_or-set_same xs n v d within ∙ is)

-- The sizes of two soft values at different places add up to at most 2^62: with the first one set
-- to 0, the sum of all sizes is less by its size and still has the second one as a part.
two_small : (xs : List ℤ) (p q : ℕ) → p < q → q < length xs → sum_by unsigned_abs xs ≤ 2 ^ 62 →
    unsigned_abs (get_or xs p (pos 0)) + unsigned_abs (get_or xs q (pos 0)) ≤ 2 ^ 62
two_small xs p q less within bound =
    let ys = set xs p (pos 0) in
    let first : p < length xs = omega (arith, less, within) in
    let other : q ≢ p = omega (arith, less) in
    let there : q < length ys = omega (arith, within, length-set xs p (pos 0)) in
    let same = ap unsigned_abs (get_or-set_other xs p q (pos 0) (pos 0) other) in
    omega (
      arith,
      bound,
      sum_by-set unsigned_abs xs p (pos 0) (pos 0) first,
      get_or-le-sum_by unsigned_abs ys q (pos 0) there,
      same,
    )

-- the two of a power control bit
pub pair_small : (replaced : List ℕ) (softs : List ℤ) (g first second : ℕ) →
    first ≡ get_or replaced (2 * g) 0 → second ≡ get_or replaced (2 * g + 1) 0 →
    g < 16 → length replaced ≡ 32 → length softs ≡ 384 →
    All (λ place. place < 384) replaced → IsStrictlyIncreasing replaced → sum_by unsigned_abs softs ≤ 2 ^ 62 →
    unsigned_abs (get_or softs first (pos 0)) + unsigned_abs (get_or softs second (pos 0)) ≤ 2 ^ 62
pair_small replaced softs g first second a b low many long below rising bound =
    let next : 2 * g + 1 < length replaced = omega (arith, low, many) in
    let rises = rising (2 * g) next in
    let last = below (2 * g + 1) 0 next in
    two_small softs first second (omega (arith, a, b, rises)) (omega (arith, b, last, long)) bound

pub pair_is : (replaced : List ℕ) (softs : List ℤ) (g first second : ℕ) →
    first ≡ get_or replaced (2 * g) 0 → second ≡ get_or replaced (2 * g + 1) 0 →
    get_or softs first (pos 0) +ℤ get_or softs second (pos 0) ≡ group_sum replaced softs g
pair_is replaced softs g first second a b =
    ap (λ (p : ℕ). get_or softs p (pos 0) +ℤ get_or softs second (pos 0)) a
    ∙ ap (λ (q : ℕ). get_or softs (get_or replaced (2 * g) 0) (pos 0) +ℤ get_or softs q (pos 0)) b
