-- The pilots of a worker, one by one, and those of two workers.
use Rattle.pilot_survey.proofs.Common.{◌≡◌, ℕ, zero, suc, ◌+◌, ◌<◌, List, ◌∷◌, ◌++◌, length, get_or, map, take, refl, ap, ap₂, ◌∙◌, sym}
use Rattle.pilot_survey.proofs.Common.{arith, range_with_len, same_lists, take_at, survey_start}
use Rattle.std.proofs.lemmas.List.FromFn.{length-map-range_with_len, get_or-map-range_with_len}
use Rattle.std.proofs.Math.Nat.{div-le_self, mul-div_cancel}

-- a list is the one that a function makes, by its entries
pub filled : {X : Type 0} (f : ℕ → X) (first n : ℕ) (xs : List X) → length xs ≡ n →
    ((k : ℕ) (d : X) → k < n → get_or xs k d ≡ f (first + k)) → xs ≡ map f (range_with_len first n)
filled f first n xs long each =
    same_lists xs (map f (range_with_len first n)) (long ∙ sym (length-map-range_with_len f first n))
    (λ k d lt.
    let below : k < n = omega (arith, long, lt) in
    each k d below ∙ sym (get_or-map-range_with_len f first n k (first + k) d below refl))

-- two lists of neighbouring numbers
pub joined : {X : Type 0} (f : ℕ → X) (first m n middle : ℕ) → first + m ≡ middle →
    map f (range_with_len first m) ++ map f (range_with_len middle n) ≡ map f (range_with_len first (m + n))
joined f first zero n middle e =
    let same : middle ≡ first = omega (arith, e) in
    let none : 0 + n ≡ n = omega arith in
    rw (same, none) refl
joined f first (suc m) n middle e =
    let more : suc m + n ≡ suc (m + n) = omega arith in
    rw more (ap (λ (xs : List _). f first ∷ xs) (joined f (first + 1) m n middle (omega (arith, e))))

-- what two workers wrote
pub both : {X : Type 0} (f : ℕ → X) (first m n middle k : ℕ) (left right : List X) →
    left ≡ map f (range_with_len first m) → right ≡ map f (range_with_len middle n) →
    first + m ≡ middle → m + n ≡ k → left ++ right ≡ map f (range_with_len first k)
both f first m n middle k left right low high cut whole =
    ap₂ ◌++◌ low high ∙ joined f first m n middle cut ∙
    ap (λ (i : ℕ). map f (range_with_len first i)) whole

pub start_end : (workers : ℕ) → 0 < workers → survey_start workers workers ≡ 512
start_end workers some = mul-div_cancel 512 some

pub start_none : (workers : ℕ) → survey_start 0 workers ≡ 0
start_none workers = let l = div-le_self 0 workers in omega arith

-- what all workers wrote, in the room for it
pub all_written : {X : Type 0} (f : ℕ → X) (workers n room : ℕ) (ranks others : List X) →
    0 < workers → n ≡ 512 → room ≡ 512 → ranks ≡ map f (range_with_len (survey_start 0 workers) n) →
    take room (ranks ++ others) ≡ map f (range_with_len 0 512)
all_written f workers n room ranks others some long all is =
    let whole : ranks ≡ map f (range_with_len 0 512) =
    is ∙ ap (λ (first : ℕ). map f (range_with_len first n)) (start_none workers) ∙
    ap (λ (k : ℕ). map f (range_with_len 0 k)) long in
    let count = length-map-range_with_len f 0 512 in
    take_at ranks others room (ap length whole ∙ count ∙ sym all) ∙ whole
