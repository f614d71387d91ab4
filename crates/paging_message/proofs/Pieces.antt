-- Pieces that follow one another, and those of the message that the last of them belongs to.
use Rattle.paging_message.proofs.Common.{◌≡◌, ℕ, zero, suc, ◌+◌, ◌<◌, false, List, [], ◌∷◌, ◌++◌, length, map, refl, ap, arith, places}
use Rattle.paging_message.proofs.Common.{Piece, from_last_start, true, lt-ltb, range_with_len}

-- n pieces, numbered from `first` on
abbrev pub run : (ℕ → Piece) → ℕ → ℕ → List Piece
run f at zero = []
run f at (suc n) = f at ∷ run f (at + 1) n

pub length-run : (f : ℕ → Piece) (at n : ℕ) → length (run f at n) ≡ n
length-run f at zero = refl
length-run f at (suc n) = ap suc (length-run f (at + 1) n)

pub run-push : (f : ℕ → Piece) (at n : ℕ) → run f at n ++ f (at + n) ∷ [] ≡ run f at (suc n)
run-push f at zero = let e : at + 0 ≡ at = omega arith in rw e refl
run-push f at (suc n) =
    let e : at + suc n ≡ at + 1 + n = omega arith in
    rw e (ap (λ (r : List Piece). f at ∷ r) (run-push f (at + 1) n))

run-range : (f : ℕ → Piece) (at n : ℕ) → map f (range_with_len at n) ≡ run f at n
run-range f at zero = refl
run-range f at (suc n) = ap (λ (r : List Piece). f at ∷ r) (run-range f (at + 1) n)

pub run-places : (f : ℕ → Piece) (n : ℕ) → map f (places n) ≡ run f 0 n
unfolding places
run-places f n = run-range f 0 n

-- A run of a + b pieces is a run of a and then one of b from there on, by induction over a: only
-- the sums of the places have to be regrouped.
pub run-append : (f : ℕ → Piece) (at a b : ℕ) → run f at (a + b) ≡ run f at a ++ run f (at + a) b
run-append f at zero b = let e : at + 0 ≡ at = omega arith in let g : 0 + b ≡ b = omega arith in
    rw (e, g) refl
run-append f at (suc a) b =
    let e : at + suc a ≡ at + 1 + a = omega arith in
    let g : suc a + b ≡ suc (a + b) = omega arith in
    rw (e, g) (ap (λ (r : List Piece). f at ∷ r) (run-append f (at + 1) a b))

-- where none starts a message
pub none_starts : (f : ℕ → Piece) (at n : ℕ) → ((i : ℕ) → i < n → (f (at + i)).starts ≡ false) →
    from_last_start (run f at n) ≡ []
none_starts f at zero none = refl
none_starts f at (suc n) none =
    let e : at + 0 ≡ at = omega arith in
    let here : (f at).starts ≡ false = rw e at (none 0 (omega arith)) in
    let rest = none_starts f (at + 1) n (λ i lt. let g : at + suc i ≡ at + 1 + i = omega arith in
    rw g at (none (suc i) (omega (arith, lt)))) in
    rw (rest, here) refl

-- where the first starts one, and no later one
pub first_starts : (f : ℕ → Piece) (at n : ℕ) → (f at).starts ≡ true →
    ((i : ℕ) → 0 < i → i < suc n → (f (at + i)).starts ≡ false) → from_last_start (run f at (suc n)) ≡ run f at (suc n)
first_starts f at n here none =
    let rest = none_starts f (at + 1) n (λ i lt. let g : at + suc i ≡ at + 1 + i = omega arith in
    rw g at (none (suc i) (omega arith) (omega (arith, lt)))) in
    rw (rest, here) refl

-- pieces in front of a message change nothing
pub started_after : (xs l : List Piece) → from_last_start l ≡ l → 0 < length l → from_last_start (xs ++ l) ≡ l
started_after [] l e some = e
started_after (p ∷ xs) l e some =
    let rest = started_after xs l e some in
    let t = lt-ltb 0 (length l) some in
    rw (rest, t) refl
