-- A merge, one element after another.
use Rattle.list_viterbi.proofs.Common.{◌≡◌, ℕ, zero, suc, ◌+◌, ◌<◌, ◌≤◌, true, false, List, [], ◌∷◌, ◌++◌, length, map, take, drop, refl, ℤ}
use Rattle.list_viterbi.proofs.Common.{sym, ap, ◌∙◌, arith, Some, append_assoc, append-nil, int_lt, slice_get, drop_more, drop_all, merge}
use Rattle.list_viterbi.proofs.Common.{take_more, map-append, get_or_from_slice_get, second_is_next, left_at, true≢false}

pub second_over : {A : Type 0} (f : A → ℤ) (xs ys : List A) (i j : ℕ) → length ys ≤ j →
    second_is_next f (drop i xs) (drop j ys) ≡ false
second_over f xs ys i j over = ap (second_is_next f (drop i xs)) (drop_all j ys over)

pub second_only : {A : Type 0} (f : A → ℤ) (xs ys : List A) (i j : ℕ) → length xs ≤ i →
    j < length ys → second_is_next f (drop i xs) (drop j ys) ≡ true
second_only f xs [] i j over within = absurd (omega (arith, within))
second_only {A} f xs (y ∷ ys) i j over within =
    ap (λ (r : List A). second_is_next f r (drop j (y ∷ ys))) (drop_all i xs over)
    ∙ ap (second_is_next f []) (drop_more (y ∷ ys) j y within)

pub second_by_score : {A : Type 0} (f : A → ℤ) (xs ys : List A) (i j : ℕ) (x y : A) →
    i < length xs → j < length ys → slice_get xs i ≡ Some x → slice_get ys j ≡ Some y →
    second_is_next f (drop i xs) (drop j ys) ≡ int_lt (f x) (f y)
second_by_score {A} f xs ys i j x y within within' read read' =
    ap (λ (r : List A). second_is_next f r (drop j ys)) (left_at xs i x within read)
    ∙ ap (second_is_next f (x ∷ drop (i + 1) xs)) (left_at ys j y within' read')

pub second_has : {A : Type 0} (f : A → ℤ) (xs ys : List A) (i j : ℕ) → j ≤ length ys →
    second_is_next f (drop i xs) (drop j ys) ≡ true → j < length ys
second_has f xs ys i j most next = by_length (length ys) refl where
  by_length : (n : ℕ) → length ys ≡ n → j < length ys
  by_length n e = grind (arith, second_over f xs ys i j, most, next)

head_second : {A : Type 0} (f : A → ℤ) (k : ℕ) (xs : List A) (y : A) (ys : List A) →
    second_is_next f xs (y ∷ ys) ≡ true → merge f (suc k) xs (y ∷ ys) ≡ y ∷ merge f k xs ys
unfolding merge
head_second f k [] y ys next = refl
head_second f k (x ∷ xs) y ys next = rw next refl

head_first : {A : Type 0} (f : A → ℤ) (k : ℕ) (x : A) (xs ys : List A) → second_is_next f (x ∷ xs) ys ≡ false →
    merge f (suc k) (x ∷ xs) ys ≡ x ∷ merge f k xs ys
unfolding merge
head_first f k x xs [] next = refl
head_first f k x xs (y ∷ ys) next = rw next refl

head_none : {A : Type 0} (f : A → ℤ) (k : ℕ) (ys : List A) → second_is_next f [] ys ≡ false → merge f k [] ys ≡ []
unfolding merge
head_none f zero ys next = refl
head_none f (suc k) [] next = refl
head_none f (suc k) (y ∷ ys) next = absurd (true≢false next)

-- ONE MORE OF THE MERGE
-- what was taken and what is left is the whole merge
abbrev pub IsPart : {A : Type 0} → (A → ℤ) → ℕ → List A → List A → ℕ → ℕ → ℕ → List A → Type 0
IsPart f k xs ys i j n taken = (m : ℕ) → n + m ≡ k → taken ++ merge f m (drop i xs) (drop j ys) ≡ merge f k xs ys

one_more : {A : Type 0} (taken : List A) (e : A) (rest whole left : List A) →
    taken ++ whole ≡ left → whole ≡ e ∷ rest → (taken ++ e ∷ []) ++ rest ≡ left
one_more {A} taken e rest whole left h is =
    append_assoc taken (e ∷ []) rest ∙ ap (λ (r : List A). taken ++ r) (sym is) ∙ h

pub took_second : {A : Type 0} (f : A → ℤ) (k i j n : ℕ) (xs ys taken : List A) (y : A) →
    j < length ys → slice_get ys j ≡ Some y → second_is_next f (drop i xs) (drop j ys) ≡ true →
    IsPart f k xs ys i j n taken → IsPart f k xs ys i (j + 1) (n + 1) (taken ++ y ∷ [])
took_second f k i j n xs ys taken y within read next h = λ m e.
    let left = left_at ys j y within read in
    let next' : second_is_next f (drop i xs) (y ∷ drop (j + 1) ys) ≡ true =
    ap (second_is_next f (drop i xs)) (sym left) ∙ next in
    one_more taken y (merge f m (drop i xs) (drop (j + 1) ys))
    (merge f (suc m) (drop i xs) (drop j ys)) (merge f k xs ys) (h (suc m) (omega (arith, e)))
    (ap (merge f (suc m) (drop i xs)) left
    ∙ head_second f m (drop i xs) y (drop (j + 1) ys) next')

pub took_first : {A : Type 0} (f : A → ℤ) (k i j n : ℕ) (xs ys taken : List A) (x : A) →
    i < length xs → slice_get xs i ≡ Some x → second_is_next f (drop i xs) (drop j ys) ≡ false →
    IsPart f k xs ys i j n taken → IsPart f k xs ys (i + 1) j (n + 1) (taken ++ x ∷ [])
took_first {A} f k i j n xs ys taken x within read next h = λ m e.
    let left = left_at xs i x within read in
    let next' : second_is_next f (x ∷ drop (i + 1) xs) (drop j ys) ≡ false =
    ap (λ (r : List A). second_is_next f r (drop j ys)) (sym left) ∙ next in
    one_more taken x (merge f m (drop (i + 1) xs) (drop j ys))
    (merge f (suc m) (drop i xs) (drop j ys)) (merge f k xs ys) (h (suc m) (omega (arith, e)))
    (ap (λ (r : List A). merge f (suc m) r (drop j ys)) left
    ∙ head_first f m x (drop (i + 1) xs) (drop j ys) next')

pub took_none : {A : Type 0} (f : A → ℤ) (k i j n : ℕ) (xs ys taken : List A) → length xs ≤ i →
    second_is_next f (drop i xs) (drop j ys) ≡ false → IsPart f k xs ys i j n taken → IsPart f k xs ys i j (n + 1) taken
took_none {A} f k i j n xs ys taken over next h = λ m e.
    let none : drop i xs ≡ [] = drop_all i xs over in
    let next' : second_is_next f [] (drop j ys) ≡ false =
    ap (λ (r : List A). second_is_next f r (drop j ys)) (sym none) ∙ next in
    let empty : (p : ℕ) → merge f p (drop i xs) (drop j ys) ≡ [] =
    λ p. ap (λ (r : List A). merge f p r (drop j ys)) none
    ∙ head_none f p (drop j ys) next' in
    ap (λ (r : List A). taken ++ r) (empty m ∙ sym (empty (suc m)))
    ∙ h (suc m) (omega (arith, e))

-- nothing is left once k were taken
pub all_taken : {A : Type 0} (f : A → ℤ) (k i j n : ℕ) (xs ys taken : List A) → n ≡ k →
    IsPart f k xs ys i j n taken → taken ≡ merge f k xs ys
unfolding merge
all_taken f k i j n xs ys taken all h = sym (append-nil taken) ∙ h 0 (omega (arith, all))

pub map_more : {A B : Type 0} (f : A → B) (xs : List A) (longer : List B) (i : ℕ) (x : A) →
    i < length xs → slice_get xs i ≡ Some x → longer ≡ map f (take i xs) → longer ++ f x ∷ [] ≡ map f (take (i + 1) xs)
map_more {A} {B} f xs longer i x within read is =
    ap (λ (r : List B). r ++ f x ∷ []) is
    ∙ sym (map-append f (take i xs) (x ∷ []))
    ∙ ap (λ (y : A). map f (take i xs ++ y ∷ [])) (sym (get_or_from_slice_get xs i x x read))
    ∙ ap (map f) (sym (take_more xs i x within))
