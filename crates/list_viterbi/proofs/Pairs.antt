-- Lists that agree element by element, and their merges.
use Rattle.list_viterbi.proofs.Common.{◌≡◌, ℕ, zero, suc, ◌≤◌, Bool, true, false, List, [], ◌∷◌, length, ap, subst, ◌∙◌, arith, ℤ, int_lt}
use Rattle.list_viterbi.proofs.Common.{if◌then◌else◌, merge}

abbrev pub Pairs : {A B : Type 0} → (A → B → Type 0) → List A → List B → Type 0
Pairs R [] [] = Unit {0}
Pairs R [] (v ∷ vs) = ⊥
Pairs R (x ∷ xs) [] = ⊥
Pairs R (x ∷ xs) (v ∷ vs) = R x v × Pairs R xs vs

chosen : {A B : Type 0} (R : A → B → Type 0) (t : Bool) (x y : A) (u v : B) (xs ys : List A)
    (us vs : List B) → R x u → R y v → Pairs R xs us → Pairs R ys vs →
    Pairs R (if t then y ∷ ys else x ∷ xs) (if t then v ∷ vs else u ∷ us)
chosen R true x y u v xs ys us vs p q ps qs = (q, qs)
chosen R false x y u v xs ys us vs p q ps qs = (p, ps)

-- Where paired things have the same score, merges of lists that are paired place by place are paired
-- too: by induction over how many are merged, since equal scores decide each step the same way.
pub merge_pairs : {A B : Type 0} (R : A → B → Type 0) (f : A → ℤ) (g : B → ℤ) →
    ((x : A) (u : B) → R x u → f x ≡ g u) → (k : ℕ) (xs ys : List A) (us vs : List B) →
    Pairs R xs us → Pairs R ys vs → Pairs R (merge f k xs ys) (merge g k us vs)
unfolding merge
merge_pairs R f g same zero xs ys us vs p q = tt
merge_pairs R f g same (suc k) [] ys (u ∷ us) vs p q = absurd p
merge_pairs R f g same (suc k) (x ∷ xs) ys [] vs p q = absurd p
merge_pairs R f g same (suc k) [] [] [] [] p q = tt
merge_pairs R f g same (suc k) [] [] [] (v ∷ vs) p q = absurd q
merge_pairs R f g same (suc k) [] (y ∷ ys) [] [] p q = absurd q
merge_pairs R f g same (suc k) [] (y ∷ ys) [] (v ∷ vs) p q = (q.0, merge_pairs R f g same k [] ys [] vs p q.1)
merge_pairs R f g same (suc k) (x ∷ xs) [] (u ∷ us) [] p q = (p.0, merge_pairs R f g same k xs [] us [] p.1 q)
merge_pairs R f g same (suc k) (x ∷ xs) [] (u ∷ us) (v ∷ vs) p q = absurd q
merge_pairs R f g same (suc k) (x ∷ xs) (y ∷ ys) (u ∷ us) [] p q = absurd q
merge_pairs {A} {B} R f g same (suc k) (x ∷ xs) (y ∷ ys) (u ∷ us) (v ∷ vs) p q =
    let left : List A = merge f k xs (y ∷ ys) in
    let right : List A = merge f k (x ∷ xs) ys in
    let left' : List B = merge g k us (v ∷ vs) in
    let right' : List B = merge g k (u ∷ us) vs in
    let tests : int_lt (f x) (f y) ≡ int_lt (g u) (g v) =
    ap (λ (z : ℤ). int_lt z (f y)) (same x u p.0) ∙ ap (int_lt (g u)) (same y v q.0) in
    subst
    (λ (t : Bool). Pairs R (if int_lt (f x) (f y) then y ∷ right else x ∷ left) (if t then v ∷ right' else u ∷ left'))
    tests
    (chosen R (int_lt (f x) (f y)) x y u v left right left' right' p.0 q.0
    (merge_pairs R f g same k xs (y ∷ ys) us (v ∷ vs) p.1 q) (merge_pairs R f g same k (x ∷ xs) ys (u ∷ us) vs p q.1))

shorter : {A : Type 0} (t : Bool) (k : ℕ) (x y : A) (xs ys : List A) → length xs ≤ k →
    length ys ≤ k → length (if t then y ∷ ys else x ∷ xs) ≤ suc k
shorter true k x y xs ys p q = omega (arith, q)
shorter false k x y xs ys p q = omega (arith, p)

-- a merge is no longer than it is to be
pub merge_most : {A : Type 0} (f : A → ℤ) (k : ℕ) (xs ys : List A) → length (merge f k xs ys) ≤ k
unfolding merge
merge_most f zero xs ys = omega arith
merge_most f (suc k) [] [] = omega arith
merge_most f (suc k) [] (y ∷ ys) = let rest = merge_most f k [] ys in omega (arith, rest)
merge_most f (suc k) (x ∷ xs) [] = let rest = merge_most f k xs [] in omega (arith, rest)
merge_most f (suc k) (x ∷ xs) (y ∷ ys) =
    shorter (int_lt (f x) (f y)) k x y (merge f k xs (y ∷ ys)) (merge f k (x ∷ xs) ys)
    (merge_most f k xs (y ∷ ys)) (merge_most f k (x ∷ xs) ys)
