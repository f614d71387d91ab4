-- Two lists of one length whose elements stand in a relation, place by place.
use Rattle.viterbi.proofs.Common.{◌≡◌, ℕ, zero, suc, ◌<◌, List, [], ◌∷◌, ◌++◌, length, get_or, arith, AllZip}

pub zipped_by_place : {A B : Type 0} (R : A → B → Type 0) (xs : List A) (ys : List B) (a : A) (b : B) →
    length xs ≡ length ys → ((i : ℕ) → i < length xs → R (get_or xs i a) (get_or ys i b)) → AllZip R xs ys
zipped_by_place R [] [] a b long each = tt
zipped_by_place R [] (y ∷ ys) a b long each = absurd (omega (arith, long))
zipped_by_place R (x ∷ xs) [] a b long each = absurd (omega (arith, long))
zipped_by_place R (x ∷ xs) (y ∷ ys) a b long each = (
  each 0 (omega arith),
  zipped_by_place R xs ys a b (omega (arith, long)) (λ i lt. each (suc i) (omega (arith, lt))),
)

pub zipped_at : {A B : Type 0} (R : A → B → Type 0) (xs : List A) (ys : List B) (i : ℕ) (a : A) (b : B) →
    AllZip R xs ys → i < length xs → R (get_or xs i a) (get_or ys i b)
zipped_at R [] ys i a b all lt = absurd (omega (arith, lt))
zipped_at R (x ∷ xs) [] i a b all lt = absurd all
zipped_at R (x ∷ xs) (y ∷ ys) zero a b all lt = all.0
zipped_at R (x ∷ xs) (y ∷ ys) (suc i) a b all lt = zipped_at R xs ys i a b all.1 (omega (arith, lt))

pub zipped_weaker : {A B : Type 0} (R Q : A → B → Type 0) (xs : List A) (ys : List B) →
    ((x : A) (y : B) → R x y → Q x y) → AllZip R xs ys → AllZip Q xs ys
zipped_weaker R Q [] [] weaker all = tt
zipped_weaker R Q [] (y ∷ ys) weaker all = absurd all
zipped_weaker R Q (x ∷ xs) [] weaker all = absurd all
zipped_weaker R Q (x ∷ xs) (y ∷ ys) weaker all = (weaker x y all.0, zipped_weaker R Q xs ys weaker all.1)

pub zipped_append : {A B : Type 0} (R : A → B → Type 0) (xs us : List A) (ys vs : List B) →
    AllZip R xs ys → AllZip R us vs → AllZip R (xs ++ us) (ys ++ vs)
zipped_append R [] us [] vs all more = more
zipped_append R [] us (y ∷ ys) vs all more = absurd all
zipped_append R (x ∷ xs) us [] vs all more = absurd all
zipped_append R (x ∷ xs) us (y ∷ ys) vs all more = (all.0, zipped_append R xs us ys vs all.1 more)
