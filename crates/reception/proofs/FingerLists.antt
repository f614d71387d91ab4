-- Lists of fingers with one finger more.
use Rattle.reception.proofs.Common.{◌≡◌, ℕ, ◌+◌, ◌<◌, true, List, [], ◌∷◌, ◌++◌, length, take, refl, ap, ◌∙◌, ℤ, nat_lt, get_or, lt-ltb}
use Rattle.reception.proofs.Common.{take_more, map-append, list_all-append, list_any-append, Finger, is_near, all_near, has_reference}
use Rattle.reception.proofs.Common.{have_rows, finger_of, fingers_of}

pub near_more : (fingers : List Finger) (f : Finger) → all_near fingers ≡ true →
    is_near f.delta ≡ true → all_near (fingers ++ f ∷ []) ≡ true
near_more fingers f h near = list_all-append _ fingers (f ∷ []) ∙ rw (h, near) refl

pub reference_more : (fingers : List Finger) (f : Finger) → has_reference fingers ≡ true →
    has_reference (fingers ++ f ∷ []) ≡ true
reference_more fingers f h = list_any-append _ fingers (f ∷ []) ∙ rw h refl

pub fingers_more : (row phase : ℕ) (deltas : List ℤ) (i : ℕ) (d : ℤ) → i < length deltas →
    fingers_of row phase (take (i + 1) deltas)
    ≡ fingers_of row phase (take i deltas) ++ finger_of row phase (get_or deltas i d) ∷ []
fingers_more row phase deltas i d within =
    ap (fingers_of row phase) (take_more deltas i d within)
    ∙ map-append (finger_of row phase) (take i deltas) (get_or deltas i d ∷ [])

pub rows_more : (fingers : List Finger) (f : Finger) → have_rows fingers ≡ true → f.row < 64 →
    have_rows (fingers ++ f ∷ []) ≡ true
rows_more fingers f h row =
    let here : nat_lt f.row 64 ≡ true = lt-ltb f.row 64 row in
    list_all-append _ fingers (f ∷ []) ∙ rw (h, here) refl
