-- Fields read back: a key, and after it a value that ends at a space or with the text.
use Rattle.cell_script.proofs.Common.{◌≡◌, ℕ, ◌==◌, true, List, [], ◌∷◌, ◌++◌, length, refl, ap, ◌∙◌, arith, take, drop, Option, nat_eq}
use Rattle.cell_script.proofs.Common.{append-nil, pointwise, drop-append_seam, take-append_seam, and_from, cond-true, eq-eqb, script_field}
use Rattle.cell_script.proofs.Common.{append_assoc, keyed, Some, subst, sym, past, value_of, begins_with, length_before, before-mark}
use Rattle.cell_script.proofs.Common.{before-none}
use Rattle.cell_script.proofs.SpelledBytes.{are_within, before_low_mark}

same_bytes : (xs : List ℕ) → pointwise nat_eq xs xs ≡ true
same_bytes [] = refl
same_bytes (x ∷ xs) = and_from (x == x) (pointwise nat_eq xs xs) (eq-eqb x x refl) (same_bytes xs)

-- a text begins with its front
pub begins-front : (front rest : List ℕ) → begins_with (front ++ rest) front ≡ true
begins-front front rest =
    ap (λ (t : List ℕ). pointwise nat_eq t front) (take-append_seam front rest)
    ∙ same_bytes front

-- a value that ends where the rest begins
abbrev pub IsFenced : List ℕ → List ℕ → Type 0
IsFenced value rest = length_before 32 (value ++ rest) ≡ length value

-- where the rest begins with a space, or is empty
fenced : (value rest : List ℕ) → are_within 33 126 value ≡ true → length_before 32 rest ≡ 0 → IsFenced value rest
fenced value rest are ends = omega (arith, before_low_mark 32 33 126 value rest (omega arith) are, ends)

-- a text whose key begins with a space
pub key_spaced : (key more rest : List ℕ) → key ≡ 32 ∷ more → length_before 32 (key ++ rest) ≡ 0
key_spaced key more rest is =
    ap (λ (k : List ℕ). length_before 32 (k ++ rest)) is ∙ before-mark 32 32 (more ++ rest) refl

-- the value of a field, and what is after it
field-front : {A : Type 0} (key value rest : List ℕ) (read : List ℕ → Option A) →
    IsFenced value rest → script_field key read (key ++ (value ++ rest)) ≡ read value
unfolding script_field
field-front key value rest read fenced =
    let text = key ++ (value ++ rest) in
    let following : keyed key text ≡ value ++ rest = drop-append_seam key (value ++ rest) in
    let value_is : value_of key text ≡ value =
    ap (λ (t : List ℕ). take (length_before 32 t) t) following
    ∙ ap (λ (n : ℕ). take n (value ++ rest)) fenced
    ∙ take-append_seam value rest in
    cond-true _ _ _ (begins-front key (value ++ rest)) ∙ ap read value_is

past-front : (key value rest : List ℕ) → IsFenced value rest → past key (key ++ (value ++ rest)) ≡ rest
unfolding past
past-front key value rest fenced =
    let text = key ++ (value ++ rest) in
    let following : keyed key text ≡ value ++ rest = drop-append_seam key (value ++ rest) in
    ap (λ (t : List ℕ). drop (length_before 32 t) t) following
    ∙ ap (λ (n : ℕ). drop n (value ++ rest)) fenced
    ∙ drop-append_seam value rest

-- a field with which a text begins is read, and so is what is after it
abbrev pub IsField : {A : Type 0} → List ℕ → (List ℕ → Option A) → A → List ℕ → List ℕ → Type 0
IsField key read x text rest = (script_field key read text ≡ Some x) × (past key text ≡ rest)

pub field_back : {A : Type 0} (key value rest : List ℕ) (read : List ℕ → Option A) (x : A) →
    are_within 33 126 value ≡ true → length_before 32 rest ≡ 0 → read value ≡ Some x →
    IsField key read x (key ++ (value ++ rest)) rest
field_back key value rest read x are ends is =
    let end = fenced value rest are ends in
    (field-front key value rest read end ∙ is, past-front key value rest end)

-- a last field
pub last_back : {A : Type 0} (key value : List ℕ) (read : List ℕ → Option A) (x : A) →
    are_within 33 126 value ≡ true → read value ≡ Some x → IsField key read x (key ++ value) []
last_back key value read x are is =
    subst (λ (t : List ℕ). IsField key read x (key ++ t) []) (append-nil value)
    (field_back key value [] read x are (before-none 32) is)

-- ---- what is written

-- a key and a value more
field_added : (before after key value rest : List ℕ) → after ≡ before ++ (key ++ value) →
    after ++ rest ≡ before ++ (key ++ (value ++ rest))
field_added before after key value rest is =
    ap (λ (t : List ℕ). t ++ rest) is
    ∙ append_assoc before (key ++ value) rest
    ∙ ap (λ (t : List ℕ). before ++ t) (append_assoc key value rest)

-- four of them, one after another
pub four_fields_added : (t0 t1 t2 t3 t4 k1 v1 k2 v2 k3 v3 k4 v4 : List ℕ) → t0 ≡ [] → t1 ≡ t0 ++ (k1 ++ v1) →
    t2 ≡ t1 ++ (k2 ++ v2) → t3 ≡ t2 ++ (k3 ++ v3) → t4 ≡ t3 ++ (k4 ++ v4) →
    t4 ≡ k1 ++ (v1 ++ (k2 ++ (v2 ++ (k3 ++ (v3 ++ (k4 ++ (v4 ++ [])))))))
four_fields_added t0 t1 t2 t3 t4 k1 v1 k2 v2 k3 v3 k4 v4 none first second third fourth =
    let after3 = k4 ++ (v4 ++ []) in
    let after2 = k3 ++ (v3 ++ after3) in
    let after1 = k2 ++ (v2 ++ after2) in
    sym (append-nil t4)
    ∙ field_added t3 t4 k4 v4 [] fourth
    ∙ field_added t2 t3 k3 v3 after3 third
    ∙ field_added t1 t2 k2 v2 after2 second
    ∙ field_added t0 t1 k1 v1 after1 first
    ∙ ap (λ (t : List ℕ). t ++ (k1 ++ (v1 ++ after1))) none
