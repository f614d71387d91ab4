-- Lists, gone over one by one.
use Rattle.heard_events.proofs.Common.{◌≡◌, ℕ, ◌+◌, Bool, true, List, [], ◌∷◌, ◌++◌, take, map, refl, ◌∙◌, Some, slice_get, All, subst}
use Rattle.heard_events.proofs.Common.{and_from, and_parts, flat_map, list_all, list_all-append, get_or_from_slice_get, slice_get_within}
use Rattle.heard_events.proofs.Common.{map_more}

-- what a loop over any list makes of each
pub map_at : {X Y : Type 0} (f : X → Y) (xs : List X) (i : ℕ) (x : X) (ys : List Y) (y : Y) →
    slice_get xs i ≡ Some x → ys ≡ map f (take i xs) → y ≡ f x → ys ++ y ∷ [] ≡ map f (take (i + 1) xs)
map_at f xs i x ys y read before is =
    rw (map_more f xs i x (slice_get_within xs i x read), get_or_from_slice_get xs i x x read, before, is)
    refl

-- one element of a list whose elements all have a property
pub all_at : {X : Type 0} (P : X → Type 0) (xs : List X) (i : ℕ) (x : X) → All P xs → slice_get xs i ≡ Some x → P x
all_at P xs i x h read = subst P (get_or_from_slice_get xs i x x read) (h i x (slice_get_within xs i x read))

-- where elements pass a test, what is made of them passes another
pub flat_passes : {X Y : Type 0} (q : X → Bool) (p : Y → Bool) (f : X → List Y) (xs : List X) →
    ((x : X) → q x ≡ true → list_all p (f x) ≡ true) → list_all q xs ≡ true → list_all p (flat_map f xs) ≡ true
flat_passes q p f [] each h = refl
flat_passes q p f (x ∷ xs) each h =
    let both = and_parts (q x) (list_all q xs) h in
    list_all-append p (f x) (flat_map f xs)
    ∙ and_from (list_all p (f x)) (list_all p (flat_map f xs)) (each x both.0) (flat_passes q p f xs each both.1)

-- maps that agree everywhere
pub map_same : {A B : Type 0} (f g : A → B) (xs : List A) → ((x : A) → f x ≡ g x) → map f xs ≡ map g xs
map_same f g [] h = refl
map_same f g (x ∷ xs) h =
    let here : f x ≡ g x = h x in
    let rest = map_same f g xs h in
    cc
