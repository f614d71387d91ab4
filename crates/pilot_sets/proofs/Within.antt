-- Lists that are cut to a room.
use Rattle.pilot_sets.proofs.Common.{◌≡◌, ◌<◌, ◌+◌, ℕ, Bool, true, false, cond, List, [], ◌∷◌, ◌++◌, take, filter, length, get_or, ap, sym}
use Rattle.pilot_sets.proofs.Common.{◌∙◌, arith, append-nil, filter_more, take_more, common_steps}

-- adding to a list that is cut already
pub take_within_push : {X : Type 0} (n : ℕ) (xs ys : List X) (x : X) →
    take n (take n (xs ++ ys) ++ x ∷ []) ≡ take n (xs ++ (ys ++ x ∷ []))
take_within_push n xs ys x = grind (arith, common_steps)

-- a loop that adds one by one to a list that is cut
pub joined_more : {X : Type 0} (n : ℕ) (xs ys joined new : List X) (i : ℕ) (d : X) →
    i < length ys → joined ≡ take n (xs ++ take i ys) →
    new ≡ take n (joined ++ get_or ys i d ∷ []) → new ≡ take n (xs ++ take (i + 1) ys)
joined_more n xs ys joined new i d h before is =
    is
    ∙ ap (λ l. take n (l ++ get_or ys i d ∷ [])) before
    ∙ take_within_push n xs (take i ys) (get_or ys i d)
    ∙ ap (λ l. take n (xs ++ l)) (sym (take_more ys i d h))

-- a loop that adds what passes a test to a list that is cut
pub filtered_hit : {X : Type 0} (n : ℕ) (p : X → Bool) (xs found new : List X) (i : ℕ) (d : X) →
    i < length xs → found ≡ take n (filter p (take i xs)) → p (get_or xs i d) ≡ true →
    new ≡ take n (found ++ get_or xs i d ∷ []) → new ≡ take n (filter p (take (i + 1) xs))
filtered_hit n p xs found new i d h before hit is =
    is
    ∙ ap (λ l. take n (l ++ get_or xs i d ∷ [])) before
    ∙ take_within_push n [] (filter p (take i xs)) (get_or xs i d)
    ∙ ap (λ b. take n (filter p (take i xs) ++ cond b (get_or xs i d ∷ []) [])) (sym hit)
    ∙ ap (λ l. take n l) (sym (filter_more p xs i d h))

pub filtered_miss : {X : Type 0} (n : ℕ) (p : X → Bool) (xs found : List X) (i : ℕ) (d : X) →
    i < length xs → found ≡ take n (filter p (take i xs)) → p (get_or xs i d) ≡ false →
    found ≡ take n (filter p (take (i + 1) xs))
filtered_miss n p xs found i d h before miss =
    before
    ∙ ap (λ l. take n l) (sym (append-nil (filter p (take i xs))))
    ∙ ap (λ b. take n (filter p (take i xs) ++ cond b (get_or xs i d ∷ []) [])) (sym miss)
    ∙ ap (λ l. take n l) (sym (filter_more p xs i d h))
