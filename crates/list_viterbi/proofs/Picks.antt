-- Picks out of lists of scores, and how many were taken.
use Rattle.list_viterbi.proofs.Common.{◌≡◌, ℕ, zero, suc, ◌+◌, ◌*◌, ◌^◌, ◌<◌, ◌≤◌, Bool, true, false, List, [], ◌∷◌, ◌++◌, length, map, sym}
use Rattle.list_viterbi.proofs.Common.{drop, get_or, refl, ap, subst, ◌∙◌, arith, ℤ, pos, ◌+ℤ◌, Some, length-append, slice_get, int_lt}
use Rattle.list_viterbi.proofs.Common.{slice_get-get_or, map-append, length-map, digit, taken_of, second_is_next, merge, Pick, pick_score}
use Rattle.list_viterbi.proofs.Common.{picks_from, ones_below, HasChoices, HasPicks}
use Rattle.list_viterbi.proofs.Walks.{IsPart, second_over, second_only, second_by_score, second_has, took_first, took_second, took_none}
use Rattle.list_viterbi.proofs.Walks.{all_taken}
use Rattle.list_viterbi.proofs.Masks.{grown, chosen_more, ones_more, ones_none, pointer_by}

-- the pick at a place
abbrev pub pick_of : ℕ → ℤ → ℕ → ℤ → Pick
pick_of oldest gain place s = record { score = s +ℤ gain; back = 2 * place + oldest }

pub picks_long : (oldest : ℕ) (gain : ℤ) (place : ℕ) (ss : List ℤ) →
    length (picks_from oldest gain place ss) ≡ length ss
picks_long oldest gain place [] = refl
picks_long oldest gain place (s ∷ ss) = ap suc (picks_long oldest gain (suc place) ss)

pub picks_read : (oldest : ℕ) (gain : ℤ) (place : ℕ) (ss : List ℤ) (i : ℕ) (s : ℤ) → slice_get ss i ≡ Some s →
    slice_get (picks_from oldest gain place ss) i ≡ Some (pick_of oldest gain (place + i) s)
picks_read oldest gain place [] i s read = absurd (grind (arith, read))
picks_read oldest gain place (x ∷ xs) zero s read =
    let same : x ≡ s = grind (arith, read) in
    ap (λ (y : ℤ). Some (pick_of oldest gain place y)) same
    ∙ ap (λ (p : ℕ). Some (pick_of oldest gain p s)) (omega arith)
picks_read oldest gain place (x ∷ xs) (suc i) s read =
    picks_read oldest gain (suc place) xs i s read
    ∙ ap (λ (p : ℕ). Some (pick_of oldest gain p s)) (omega arith)

-- which of two lists has the next pick
pub odd_over : (i j : ℕ) (g h : ℤ) (even odd : List ℤ) → length odd ≤ j →
    second_is_next pick_score (drop i (picks_from 0 g 0 even)) (drop j (picks_from 1 h 0 odd)) ≡ false
odd_over i j g h even odd over =
    let long = picks_long 1 h 0 odd in
    second_over pick_score (picks_from 0 g 0 even) (picks_from 1 h 0 odd) i j (omega (arith, over, long))

pub odd_only : (i j : ℕ) (g h : ℤ) (even odd : List ℤ) → length even ≤ i → j < length odd →
    second_is_next pick_score (drop i (picks_from 0 g 0 even)) (drop j (picks_from 1 h 0 odd)) ≡ true
odd_only i j g h even odd over within =
    let long = picks_long 0 g 0 even in
    let long' = picks_long 1 h 0 odd in
    second_only pick_score (picks_from 0 g 0 even) (picks_from 1 h 0 odd) i j
    (omega (arith, over, long)) (omega (arith, within, long'))

pub odd_by_sum : (i j : ℕ) (g h : ℤ) (even odd : List ℤ) → i < length even → j < length odd →
    second_is_next pick_score (drop i (picks_from 0 g 0 even)) (drop j (picks_from 1 h 0 odd))
    ≡ int_lt (get_or even i (pos 0) +ℤ g) (get_or odd j (pos 0) +ℤ h)
odd_by_sum i j g h even odd within within' =
    let long = picks_long 0 g 0 even in
    let long' = picks_long 1 h 0 odd in
    second_by_score pick_score (picks_from 0 g 0 even) (picks_from 1 h 0 odd) i j _ _
    (omega (arith, within, long)) (omega (arith, within', long'))
    (picks_read 0 g 0 even i (get_or even i (pos 0)) (slice_get-get_or even i (pos 0) within))
    (picks_read 1 h 0 odd j (get_or odd j (pos 0)) (slice_get-get_or odd j (pos 0) within'))

pub odd_has : (i j : ℕ) (g h : ℤ) (even odd : List ℤ) → j ≤ length odd →
    second_is_next pick_score (drop i (picks_from 0 g 0 even)) (drop j (picks_from 1 h 0 odd)) ≡ true → j < length odd
odd_has i j g h even odd most next =
    let long = picks_long 1 h 0 odd in
    let here = second_has pick_score (picks_from 0 g 0 even) (picks_from 1 h 0 odd) i j
    (omega (arith, most, long)) next in
    omega (arith, here, long)

-- SO MANY PICKS
-- the scores and choices of the first n picks of both lists
pub record IsPicked (k : ℕ) (xs ys : List Pick) (i j n : ℕ) (scores : List ℤ) (choices : ℕ) :
    Type 0 where
  pub taken : List Pick
  pub part : IsPart pick_score k xs ys i j n taken
  pub values : scores ≡ map pick_score taken
  pub small : choices < 2 ^ length taken
  pub ones : ones_below choices (length taken) ≡ j
  pub both : i + j ≡ length taken
  pub chosen : HasChoices choices 0 taken

pub picked_none : (k : ℕ) (xs ys : List Pick) → IsPicked k xs ys 0 0 0 [] 0
picked_none k xs ys = record {
  taken = [];
  part = λ m e. ap (λ (n : ℕ). merge pick_score n xs ys) (omega (arith, e));
  values = refl;
  small = omega arith;
  ones = ones_none 0;
  both = refl;
  chosen = tt;
}

pub picked_long : (k : ℕ) (xs ys : List Pick) (i j n : ℕ) (scores : List ℤ) (choices : ℕ)
    (p : IsPicked k xs ys i j n scores choices) → length p.taken ≡ length scores
picked_long k xs ys i j n scores choices p = sym (length-map p.taken pick_score) ∙ ap length (sym p.values)

-- With one pick more the scores and choices are again those of the picks taken: its score comes
-- last, its bit is put on top of the choices, and the ones among them count the odd list's picks.
picked_more : (k : ℕ) (xs ys : List Pick) (i j n i' j' : ℕ) (scores : List ℤ) (choices new : ℕ)
    (value : ℤ) (b : Bool) (pick : Pick) (p : IsPicked k xs ys i j n scores choices) →
    IsPart pick_score k xs ys i' j' (n + 1) (p.taken ++ pick ∷ []) → value ≡ pick.score →
    new ≡ digit b * 2 ^ length p.taken + choices → pick.back ≡ pointer_by b j (length p.taken) →
    i' + j' ≡ i + j + 1 → j' ≡ j + digit b → IsPicked k xs ys i' j' (n + 1) (scores ++ value ∷ []) new
picked_more k xs ys i j n i' j' scores choices new value b pick p part value_is is back both ones =
    let m = length p.taken in
    let before = p.both in
    let longer : length (p.taken ++ pick ∷ []) ≡ m + 1 = length-append p.taken (pick ∷ []) in
    let back_is : pick.back ≡ pointer_by b (ones_below choices m) m =
    back ∙ ap (λ (c : ℕ). pointer_by b c m) (sym p.ones) in
    record {
      taken = p.taken ++ pick ∷ [];
      part = part;
      values = ap (λ (r : List ℤ). r ++ value ∷ []) p.values
          ∙ ap (λ (z : ℤ). map pick_score p.taken ++ z ∷ []) value_is
          ∙ sym (map-append pick_score p.taken (pick ∷ []));
      small = rw (longer, is) (grown choices m b p.small);
      ones = ap (ones_below new) longer ∙ ones_more choices new m b p.small is
          ∙ ap (λ (c : ℕ). c + digit b) p.ones ∙ sym ones;
      both = omega (arith, both, before, longer);
      chosen = chosen_more choices new m b p.taken pick refl p.small is back_is p.chosen;
    }

-- A pick from the odd state's list is the next step of the merge: its score is the list's at place
-- j with the gain added, and the choice is told by the bit of the next weight, which is 2 to the
-- number of picks so far.
pub picked_odd : (k i j n : ℕ) (even odd : List ℤ) (g h : ℤ) (scores : List ℤ)
    (choices new weight : ℕ) (value : ℤ) → weight ≡ 2 ^ length scores → j < length odd →
    second_is_next pick_score (drop i (picks_from 0 g 0 even)) (drop j (picks_from 1 h 0 odd))
    ≡ true → value ≡ get_or odd j (pos 0) +ℤ h → new ≡ choices + weight →
    IsPicked k (picks_from 0 g 0 even) (picks_from 1 h 0 odd) i j n scores choices →
    IsPicked k (picks_from 0 g 0 even) (picks_from 1 h 0 odd) i (j + 1) (n + 1) (scores ++ value ∷ []) new
picked_odd k i j n even odd g h scores choices new weight value power within next value_is is p =
    let xs = picks_from 0 g 0 even in
    let ys = picks_from 1 h 0 odd in
    let s = get_or odd j (pos 0) in
    let pick = pick_of 1 h j s in
    let long = picks_long 1 h 0 odd in
    let here : slice_get ys j ≡ Some pick = picks_read 1 h 0 odd j s (slice_get-get_or odd j (pos 0) within)
    ∙ ap (λ (m : ℕ). Some (pick_of 1 h m s)) (omega arith) in
    let size : 2 ^ length p.taken ≡ weight =
    ap (λ (m : ℕ). 2 ^ m) (picked_long k xs ys i j n scores choices p) ∙ sym power in
    picked_more k xs ys i j n i (j + 1) scores choices new value true pick p
    (took_second pick_score k i j n xs ys p.taken pick (omega (arith, within, long)) here next p.part)
    value_is (omega (arith, is, size)) refl (omega arith) refl

-- A pick from the even state's list is the next step of the merge: its score is the list's at place
-- i with the gain added, and the choices stay as they are, since the bit of an even pick is 0.
pub picked_even : (k i j n : ℕ) (even odd : List ℤ) (g h : ℤ) (scores : List ℤ) (choices : ℕ)
    (value : ℤ) → i < length even →
    second_is_next pick_score (drop i (picks_from 0 g 0 even)) (drop j (picks_from 1 h 0 odd))
    ≡ false → value ≡ get_or even i (pos 0) +ℤ g →
    IsPicked k (picks_from 0 g 0 even) (picks_from 1 h 0 odd) i j n scores choices →
    IsPicked k (picks_from 0 g 0 even) (picks_from 1 h 0 odd) (i + 1) j (n + 1) (scores ++ value ∷ []) choices
picked_even k i j n even odd g h scores choices value within next value_is p =
    let xs = picks_from 0 g 0 even in
    let ys = picks_from 1 h 0 odd in
    let s = get_or even i (pos 0) in
    let pick = pick_of 0 g i s in
    let long = picks_long 0 g 0 even in
    let both = p.both in
    let here : slice_get xs i ≡ Some pick = picks_read 0 g 0 even i s (slice_get-get_or even i (pos 0) within)
    ∙ ap (λ (m : ℕ). Some (pick_of 0 g m s)) (omega arith) in
    picked_more k xs ys i j n (i + 1) j scores choices choices value false pick p
    (took_first pick_score k i j n xs ys p.taken pick (omega (arith, within, long)) here next p.part)
    value_is (omega arith) (omega (arith, both)) (omega arith) (omega arith)

pub picked_over : (k i j n : ℕ) (even : List ℤ) (g : ℤ) (ys : List Pick) (scores : List ℤ)
    (choices : ℕ) → length even ≤ i → second_is_next pick_score (drop i (picks_from 0 g 0 even)) (drop j ys) ≡ false →
    IsPicked k (picks_from 0 g 0 even) ys i j n scores choices →
    IsPicked k (picks_from 0 g 0 even) ys i j (n + 1) scores choices
picked_over k i j n even g ys scores choices over next p =
    let long = picks_long 0 g 0 even in
    record {
      taken = p.taken;
      part = took_none pick_score k i j n (picks_from 0 g 0 even) ys p.taken
          (omega (arith, over, long)) next p.part;
      values = p.values;
      small = p.small;
      ones = p.ones;
      both = p.both;
      chosen = p.chosen;
    }

-- Where both lists go on, the next pick is taken by the test of their sums: the odd list has it exactly
-- where its sum is the greater one, so the step is the one for the odd list or for the even one.
pub picked_next : (k i j n i' j' : ℕ) (even odd : List ℤ) (g h : ℤ) (scores : List ℤ)
    (choices new weight : ℕ) (value : ℤ) (b : Bool) → weight ≡ 2 ^ length scores → i < length even → j < length odd →
    b ≡ int_lt (get_or even i (pos 0) +ℤ g) (get_or odd j (pos 0) +ℤ h) →
    value ≡ taken_of b (get_or even i (pos 0) +ℤ g) (get_or odd j (pos 0) +ℤ h) →
    new ≡ choices + digit b * weight → i' + digit b ≡ i + 1 → j' ≡ j + digit b →
    IsPicked k (picks_from 0 g 0 even) (picks_from 1 h 0 odd) i j n scores choices →
    IsPicked k (picks_from 0 g 0 even) (picks_from 1 h 0 odd) i' j' (n + 1) (scores ++ value ∷ []) new
picked_next k i j n i' j' even odd g h scores choices new weight value true power within within'
    b_is value_is is i_is j_is p =
    let same : i ≡ i' = omega (arith, i_is) in
    let next : j + 1 ≡ j' = omega (arith, j_is) in
    let IsHere : ℕ → ℕ → Type 0 = λ u v. IsPicked k (picks_from 0 g 0 even) (picks_from 1 h 0 odd) u
    v (n + 1) (scores ++ value ∷ []) new in
    subst (λ (u : ℕ). IsHere u j') same
    (subst (λ (v : ℕ). IsHere i v) next
    (picked_odd k i j n even odd g h scores choices new weight value power within'
    (odd_by_sum i j g h even odd within within' ∙ sym b_is) value_is (omega (arith, is)) p))
picked_next k i j n i' j' even odd g h scores choices new weight value false power within within'
    b_is value_is is i_is j_is p =
    let next : i + 1 ≡ i' = omega (arith, i_is) in
    let same : j ≡ j' = omega (arith, j_is) in
    let kept : choices ≡ new = omega (arith, is) in
    let IsHere : ℕ → ℕ → ℕ → Type 0 = λ u v c. IsPicked k (picks_from 0 g 0 even)
    (picks_from 1 h 0 odd) u v (n + 1) (scores ++ value ∷ []) c in
    subst (λ (u : ℕ). IsHere u j' new) next
    (subst (λ (v : ℕ). IsHere (i + 1) v new) same
    (subst (λ (c : ℕ). IsHere (i + 1) j c) kept
    (picked_even k i j n even odd g h scores choices value within
    (odd_by_sum i j g h even odd within within' ∙ sym b_is) value_is p)))

pub picked_all : (k i j n : ℕ) (xs ys : List Pick) (scores : List ℤ) (choices : ℕ) → n ≡ k →
    IsPicked k xs ys i j n scores choices → HasPicks scores choices (merge pick_score k xs ys)
picked_all k i j n xs ys scores choices all p =
    subst (HasPicks scores choices) (all_taken pick_score k i j n xs ys p.taken all p.part) (p.values, p.chosen)
