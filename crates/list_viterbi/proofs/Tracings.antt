-- One step back along the columns.
use Rattle.list_viterbi.proofs.Common.{list_state_before, append_assoc, place_before, list_origin, append-nil, list_path, drop-set, length}
use Rattle.list_viterbi.proofs.Common.{drop_all, nat_le, arith, Bool, List, ◌++◌, drop, refl, ◌≡◌, suc, ◌+◌, ◌<◌, ◌≤◌, ◌∷◌, set, sym, [], ℕ}

pub origin-back : (columns : List (List ℕ)) (n j t place before rank : ℕ) → n ≡ suc j →
    before ≡ list_state_before columns j t place → rank ≡ place_before columns j t place →
    list_origin columns j before rank ≡ list_origin columns n t place
unfolding list_origin
origin-back columns n j t place before rank size is rank_is = rw (size, is, rank_is) refl

pub path-back : (columns : List (List ℕ)) (n j t place before rank : ℕ) (bits : List Bool) →
    n ≡ suc j → j < length bits → before ≡ list_state_before columns j t place → rank ≡ place_before columns j t place →
    list_path columns j before rank ++ drop j (set bits j (nat_le 128 t)) ≡ list_path columns n t place ++ drop n bits
unfolding list_path
path-back columns n j t place before rank bits size room is rank_is =
    let next : j + 1 ≡ suc j = omega arith in
    let here : drop j (set bits j (nat_le 128 t)) ≡ nat_le 128 t ∷ drop (suc j) bits =
    rw next at (drop-set bits j (nat_le 128 t) room) in
    rw (size, here, is, rank_is)
    (sym (append_assoc (list_path columns j (list_state_before columns j t place) (place_before columns j t place))
    (nat_le 128 t ∷ []) (drop (suc j) bits)))

path-none : (columns : List (List ℕ)) (t place : ℕ) → list_path columns 0 t place ≡ []
unfolding list_path
path-none columns t place = refl

origin-none : (columns : List (List ℕ)) (t place : ℕ) → list_origin columns 0 t place ≡ t
unfolding list_origin
origin-none columns t place = refl

-- before the first step back
pub all_left : (columns : List (List ℕ)) (n m t place : ℕ) (bits : List Bool) → m ≡ n →
    length bits ≤ n → list_path columns m t place ++ drop m bits ≡ list_path columns n t place
all_left columns n m t place bits is few = rw (is, drop_all n bits few) (append-nil (list_path columns n t place))

-- after the last
pub origin_left : (columns : List (List ℕ)) (n t place : ℕ) → n ≡ 0 → t ≡ list_origin columns n t place
origin_left columns n t place is = rw is (sym (origin-none columns t place))

pub none_left : (columns : List (List ℕ)) (n t place : ℕ) (bits : List Bool) → n ≡ 0 →
    list_path columns n t place ++ drop n bits ≡ bits
none_left columns n t place bits is = rw (is, path-none columns t place) refl
