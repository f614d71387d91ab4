-- One step back along the columns.
use Rattle.viterbi.proofs.Common.{◌≡◌, ℕ, suc, ◌+◌, ◌-◌, ◌<◌, ◌≤◌, Bool, List, [], ◌∷◌, ◌++◌, length, drop, set, refl, sym, arith, nat_le}
use Rattle.viterbi.proofs.Common.{append_assoc, append-nil, drop-set, drop_all, state_before, path_origin, path}

pub origin-back : (columns : List (List ℕ)) (n j t before : ℕ) → n ≡ suc j →
    before ≡ state_before columns j t → path_origin columns j before ≡ path_origin columns n t
unfolding path_origin
origin-back columns n j t before size is = rw (size, is) refl

-- One step back along the columns puts a state's newest bit at its place before the bits that were
-- found, and the rest of the path is that of the state before.
pub path-back : (columns : List (List ℕ)) (n j t before : ℕ) (bits : List Bool) → n ≡ suc j →
    j < length bits → before ≡ state_before columns j t →
    path columns j before ++ drop j (set bits j (nat_le 128 t)) ≡ path columns n t ++ drop n bits
unfolding path
path-back columns n j t before bits size room is =
    let next : j + 1 ≡ suc j = omega arith in
    let place : drop j (set bits j (nat_le 128 t)) ≡ nat_le 128 t ∷ drop (suc j) bits =
    rw next at (drop-set bits j (nat_le 128 t) room) in
    rw (size, place, is)
    (sym (append_assoc (path columns j (state_before columns j t)) (nat_le 128 t ∷ []) (drop (suc j) bits)))

path-none : (columns : List (List ℕ)) (t : ℕ) → path columns 0 t ≡ []
unfolding path
path-none columns t = refl

origin-none : (columns : List (List ℕ)) (t : ℕ) → path_origin columns 0 t ≡ t
unfolding path_origin
origin-none columns t = refl

-- before the first step back
pub less_none : (n : ℕ) → n - 0 ≡ n
less_none n = omega arith

pub all_left : (columns : List (List ℕ)) (n m t : ℕ) (bits : List Bool) → m ≡ n → length bits ≤ n →
    path columns m t ++ drop m bits ≡ path columns n t
all_left columns n m t bits is few = rw (is, drop_all n bits few) (append-nil (path columns n t))

-- after the last
pub origin_left : (columns : List (List ℕ)) (n t : ℕ) → n ≡ 0 → t ≡ path_origin columns n t
origin_left columns n t is = rw is (sym (origin-none columns t))

pub none_left : (columns : List (List ℕ)) (n t : ℕ) (bits : List Bool) → n ≡ 0 → path columns n t ++ drop n bits ≡ bits
none_left columns n t bits is = rw (is, path-none columns t) refl
