-- Columns of choices, and the codewords that they lead back to.
use Rattle.std.specs.Prelude.{ℕ, zero, suc, ◌+◌, ◌*◌, ◌/◌, ◌%◌, Bool, true, List, [], ◌∷◌, ◌++◌, ℤ}
use Rattle.std.specs.Prelude.{length, get_or, pos, nat_le, nat_eq, if◌then◌else◌}
use Rattle.std.specs.Int.{reverse_bits_onto}
use Rattle.viterbi.specs.declared.codeword.Ends.{Ends}
use Rattle.viterbi.specs.declared.codeword.Ends.TheVariants.{Zero, Free}
use Rattle.list_viterbi.specs.Merging.{merge}
use Rattle.list_viterbi.specs.Picks.{pointer_of}
use Rattle.list_viterbi.specs.declared.codewords.Entry.{Entry}
use Rattle.list_viterbi.specs.declared.finds.Find.{Find}

-- whether a codeword may start from a state
abbrev pub starts_at : Ends → ℕ → Bool
starts_at Zero t = nat_eq t 0
starts_at Free t = true

-- the score of the codeword of no bits into a state, if a codeword may start from it
abbrev pub start_scores : Ends → ℕ → List ℤ
start_scores ends t = if starts_at ends t then pos 0 ∷ [] else []

-- the pointer of a place in a state's list, by column n
abbrev pub back_of : List (List ℕ) → ℕ → ℕ → ℕ → ℕ
back_of columns n t place = pointer_of (get_or (get_or columns n []) t 0) (place % 16)

-- the state before
abbrev pub list_state_before : List (List ℕ) → ℕ → ℕ → ℕ → ℕ
list_state_before columns n t place = 2 * (t % 128) + back_of columns n t place % 2

-- the place in its list
abbrev pub place_before : List (List ℕ) → ℕ → ℕ → ℕ → ℕ
place_before columns n t place = back_of columns n t place / 2

-- the state before the first of n bits
unfoldable pub list_origin : List (List ℕ) → ℕ → ℕ → ℕ → ℕ
list_origin columns zero t place = t
list_origin columns (suc n) t place =
    list_origin columns n (list_state_before columns n t place) (place_before columns n t place)

-- the n bits that lead to a place in a state's list
unfoldable pub list_path : List (List ℕ) → ℕ → ℕ → ℕ → List Bool
list_path columns zero t place = []
list_path columns (suc n) t place =
    list_path columns n (list_state_before columns n t place) (place_before columns n t place)
    ++ nat_le 128 t
    ∷ []

abbrev pub find_score : Find → ℤ
find_score f = f.score

-- the codewords of a state's list, the first of them at this place
abbrev pub finds_from : ℕ → ℕ → List ℤ → List Find
finds_from t place [] = []
finds_from t place (s ∷ ss) =
    record { score = s; state = t; rank = place } ∷ finds_from t (suc place) ss

-- the first k codewords of the lists of the first n states
unfoldable pub first_finds : List (List ℤ) → ℕ → ℕ → List Find
first_finds column k zero = []
first_finds column k (suc n) =
    merge find_score k (first_finds column k n) (finds_from n 0 (get_or column n []))

-- the codeword that all columns lead back to, with its score
abbrev pub entry_at : List (List ℕ) → Find → Entry
entry_at columns f = record {
  word = record {
    start = reverse_bits_onto 8 (list_origin columns (length columns) f.state f.rank) 0;
    bits = list_path columns (length columns) f.state f.rank;
  };
  score = f.score;
}

-- the scores of the first codewords into all states, at most a fixed number for each
pub record ColumnValue : Type 0 where
  pub k : ℕ
  pub scores : List (List ℤ)
