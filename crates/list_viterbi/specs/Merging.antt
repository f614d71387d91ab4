-- How the lists after another bit follow from those before it.
use Rattle.std.specs.Prelude.{ℕ, zero, suc, ◌+◌, ◌*◌, ◌%◌, ◌^◌, ◌≤◌, ◌<◌, ◌≡◌, Bool, true, false, ℤ}
use Rattle.std.specs.Prelude.{List, [], ◌∷◌, ◌++◌, length, get_or, map, pos, ◌+ℤ◌, int_lt, nat_le}
use Rattle.std.specs.Prelude.{unsigned_abs, if◌then◌else◌}
use Rattle.chip_core.specs.Bits.{binary}
use Rattle.viterbi.specs.States.{low_bits}
use Rattle.viterbi.specs.Survivors.{gain_of}
use Rattle.viterbi.specs.Best.{HasStart}
use Rattle.viterbi.specs.declared.codeword.Ends.{Ends}
use Rattle.list_viterbi.specs.declared.codewords.Entry.{Entry}

-- an entry's score
abbrev pub entry_score : Entry → ℤ
entry_score e = e.score

-- an entry with another bit
abbrev pub entry_extended_by : Bool → ℤ → Entry → Entry
entry_extended_by bit gain e = record {
  word = record { start = e.word.start; bits = e.word.bits ++ bit ∷ [] };
  score = e.score +ℤ gain;
}

-- whether the second list has the next element: the one with the greater score, or the only one
abbrev pub second_is_next : {A : Type 0} → (A → ℤ) → List A → List A → Bool
second_is_next score xs [] = false
second_is_next score [] (y ∷ ys) = true
second_is_next score (x ∷ xs) (y ∷ ys) = int_lt (score x) (score y)

-- the first k of two lists by falling score; on a tie those of the first list come first
unfoldable pub merge : {A : Type 0} → (A → ℤ) → ℕ → List A → List A → List A
merge score zero xs ys = []
merge score (suc k) [] [] = []
merge score (suc k) [] (y ∷ ys) = y ∷ merge score k [] ys
merge score (suc k) (x ∷ xs) [] = x ∷ merge score k xs []
merge score (suc k) (x ∷ xs) (y ∷ ys) =
    if int_lt (score x) (score y)
    then y ∷ merge score k (x ∷ xs) ys
    else x ∷ merge score k xs (y ∷ ys)

-- the list that comes from the state with this oldest bit, 0 or 1
unfoldable pub list_from : List (List Entry) → ℤ → ℤ → ℕ → ℕ → List Entry
list_from column first second state oldest =
    map (entry_extended_by (nat_le 128 state)
    (gain_of first second (low_bits 9 (2 * state + oldest))))
    (get_or column (2 * (state % 128) + oldest) [])

-- the first k of these two lists
unfoldable pub list_into : List (List Entry) → ℤ → ℤ → ℕ → ℕ → List Entry
list_into column first second k state =
    merge entry_score k (list_from column first second state 0)
    (list_from column first second state 1)

-- another bit can be added
abbrev pub EntryHasRoom : ℤ → ℤ → Entry → Type 0
EntryHasRoom first second e =
    (unsigned_abs e.score + (unsigned_abs first + unsigned_abs second) ≤ 2 ^ 62) ×
    (length e.word.bits < 1184)

-- the codeword of no bits into a state
pub record IsStartEntry (state : ℕ) (e : Entry) : Type 0 where
  pub start : binary 8 e.word.start ≡ low_bits 8 state
  pub none : e.word.bits ≡ []
  pub nothing : e.score ≡ pos 0

-- only that codeword, or none if a codeword may not start from the state
abbrev pub EntriesStart : Ends → ℕ → List Entry → Type 0
EntriesStart ends state [] = ¬ (HasStart ends (low_bits 8 state))
EntriesStart ends state (e ∷ []) = HasStart ends (low_bits 8 state) × IsStartEntry state e
EntriesStart ends state (e ∷ f ∷ es) = ⊥

-- the first k of the lists of the first n states
unfoldable pub first_lists : List (List Entry) → ℕ → ℕ → List Entry
first_lists column k zero = []
first_lists column k (suc n) = merge entry_score k (first_lists column k n) (get_or column n [])
