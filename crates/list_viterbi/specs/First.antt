-- The first codewords of a kind, in the decoder's order.
use Rattle.std.specs.Prelude.{ℕ, ◌≡◌, ◌≢◌, ◌≤◌, ◌/◌, Bool, true, List, length, map, min, ℤ, ◌⊎◌}
use Rattle.std.specs.Prelude.{All, AllPairs, Contains}
use Rattle.chip_core.specs.Sums.{first_places}
use Rattle.viterbi.specs.Codewords.{Codeword, score_of, IsBetter, codeword_at, codeword_count}
use Rattle.viterbi.specs.Best.{IsAllowed, spelled_codeword}
use Rattle.viterbi.specs.declared.codeword.Ends.{Ends}
use Rattle.list_viterbi.specs.declared.codewords.Entry.{Entry}

-- The first k codewords of a kind, or all if there are fewer. Each is of the kind and better than
-- every later one, so no two are the same. Every other codeword of the kind is worse than all of
-- them; there is one only if the list has k.
pub record AreFirst (score : Codeword → ℤ) (Kind : Codeword → Type 0) (k : ℕ)
    (codewords : List Codeword) : Type 0 where
  pub most : length codewords ≤ k
  pub kind : All Kind codewords
  pub order : AllPairs (IsBetter score) codewords
  pub rest : (w : Codeword) → Kind w →
      Contains codewords w ⊎ ((length codewords ≡ k) × All (λ v. IsBetter score v w) codewords)

-- the first k of the allowed codewords of n bits by the definition, or all if there are fewer
abbrev pub first_codewords : ℕ → (Codeword → ℤ) → Ends → ℕ → List Codeword
first_codewords k score ends n =
    map (codeword_at ends n) (first_places k (λ r. score (codeword_at ends n r))
    (codeword_count ends n))

-- the first codeword of a kind that passes a test
pub record IsFirstPassing (score : Codeword → ℤ) (Kind : Codeword → Type 0) (test : Codeword → Bool)
    (w : Codeword) : Type 0 where
  pub kind : Kind w
  pub passes : test w ≡ true
  pub first : (v : Codeword) → Kind v → test v ≡ true → v ≢ w → IsBetter score w v

-- the codeword of an entry
abbrev pub codeword_of : Entry → Codeword
codeword_of e = spelled_codeword e.word

-- each entry has its codeword's score
abbrev pub HaveScores : List ℤ → List Entry → Type 0
HaveScores softs entries = All (λ e. e.score ≡ score_of softs (codeword_of e)) entries

-- the result of a list decoder for soft values: the first k allowed codewords with their scores, or
-- all if there are fewer, and their number; it is still for at most `bits` bits
pub record AreListed (softs : List ℤ) (ends : Ends) (k bits left : ℕ) (out : List Entry)
    (result : ℕ) : Type 0 where
  pub first : AreFirst (score_of softs) (IsAllowed ends (length softs / 2)) k (map codeword_of out)
  pub scores : HaveScores softs out
  pub count : result ≡ length out
  pub number : result ≡ min k (codeword_count ends (length softs / 2))
  pub kept : left ≡ bits
