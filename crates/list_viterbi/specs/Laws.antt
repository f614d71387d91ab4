-- The laws of the first codewords.
use Rattle.std.specs.Prelude.{ℕ, ◌≡◌, ◌<◌, ◌≤◌, ◌*◌, Bool, List, length, min, slice_get, ℤ, Some}
use Rattle.std.specs.List.{find}
use Rattle.viterbi.specs.Codewords.{Codeword, score_of, codeword_count}
use Rattle.viterbi.specs.Best.{IsAllowed, IsBestCodeword}
use Rattle.viterbi.specs.declared.codeword.Ends.{Ends}
use Rattle.list_viterbi.specs.First.{AreFirst, first_codewords, IsFirstPassing}

-- `AreFirst` determines the list
abbrev pub NamesOneList : Type 0
NamesOneList = (score : Codeword → ℤ) (ends : Ends) (n k : ℕ) (codewords others : List Codeword) →
    AreFirst score (IsAllowed ends n) k codewords → AreFirst score (IsAllowed ends n) k others →
    codewords ≡ others

-- the first k allowed codewords are those of the definition
abbrev pub AreFirstByDefinition : Type 0
AreFirstByDefinition =
    (softs : List ℤ) (ends : Ends) (n k : ℕ) (codewords : List Codeword) → 8 ≤ n →
    AreFirst (score_of softs) (IsAllowed ends n) k codewords →
    codewords ≡ first_codewords k (score_of softs) ends n

-- there are k of them, or all allowed codewords if those are fewer
abbrev pub HaveLength : Type 0
HaveLength = (softs : List ℤ) (ends : Ends) (n k : ℕ) (codewords : List Codeword) → 8 ≤ n →
    AreFirst (score_of softs) (IsAllowed ends n) k codewords → length codewords
    ≡ min k (codeword_count ends n)

-- the best codeword is the first of them
abbrev pub HaveBestFirst : Type 0
HaveBestFirst =
    (softs : List ℤ) (ends : Ends) (n k : ℕ) (codewords : List Codeword) (best : Codeword) → 8 ≤ n →
    0 < k → length softs ≡ 2 * n →
    AreFirst (score_of softs) (IsAllowed ends n) k codewords → IsBestCodeword softs ends best →
    slice_get codewords 0 ≡ Some best

-- the first of the first k codewords that passes a test is the first of all codewords that pass it
abbrev pub HaveFirstPassing : Type 0
HaveFirstPassing = (score : Codeword → ℤ) (ends : Ends) (n k : ℕ) (test : Codeword → Bool)
    (codewords : List Codeword) (w : Codeword) →
    AreFirst score (IsAllowed ends n) k codewords → find test codewords ≡ Some w →
    IsFirstPassing score (IsAllowed ends n) test w
