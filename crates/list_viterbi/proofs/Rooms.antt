-- One bit more can be added to every codeword, and its score doesn't wrap; and what the last lists
-- give.
use Rattle.list_viterbi.proofs.Common.{◌≡◌, ℕ, zero, suc, ◌+◌, ◌*◌, ◌^◌, ◌<◌, ◌≤◌, Bool, List, [], ◌∷◌, length, map, get_or, ap, subst, sym}
use Rattle.list_viterbi.proofs.Common.{arith, ℤ, pos, unsigned_abs, All, sum_by, All-nil, All-cons, Codeword, score_of, IsAllowed, low_bits}
use Rattle.list_viterbi.proofs.Common.{end_count, Ends, pair_size, score_size, Into, end_count_le, Entry, AreFirst, HaveScores, codeword_of}
use Rattle.list_viterbi.proofs.Common.{EntryHasRoom, first_lists, ◌∙◌, min, length-map, codeword_count}
use Rattle.list_viterbi.proofs.Firsts.{After, are_first}
use Rattle.list_viterbi.proofs.Merges.{Lists}
use Rattle.list_viterbi.proofs.Places.{how_many}
use Rattle.list_viterbi.proofs.Steps.{Listed, first_lists_lists, ends_lists}

each_of : (softs : List ℤ) (Kind : Codeword → Type 0) (k : ℕ) (P : Entry → Type 0) (es : List Entry) →
    ((e : Entry) → Kind (codeword_of e) → e.score ≡ score_of softs (codeword_of e) → P e) →
    Lists softs Kind k es → All P es
each_of softs Kind k P [] f h = All-nil P
each_of softs Kind zero P (e ∷ es) f h = absurd h.0
each_of softs Kind (suc k) P (e ∷ es) f h =
    All-cons P e es (f e h.0.0.kind h.1.0)
    (each_of softs (After (score_of softs) (codeword_of e) Kind) k P es (λ d p s. f d p.0 s) (h.0.1, h.1.1))

has_room : (softs : List ℤ) (ends : Ends) (n : ℕ) (state : List Bool) (e : Entry) →
    2 * n + 2 ≤ length softs → sum_by unsigned_abs softs ≤ 2 ^ 62 → n ≤ 576 →
    Into ends n state (codeword_of e) → e.score ≡ score_of softs (codeword_of e) →
    EntryHasRoom (get_or softs (2 * n) (pos 0)) (get_or softs (2 * n + 1) (pos 0)) e
has_room softs ends n state e room bound few is scored =
    let size = score_size softs (codeword_of e) n is.bits_long in
    let same : unsigned_abs e.score ≡ unsigned_abs (score_of softs (codeword_of e)) = ap unsigned_abs scored in
    let pair = pair_size softs n room in
    (omega (arith, size, same, pair, bound), omega (arith, is.bits_long, few))

pub rooms : (softs : List ℤ) (ends : Ends) (k n : ℕ) (column : List (List Entry)) →
    2 * n + 2 ≤ length softs → sum_by unsigned_abs softs ≤ 2 ^ 62 → n ≤ 576 → Listed softs ends k n column →
    (t : ℕ) → t < 256 → All (EntryHasRoom (get_or softs (2 * n) (pos 0)) (get_or softs (2 * n + 1) (pos 0)))
    (get_or column t [])
rooms softs ends k n column room bound few listed t h =
    each_of softs (Into ends n (low_bits 8 t)) k
    (EntryHasRoom (get_or softs (2 * n) (pos 0)) (get_or softs (2 * n + 1) (pos 0))) (get_or column t [])
    (λ e is scored. has_room softs ends n (low_bits 8 t) e room bound few is scored) (listed t h)

-- what the lists of the last states give
pub found : (softs : List ℤ) (ends : Ends) (k n : ℕ) (column : List (List Entry)) (es : List Entry) →
    8 ≤ n → Listed softs ends k n column →
    es ≡ first_lists column k (end_count ends) → Lists softs (IsAllowed ends n) k es
found softs ends k n column es long listed is =
    subst (Lists softs (IsAllowed ends n) k) (sym is)
    (ends_lists softs ends k n (first_lists column k (end_count ends)) long
    (first_lists_lists softs ends k n column (end_count ends) (end_count_le ends) listed))

pub found_first : (softs : List ℤ) (Kind : Codeword → Type 0) (k : ℕ) (es : List Entry) →
    Lists softs Kind k es → AreFirst (score_of softs) Kind k (map codeword_of es)
found_first softs Kind k es h = are_first (score_of softs) Kind k (map codeword_of es) h.0

pub found_scores : (softs : List ℤ) (Kind : Codeword → Type 0) (k : ℕ) (es : List Entry) →
    Lists softs Kind k es → HaveScores softs es
found_scores softs Kind k es h = each_of softs Kind k (λ e. e.score ≡ score_of softs (codeword_of e)) es
    (λ e is scored. scored) h

pub found_number : (softs : List ℤ) (ends : Ends) (n k : ℕ) (es : List Entry) → 8 ≤ n →
    Lists softs (IsAllowed ends n) k es → length es ≡ min k (codeword_count ends n)
found_number softs ends n k es long h =
    sym (length-map es codeword_of)
    ∙ how_many softs ends n k (map codeword_of es) long (found_first softs (IsAllowed ends n) k es h)
