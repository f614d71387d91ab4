-- One column more.
use Rattle.viterbi.proofs.Common.{◌≡◌, ℕ, suc, ◌+◌, ◌*◌, ◌/◌, ◌%◌, ◌<◌, ◌≤◌, Bool, List, [], length, set, get_or, take, subst, sym, ap, ◌∙◌}
use Rattle.viterbi.proofs.Common.{arith, ℤ, pos, ◌+ℤ◌, ◌-ℤ◌, unsigned_abs, reverse_bits_onto, get_or-set_same, get_or-set_other, took, path}
use Rattle.viterbi.proofs.Common.{get_or-take, length-take-le, sum_by_more, IsFirstGreatest, IsBestCodeword, spelled_codeword, metric_into}
use Rattle.viterbi.proofs.Common.{choice_into, forced_at, path_origin, end_count, score_of, Ends, sum_by}
use Rattle.viterbi.proofs.Ended.{codeword_found}
use Rattle.viterbi.proofs.Standing.{SurvivorsStand, step_stands, stands_same, next_size}

pub column_stands : (softs : List ℤ) (ends : Ends) (k : ℕ) (taken top : ℤ) (metrics next : List ℤ)
    (columns : List (List ℕ)) (choices : List ℕ) →
    2 * k + 2 ≤ length softs → k < length columns → length metrics ≡ 256 → SurvivorsStand softs ends k taken metrics columns →
    ((t : ℕ) → t < 256 →
    get_or next t (pos 0) ≡ metric_into (forced_at ends k) metrics (get_or softs (2 * k) (pos 0))
    (get_or softs (2 * k + 1) (pos 0)) t -ℤ top) →
    ((t : ℕ) → t < 256 →
    took choices t ≡ choice_into (forced_at ends k) metrics (get_or softs (2 * k) (pos 0))
    (get_or softs (2 * k + 1) (pos 0)) t) →
    SurvivorsStand softs ends (suc k) (taken +ℤ top) next (set columns k choices)
column_stands softs ends k taken top metrics next columns choices room within whole h nexts chosen =
    step_stands softs ends k taken top metrics next columns (set columns k choices) room whole h
    (λ j b. get_or-set_other columns k j choices [] (λ e. apart j b e)) nexts
    (λ t b. ap (λ (r : List ℕ). took r t) (get_or-set_same columns k choices [] within) ∙ chosen t b)
  where
    apart : (j : ℕ) → j < k → ¬ (j ≡ k)
    apart j b e = omega (arith, b, e)

pub pairs_more : (softs : List ℤ) (k : ℕ) → 2 * k + 2 ≤ length softs → sum_by unsigned_abs (take (2 * (k + 1)) softs)
    ≡ sum_by unsigned_abs (take (2 * k) softs)
    + (unsigned_abs (get_or softs (2 * k) (pos 0)) + unsigned_abs
    (get_or softs (2 * k + 1) (pos 0)))
pairs_more softs k room =
    let one = sum_by_more unsigned_abs softs (2 * k) (pos 0) (omega (arith, room)) in
    let two = sum_by_more unsigned_abs softs (2 * k + 1) (pos 0) (omega (arith, room)) in
    let place : 2 * k + 1 + 1 ≡ 2 * (k + 1) = omega arith in
    let both = rw place at two in
    omega (arith, one, both)

pub size_more : (softs : List ℤ) (k t : ℕ) (taken top : ℤ) (forced : Bool) (metrics : List ℤ)
    (x : ℤ) → 2 * k + 2 ≤ length softs → length metrics ≡ 256 →
    ((u : ℕ) → u < 256 →
    unsigned_abs (get_or metrics u (pos 0) +ℤ taken) ≤ sum_by unsigned_abs (take (2 * k) softs)) →
    x ≡ metric_into forced metrics (get_or softs (2 * k) (pos 0)) (get_or softs (2 * k + 1) (pos 0)) t -ℤ top →
    unsigned_abs (x +ℤ (taken +ℤ top)) ≤ sum_by unsigned_abs (take (2 * (k + 1)) softs)
size_more softs k t taken top forced metrics x room whole small is =
    rw (pairs_more softs k room)
    (next_size taken top metrics forced (get_or softs (2 * k) (pos 0))
    (get_or softs (2 * k + 1) (pos 0)) x _ t whole small is)

first_columns : (softs : List ℤ) (ends : Ends) (n m : ℕ) (taken : ℤ) (metrics : List ℤ)
    (columns : List (List ℕ)) → n ≡ m →
    SurvivorsStand softs ends n taken metrics columns → SurvivorsStand softs ends m taken metrics (take m columns)
first_columns softs ends n m taken metrics columns is h =
    stands_same softs ends m taken metrics columns (take m columns) (λ j b. get_or-take m columns j [] b)
    (subst (λ (k : ℕ). SurvivorsStand softs ends k taken metrics columns) is h)

-- the codeword that the columns of all bits lead back to
pub run_codeword : (softs : List ℤ) (ends : Ends) (bit : ℕ) (taken : ℤ) (metrics held : List ℤ)
    (columns lent : List (List ℕ)) (count end from start : ℕ) (bits : List Bool) →
    bit ≡ length softs / 2 → 16 ≤ length softs → length softs % 2 ≡ 0 → length softs / 2 ≤ 576 →
    length lent ≡ 576 → lent ≡ columns → held ≡ metrics → count ≡ end_count ends →
    SurvivorsStand softs ends bit taken metrics columns → IsFirstGreatest (λ t. get_or held t (pos 0)) count end →
    from ≡ path_origin (take (length softs / 2) lent) (length (take (length softs / 2) lent)) end →
    start ≡ reverse_bits_onto 8 from 0 →
    bits ≡ path (take (length softs / 2) lent) (length (take (length softs / 2) lent)) end →
    IsBestCodeword softs ends (spelled_codeword (record { start = start; bits = bits }))
    × (get_or metrics end (pos 0) +ℤ taken
    ≡ score_of softs (spelled_codeword (record { start = start; bits = bits })))
run_codeword softs ends bit taken metrics held columns lent count end from start bits all least even most
    whole same_columns same_metrics counted h first from_is start_is bits_is =
    let n = length softs / 2 in
    let size : length (take n lent) ≡ n = length-take-le n lent (omega (arith, most, whole)) in
    let from_end : from ≡ path_origin (take n lent) n end = rw size at from_is in
    codeword_found softs ends n taken metrics (take n lent) end start bits (omega (arith, least)) (omega (arith, even))
    (subst (λ (r : List (List ℕ)). SurvivorsStand softs ends n taken metrics (take n r)) (sym same_columns)
    (first_columns softs ends bit n taken metrics columns all h))
    (rw (same_metrics, counted) at first)
    (start_is ∙ ap (λ (o : ℕ). reverse_bits_onto 8 o 0) from_end) (rw size at bits_is)
