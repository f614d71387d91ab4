-- From the lists after some bits to those after one bit more.
use Rattle.list_viterbi.proofs.Common.{◌≡◌, ℕ, zero, suc, ◌+◌, ◌*◌, ◌%◌, ◌<◌, ◌≤◌, Bool, true, false, List, [], ◌∷◌, ◌++◌, length, get_or}
use Rattle.list_viterbi.proofs.Common.{refl, sym, ap, subst, ◌∙◌, arith, ℤ, inl, digit, binary, state_after, length-binary, Codeword, Ends}
use Rattle.list_viterbi.proofs.Common.{state_after-none, score_of, IsBetter, HasStart, IsAllowed, low_bits, gain_of, end_count, From, Into}
use Rattle.list_viterbi.proofs.Common.{codewords_same, before_below, first_soft, from_states, joined_long, newest_bit, pushed_score, Entry}
use Rattle.list_viterbi.proofs.Common.{second_soft, seven_bits, state_parts, to_state, zero_first, IntoBelow, allowed_into, below_first}
use Rattle.list_viterbi.proofs.Common.{below_or_last, into_allowed, more_below, no_bits, score-none, codeword_of, list_from, list_into}
use Rattle.list_viterbi.proofs.Common.{first_lists, EntriesStart, state_before}
use Rattle.list_viterbi.proofs.Firsts.{After, not_self}
use Rattle.list_viterbi.proofs.Merges.{Lists, same_lists, merge_lists, extended_lists}

-- each state's list has the first codewords into it
abbrev pub Listed : List ℤ → Ends → ℕ → ℕ → List (List Entry) → Type 0
Listed softs ends k n column = (t : ℕ) → t < 256 →
    Lists softs (Into ends n (low_bits 8 t)) k (get_or column t [])

-- the first codewords that come from a state before
from_list : (softs : List ℤ) (ends : Ends) (k n : ℕ) (column : List (List Entry)) →
    2 * n + 2 ≤ length softs → Listed softs ends k n column → (t : ℕ) → t < 256 → (oldest : Bool) →
    Lists softs (From ends n t oldest) k (list_from column (first_soft softs n) (second_soft softs n) t (digit oldest))
unfolding list_from
from_list softs ends k n column room listed t below oldest =
    let place = 2 * (t % 128) + digit oldest in
    let here : Lists softs (Into ends n (oldest ∷ seven_bits t)) k (get_or column place []) =
    rw (state_before t oldest) at (listed place (before_below t oldest)) in
    extended_lists softs (Into ends n (oldest ∷ seven_bits t)) (newest_bit t)
    (gain_of (first_soft softs n) (second_soft softs n) (low_bits 9 (2 * t + digit oldest))) (8 + n)
    k (get_or column place []) (pushed_score softs ends n t oldest room below)
    (joined_long ends n (oldest ∷ seven_bits t)) here

pub list_into_lists : (softs : List ℤ) (ends : Ends) (k n : ℕ) (column : List (List Entry)) →
    2 * n + 2 ≤ length softs → Listed softs ends k n column → (t : ℕ) → t < 256 →
    Lists softs (Into ends (suc n) (low_bits 8 t)) k (list_into column (first_soft softs n) (second_soft softs n) k t)
unfolding list_into
list_into_lists softs ends k n column room listed t below =
    rw (state_parts t below)
    (same_lists softs _ (Into ends (suc n) (seven_bits t ++ newest_bit t ∷ [])) k _
    (to_state ends n t) (from_states ends n t)
    (merge_lists softs (From ends n t false) (From ends n t true) k k k _ _ (omega arith)
    (omega arith) (zero_first ends n t) (from_list softs ends k n column room listed t below false)
    (from_list softs ends k n column room listed t below true)))

-- BEFORE THE FIRST BIT
pub start_lists : (softs : List ℤ) (ends : Ends) (k t : ℕ) (es : List Entry) → EntriesStart ends t es →
    Lists softs (Into ends 0 (low_bits 8 t)) (suc k) es
start_lists softs ends k t [] h = (λ w is. h (subst (HasStart ends) (no_bits ends (low_bits 8 t) w is).0 is.begins), tt)
start_lists softs ends k t (e ∷ f ∷ es) h = absurd h
start_lists softs ends k t (e ∷ []) h =
    let same : (w : Codeword) → Into ends 0 (low_bits 8 t) w → w ≡ codeword_of e = λ w is.
    let parts = no_bits ends (low_bits 8 t) w is in
    codewords_same w (codeword_of e) (parts.0 ∙ sym h.1.start) (parts.1 ∙ sym h.1.none) in (
      (
        record {
          kind = record {
            start_long = length-binary 8 e.word.start;
            bits_long = ap length h.1.none;
            begins = subst (HasStart ends) (sym h.1.start) h.0;
            reached = ap (state_after (binary 8 e.word.start)) h.1.none
                ∙ state_after-none (binary 8 e.word.start) ∙ h.1.start;
          };
          first = λ w is. inl (same w is);
        },
        (none_left k same).0,
      ),
      (h.1.nothing ∙ sym (score-none softs (codeword_of e).start (codeword_of e) refl h.1.none), tt),
    ) where
      none_left : (k : ℕ) → ((w : Codeword) → Into ends 0 (low_bits 8 t) w → w ≡ codeword_of e) →
          Lists softs (After (score_of softs) (codeword_of e) (Into ends 0 (low_bits 8 t))) k []
      none_left zero same = (tt, tt)
      none_left (suc k) same = (
        λ w a. not_self (score_of softs) (codeword_of e)
            (subst (λ (v : Codeword). IsBetter (score_of softs) (codeword_of e) v) (same w a.0) a.1),
        tt,
      )

pub listed_start : (softs : List ℤ) (ends : Ends) (k : ℕ) (column : List (List Entry)) → 0 < k →
    ((t : ℕ) → t < 256 → EntriesStart ends t (get_or column t [])) → Listed softs ends k 0 column
listed_start softs ends zero column some each t h = absurd (omega (arith, some))
listed_start softs ends (suc k) column some each t h = start_lists softs ends k t (get_or column t []) (each t h)

-- AFTER THE LAST BIT
none_below : (softs : List ℤ) (ends : Ends) (n k : ℕ) → Lists softs (IntoBelow ends n 0) k []
none_below softs ends n zero = (tt, tt)
none_below softs ends n (suc k) = (λ w p. let b = p.below in omega (arith, b), tt)

-- The merge of the first states' lists is a list of the first codewords into any of these states,
-- by induction over their count: one state more is merged in, and at a tie codewords into lower
-- states come first.
pub first_lists_lists : (softs : List ℤ) (ends : Ends) (k n : ℕ) (column : List (List Entry))
    (count : ℕ) → count ≤ 256 → Listed softs ends k n column →
    Lists softs (IntoBelow ends n count) k (first_lists column k count)
unfolding first_lists
first_lists_lists softs ends k n column zero most listed = none_below softs ends n k
first_lists_lists softs ends k n column (suc count) most listed =
    let before = first_lists_lists softs ends k n column count (omega (arith, most)) listed in
    let here = listed count (omega (arith, most)) in
    same_lists softs _ (IntoBelow ends n (suc count)) k _ (more_below ends n count) (below_or_last ends n count)
    (merge_lists softs (IntoBelow ends n count) (Into ends n (low_bits 8 count)) k k k _ _
    (omega arith) (omega arith) (below_first ends n count (omega (arith, most))) before here)

pub ends_lists : (softs : List ℤ) (ends : Ends) (k n : ℕ) (es : List Entry) → 8 ≤ n →
    Lists softs (IntoBelow ends n (end_count ends)) k es → Lists softs (IsAllowed ends n) k es
ends_lists softs ends k n es long h = same_lists softs (IntoBelow ends n (end_count ends))
    (IsAllowed ends n) k es (λ w p. into_allowed ends n w long p) (λ w p. allowed_into ends n w long p) h
