-- The first codewords of a format, and that the best codeword is the first of them.
use Rattle.listed_frame.proofs.Common.{◌≡◌, ℕ, zero, suc, ◌-◌, ◌/◌, ◌<◌, ◌≤◌, Bool, true, false, List, [], ◌∷◌, ◌++◌, length, map, take, ap}
use Rattle.listed_frame.proofs.Common.{get_or, refl, sym, subst, ◌∙◌, arith, ℤ, Option, None, Some, if◌then◌else◌, nat_eq, nat_lt, All}
use Rattle.listed_frame.proofs.Common.{list_any, Rate, Codeword, score_of, codeword_count, codeword_at, best_codeword, FrameFormat, bits_in}
use Rattle.listed_frame.proofs.Common.{IsFormat, score_in, codeword_in, gathered_in, bits_least, gathered_score, length-gathered_in, Entry}
use Rattle.listed_frame.proofs.Common.{AreFirst, HaveScores, first_codewords, codeword_of, codewords_in}
use Rattle.std.proofs.lemmas.List.{take-map, get_or-map, length-map}
use Rattle.std.proofs.lemmas.Nat.{pow_pos}
use Rattle.chip_core.specs.Sums.{value_unless, is_less, greatest_unless, first_places, first_greatest}
use Rattle.viterbi.specs.Best.{IsAllowed}
use Rattle.viterbi.specs.declared.codeword.Ends.TheVariants.{Zero}
use Rattle.viterbi.proofs.Unique.{codeword_at_allowed}
use Rattle.list_viterbi.proofs.Places.{by_definition}
use Rattle.chip_core.proofs.Unless.{nat_lt-true}
use Rattle.frame_decoder.proofs.FormatChoice.{no_first}

-- ---- the first places
-- values that are the same have the same first places
greatest_unless-same : (taken : List ℕ) (f g : ℕ → ℤ) (n : ℕ) → ((k : ℕ) → f k ≡ g k) →
    greatest_unless taken f n ≡ greatest_unless taken g n
unfolding greatest_unless
greatest_unless-same taken f g zero h = refl
greatest_unless-same taken f g (suc n) h =
    let b = greatest_unless taken g n in
    let value : ℕ → ℤ → Option ℤ = λ k z. if list_any (nat_eq k) taken then None else Some z in
    ap (λ (k : ℕ). if is_less (value_unless taken f k) (value_unless taken f n) then n else k)
    (greatest_unless-same taken f g n h)
    ∙ ap (λ (z : ℤ). if is_less (value b z) (value_unless taken f n) then n else b) (h b)
    ∙ ap (λ (z : ℤ). if is_less (value_unless taken g b) (value n z) then n else b) (h n)

first_places-same : (k : ℕ) (f g : ℕ → ℤ) (n : ℕ) → ((k : ℕ) → f k ≡ g k) → first_places k f n ≡ first_places k g n
unfolding first_places
first_places-same zero f g n h = refl
first_places-same (suc k) f g n h =
    let before = first_places k g n in
    ap (λ (ps : List ℕ).
    if nat_lt (length ps) n then ps ++ greatest_unless ps f n ∷ [] else ps)
    (first_places-same k f g n h)
    ∙ ap (λ (p : ℕ). if nat_lt (length before) n then before ++ p ∷ [] else before)
    (greatest_unless-same before f g n h)

-- where none is taken yet the place is that of the greatest value
none_taken : (f : ℕ → ℤ) (n : ℕ) → greatest_unless [] f n ≡ first_greatest f n
unfolding greatest_unless first_greatest
none_taken f zero = refl
none_taken f (suc n) = ap (λ (k : ℕ). if is_less (Some (f k)) (Some (f n)) then n else k) (none_taken f n)

first_place : (f : ℕ → ℤ) (n : ℕ) → 0 < n → first_places 1 f n ≡ first_greatest f n ∷ []
unfolding first_places
first_place f n some =
    ap (λ (b : Bool). if b then greatest_unless [] f n ∷ [] else []) (nat_lt-true 0 n some)
    ∙ ap (λ (p : ℕ). p ∷ []) (none_taken f n)

still_first : (b : Bool) (x p : ℕ) (before : List ℕ) → take 1 before ≡ x ∷ [] →
    take 1 (if b then before ++ p ∷ [] else before) ≡ x ∷ []
still_first false x p before e = e
still_first true x p [] e = no_first x e
still_first true x p (y ∷ ys) e = e

-- and it is the first place of any number of them
first_of_places : (k : ℕ) (f : ℕ → ℤ) (n : ℕ) → 0 < n → take 1 (first_places (suc k) f n) ≡ first_greatest f n ∷ []
unfolding first_places
first_of_places zero f n some = ap (take 1) (first_place f n some)
first_of_places (suc k) f n some =
    let before = first_places (suc k) f n in
    still_first (nat_lt (length before) n) (first_greatest f n) (greatest_unless before f n) before
    (first_of_places k f n some)

-- ---- the first codewords of a format
first_codewords-same : (f g : Codeword → ℤ) (n k : ℕ) → 8 ≤ n → ((w : Codeword) → length w.bits ≡ n → f w ≡ g w) →
    first_codewords k f Zero n ≡ first_codewords k g Zero n
first_codewords-same f g n k least h =
    ap (map (codeword_at Zero n))
    (first_places-same k (λ r. f (codeword_at Zero n r)) (λ r. g (codeword_at Zero n r)) (codeword_count Zero n)
    (λ r. h (codeword_at Zero n r) ((codeword_at_allowed Zero n r least).bits_long)))

-- Each of the first codewords is allowed, since it is the one at some number, and the codeword at
-- any number is allowed where there are at least 8 bits, which a format has.
pub codewords_allowed : (k : ℕ) (softs : List ℤ) (format : FrameFormat Rate) →
    All (IsAllowed Zero (bits_in format)) (codewords_in k softs format)
codewords_allowed k softs format = λ i d b.
    let n = bits_in format in
    let ps = first_places k (λ r. score_in softs format (codeword_at Zero n r)) (codeword_count Zero n) in
    let low : i < length ps = omega (arith, b, length-map ps (codeword_at Zero n)) in
    subst (IsAllowed Zero n) (sym (get_or-map (codeword_at Zero n) ps i 0 d low))
    (codeword_at_allowed Zero n (get_or ps i 0) (bits_least format))

-- the list of one codeword has only the best codeword
pub one_codeword : (softs : List ℤ) (format : FrameFormat Rate) → codewords_in 1 softs format ≡ codeword_in softs format ∷ []
unfolding codeword_in best_codeword
one_codeword softs format =
    let n = bits_in format in
    ap (map (codeword_at Zero n))
    (first_place (λ r. score_in softs format (codeword_at Zero n r)) (codeword_count Zero n) (pow_pos (n - 8)))

-- The best codeword is always the first of the codewords: the first of the places is that of the
-- greatest score, however many places are asked for, and the codewords are those at these places.
pub best_first : (k : ℕ) (softs : List ℤ) (format : FrameFormat Rate) → 0 < k →
    take 1 (codewords_in k softs format) ≡ codeword_in softs format ∷ []
unfolding codeword_in best_codeword
best_first zero softs format some = absurd (omega (arith, some))
best_first (suc k) softs format some =
    let n = bits_in format in
    let f : ℕ → ℤ = λ r. score_in softs format (codeword_at Zero n r) in
    take-map (codeword_at Zero n) 1 (first_places (suc k) f (codeword_count Zero n))
    ∙ ap (map (codeword_at Zero n)) (first_of_places k f (codeword_count Zero n) (pow_pos (n - 8)))

-- ---- what the list decoder finds
-- of a frame's gathered soft values
pub record AreFound (k : ℕ) (softs : List ℤ) (format : FrameFormat Rate) (entries : List Entry) : Type 0 where
  pub first : AreFirst (score_of (gathered_in format softs)) (IsAllowed Zero (bits_in format)) k
      (map codeword_of entries)
  pub scores : HaveScores (gathered_in format softs) entries

pub are_found : (k : ℕ) (softs code : List ℤ) (format : FrameFormat Rate) (entries : List Entry) →
    code ≡ gathered_in format softs →
    AreFirst (score_of code) (IsAllowed Zero (length code / 2)) k (map codeword_of entries) →
    HaveScores code entries → AreFound k softs format entries
are_found k softs code format entries is first scores =
    let values = gathered_in format softs in
    let half : length values / 2 ≡ bits_in format = omega (arith, length-gathered_in format softs) in
    record {
      first = subst (λ (n : ℕ). AreFirst (score_of values) (IsAllowed Zero n) k (map codeword_of entries)) half
          (subst
          (λ (xs : List ℤ).
          AreFirst (score_of xs) (IsAllowed Zero (length xs / 2)) k (map codeword_of entries)) is first);
      scores = subst (λ (xs : List ℤ). HaveScores xs entries) is scores;
    }

-- each has as many bits as a frame
pub found_bits : (k : ℕ) (softs : List ℤ) (format : FrameFormat Rate) (entries : List Entry) →
    AreFound k softs format entries → All (λ e. length e.word.bits ≡ bits_in format) entries
found_bits k softs format entries h = λ i d b.
    let low : i < length (map codeword_of entries) = omega (arith, b, length-map entries codeword_of) in
    let allowed = h.first.kind i (codeword_of d) low in
    subst (λ (w : Codeword). length w.bits ≡ bits_in format)
    (get_or-map codeword_of entries i d (codeword_of d) b) allowed.bits_long

-- its score is that of its symbols as they are sent
pub found_scores : (k : ℕ) (softs : List ℤ) (format : FrameFormat Rate) (entries : List Entry) → IsFormat format →
    length softs ≡ 384 → AreFound k softs format entries →
    All (λ e. e.score ≡ score_in softs format (codeword_of e)) entries
found_scores k softs format entries fills long h = λ i d b.
    h.scores i d b
    ∙ gathered_score softs format (codeword_of (get_or entries i d)) fills long
    (found_bits k softs format entries h i d b)

-- and they are the format's first codewords
pub found_codewords : (k : ℕ) (softs : List ℤ) (format : FrameFormat Rate) (entries : List Entry) → IsFormat format →
    length softs ≡ 384 → AreFound k softs format entries → map codeword_of entries ≡ codewords_in k softs format
found_codewords k softs format entries fills long h =
    let n = bits_in format in
    let values = gathered_in format softs in
    by_definition values Zero n k (map codeword_of entries) (bits_least format) h.first
    ∙ first_codewords-same (score_of values) (score_in softs format) n k (bits_least format)
    (λ w long'. gathered_score softs format w fills long long')
