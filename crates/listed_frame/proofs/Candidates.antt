-- The candidates of the formats.
use Rattle.listed_frame.proofs.Common.{◌≡◌, ℕ, ◌<◌, Bool, true, false, List, [], ◌∷◌, length, map, take, get_or, refl, sym, ap, subst, ◌∙◌}
use Rattle.listed_frame.proofs.Common.{arith, ℤ, Option, None, Some, cond, All, slice_get, find, Rate, Codeword, FrameFormat, DecodedFrame}
use Rattle.listed_frame.proofs.Common.{bits_in, score_in, codeword_in, is_right, frame_in, candidate_of, codeword_of, Entry, codewords_in}
use Rattle.std.specs.Option.{option_map, unwrap_or}
use Rattle.std.proofs.lemmas.List.Elements.{All-head, All-tail}
use Rattle.listed_frame.proofs.FirstCodewords.{best_first}

-- ---- from the listed codewords to the definition's
-- the first of the listed codewords whose quality indicator is right, as a frame
abbrev pub listed_candidate : FrameFormat Rate → List Entry → Option (DecodedFrame Rate)
listed_candidate format entries =
    option_map (λ e. frame_in format e.word.bits e.score) (find (λ e. is_right format e.word.bits) entries)

one_more : (softs : List ℤ) (format : FrameFormat Rate) (e : Entry) (found : Option Entry)
    (right : Option Codeword) (passes : Bool) → e.score ≡ score_in softs format (codeword_of e) →
    option_map (λ f. frame_in format f.word.bits f.score) found
    ≡ option_map (λ w. frame_in format w.bits (score_in softs format w)) right →
    option_map (λ f. frame_in format f.word.bits f.score) (cond passes (Some e) found)
    ≡ option_map (λ w. frame_in format w.bits (score_in softs format w)) (cond passes (Some (codeword_of e)) right)
one_more softs format e found right true score rest = ap (λ (z : ℤ). Some (frame_in format e.word.bits z)) score
one_more softs format e found right false score rest = rest

candidate_among : (softs : List ℤ) (format : FrameFormat Rate) (entries : List Entry) →
    All (λ e. e.score ≡ score_in softs format (codeword_of e)) entries →
    listed_candidate format entries ≡ candidate_of softs format (map codeword_of entries)
candidate_among softs format [] h = refl
candidate_among softs format (e ∷ es) h =
    let scored : Entry → Type 0 = λ f. f.score ≡ score_in softs format (codeword_of f) in
    one_more softs format e (find (λ f. is_right format f.word.bits) es)
    (find (λ w. is_right format w.bits) (map codeword_of es)) (is_right format e.word.bits)
    (All-head scored e es h) (candidate_among softs format es (All-tail scored e es h))

pub candidate_is : (k : ℕ) (softs : List ℤ) (format : FrameFormat Rate) (entries : List Entry) →
    map codeword_of entries ≡ codewords_in k softs format →
    All (λ e. e.score ≡ score_in softs format (codeword_of e)) entries →
    listed_candidate format entries ≡ candidate_of softs format (codewords_in k softs format)
candidate_is k softs format entries codewords scores =
    candidate_among softs format entries scores
    ∙ ap (λ (ws : List Codeword). candidate_of softs format ws) codewords

-- the first of them is the best codeword
no_entry : {A : Type 0} (e : Entry) → None ≡ Some e → A
no_entry e is = absurd (grind (arith, is))

pub first_bits : (format : FrameFormat Rate) (entries : List Entry) (e : Entry) →
    All (λ f. length f.word.bits ≡ bits_in format) entries → slice_get entries 0 ≡ Some e →
    length e.word.bits ≡ bits_in format
first_bits format [] e h is = no_entry e is
first_bits format (x ∷ xs) e h is =
    let long : Entry → Type 0 = λ f. length f.word.bits ≡ bits_in format in
    subst long (ap (λ (o : Option Entry). unwrap_or o e) is) (All-head long x xs h)

pub best_bits : (k : ℕ) (softs : List ℤ) (format : FrameFormat Rate) (entries : List Entry) (e : Entry) →
    0 < k → map codeword_of entries ≡ codewords_in k softs format → slice_get entries 0 ≡ Some e →
    codeword_of e ≡ codeword_in softs format
best_bits k softs format [] e some codewords is = no_entry e is
best_bits k softs format (x ∷ xs) e some codewords is =
    let same : x ≡ e = ap (λ (o : Option Entry). unwrap_or o e) is in
    let first : codeword_of x ∷ [] ≡ codeword_in softs format ∷ [] =
    ap (take 1) codewords ∙ best_first k softs format some in
    ap codeword_of (sym same) ∙ ap (λ (ws : List Codeword). get_or ws 0 (codeword_of x)) first

-- with its score
pub best_score : (softs : List ℤ) (format : FrameFormat Rate) (entries : List Entry) (e : Entry) →
    All (λ f. f.score ≡ score_in softs format (codeword_of f)) entries → slice_get entries 0 ≡ Some e →
    e.score ≡ score_in softs format (codeword_of e)
best_score softs format [] e h is = no_entry e is
best_score softs format (x ∷ xs) e h is =
    let scored : Entry → Type 0 = λ f. f.score ≡ score_in softs format (codeword_of f) in
    subst scored (ap (λ (o : Option Entry). unwrap_or o e) is) (All-head scored x xs h)
