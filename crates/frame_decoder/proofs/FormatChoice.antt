-- The choice among candidates, where one frame is above all others or none is good.
use Rattle.frame_decoder.proofs.Common.{◌≡◌, ℕ, ◌+◌, ◌<◌, ◌≤◌, drop, ◌⊎◌, inl, ⊎_elim, Bool, true, false, List, [], ◌∷◌, ◌++◌, length, map}
use Rattle.frame_decoder.proofs.Common.{take, get_or, refl, sym, ap, ◌∙◌, arith, ℤ, pos, ◌<ℤ◌, if◌then◌else◌, int_lt, cond, All, Option}
use Rattle.frame_decoder.proofs.Common.{None, Some, find, option_map, ints, at_drop_more, drop_all, All-head, All-tail, Codeword, better}
use Rattle.frame_decoder.proofs.Common.{FrameFormat, DecodedFrame, preferred, rising_choice, not_good, good_or, frame_in, is_right}
use Rattle.frame_decoder.proofs.Common.{score_in, codeword_in, candidate_of, candidate_in, shown_of, frame_of, unreplaced}
use Rattle.frame_decoder.proofs.ShownSymbols.{lt_true, le_false}

-- ---- what is so of a candidate, if there is one
abbrev pub IsOf : {R : Type 0} → (DecodedFrame R → Type 0) → Option (DecodedFrame R) → Type 0
IsOf P None = Unit {0}
IsOf P (Some e) = P e

pub either_of : {R : Type 0} (P : DecodedFrame R → Type 0) (x y : DecodedFrame R) (b : Bool) → P x → P y →
    P (if b then y else x)
either_of P x y true p q = q
either_of P x y false p q = p

pub preferred_of : {R : Type 0} (P : DecodedFrame R → Type 0) (x y : Option (DecodedFrame R)) → IsOf P x →
    IsOf P y → IsOf P (preferred x y)
preferred_of P None y p q = q
preferred_of P (Some x) None p q = p
preferred_of P (Some x) (Some y) p q = either_of P x y (int_lt x.score y.score) p q

pub found_of : {R : Type 0} (P : DecodedFrame R → Type 0) (g : Codeword → DecodedFrame R) (w : Codeword)
    (found : Option Codeword) (passes : Bool) → P (g w) → IsOf P (option_map g found) →
    IsOf P (option_map g (cond passes (Some w) found))
found_of P g w found true p q = p
found_of P g w found false p q = q

-- ---- one frame above all others
-- a frame is this one, or has a lesser score
abbrev pub Below : {R : Type 0} → DecodedFrame R → DecodedFrame R → Type 0
Below d e = (e ≡ d) ⊎ (e.score <ℤ d.score)

-- a candidate, if there is one, is this one or has a lesser score
abbrev pub IsBelow : {R : Type 0} → DecodedFrame R → Option (DecodedFrame R) → Type 0
IsBelow d = IsOf (Below d)

keeps : {R : Type 0} (d y : DecodedFrame R) → Below d y → better d y ≡ d
keeps {R} d y h = ⊎_elim
    (λ (e : y ≡ d).
    let s : y.score ≡ d.score = ap (λ (x : DecodedFrame R). x.score) e in
    let f : int_lt d.score y.score ≡ false = le_false d.score y.score (omega (arith, ints, s)) in
    ap (λ (b : Bool). if b then y else d) f)
    (λ (l : y.score <ℤ d.score).
    let f : int_lt d.score y.score ≡ false = le_false d.score y.score (omega (arith, ints, l)) in
    ap (λ (b : Bool). if b then y else d) f) h

gives_way : {R : Type 0} (d x : DecodedFrame R) → Below d x → better x d ≡ d
gives_way {R} d x h = ⊎_elim (λ (e : x ≡ d). ap (λ (y : DecodedFrame R). better y d) e ∙ keeps d d (inl refl))
    (λ (l : x.score <ℤ d.score).
    ap (λ (b : Bool). if b then d else x) (lt_true x.score d.score l)) h

takes : {R : Type 0} (d : DecodedFrame R) (y : Option (DecodedFrame R)) → IsBelow d y → preferred (Some d) y ≡ Some d
takes d None h = refl
takes d (Some y) h = ap Some (keeps d y h)

passes : {R : Type 0} (d : DecodedFrame R) (x : Option (DecodedFrame R)) → IsBelow d x → preferred x (Some d) ≡ Some d
passes d None h = refl
passes d (Some x) h = ap Some (gives_way d x h)

kept_rising : {R : Type 0} (d : DecodedFrame R) (f : R → Option (DecodedFrame R)) (rates : List R)
    (best : Option (DecodedFrame R)) → ((r : R) → IsBelow d (f r)) → best ≡ Some d →
    rising_choice best (map f rates) ≡ Some d
kept_rising d f [] best each is = is
kept_rising {R} d f (r ∷ rates) best each is =
    kept_rising d f rates (preferred (f r) best) each
    (ap (λ (c : Option (DecodedFrame R)). preferred (f r) c) is ∙ passes d (f r) (each r))

taken_rising : {R : Type 0} (d : DecodedFrame R) (f : R → Option (DecodedFrame R)) (before : List R)
    (rate : R) (after : List R) (best : Option (DecodedFrame R)) → ((r : R) → IsBelow d (f r)) →
    f rate ≡ Some d → IsBelow d best → rising_choice best (map f (before ++ rate ∷ after)) ≡ Some d
taken_rising {R} d f [] rate after best each is low =
    kept_rising d f after (preferred (f rate) best) each
    (ap (λ (c : Option (DecodedFrame R)). preferred c best) is ∙ takes d best low)
taken_rising d f (r ∷ before) rate after best each is low =
    taken_rising d f before rate after (preferred (f r) best) each is (preferred_of (Below d) (f r) best (each r) low)

-- the formats of a set's rates, the highest after the others
pub rising_rates : {R : Type 0} (f : FrameFormat R → Option (DecodedFrame R)) (format_of : R → FrameFormat R)
    (lower : List R) (highest : R) (best : Option (DecodedFrame R)) →
    rising_choice best (map (λ r. f (format_of r)) (lower ++ highest ∷ []))
    ≡ preferred (f (format_of highest)) (rising_choice best (map f (map format_of lower)))
rising_rates f format_of [] highest best = refl
rising_rates f format_of (r ∷ lower) highest best =
    rising_rates f format_of lower highest (preferred (f (format_of r)) best)

-- a rate among those of a set
pub record IsAmong {R : Type 0} (rate : R) (rates : List R) : Type 0 where
  pub before : List R
  pub after : List R
  pub parted : before ++ rate ∷ after ≡ rates

-- so the frame is chosen, whose rate is one of the set's
pub chosen_is : {R : Type 0} (d : DecodedFrame R) (f : R → Option (DecodedFrame R)) (rate : R)
    (rates : List R) → IsAmong rate rates → ((r : R) → IsBelow d (f r)) → f rate ≡ Some d →
    rising_choice None (map f rates) ≡ Some d
chosen_is {R} d f rate rates among each is =
    ap (λ (rs : List R). rising_choice None (map f rs)) (sym among.parted)
    ∙ taken_rising d f among.before rate among.after None each is tt

-- ---- a format's candidate among some codewords
pub candidate_below : {R : Type 0} (d : DecodedFrame R) (softs : List ℤ) (format : FrameFormat R)
    (ws : List Codeword) → All (λ w. Below d (frame_in format w.bits (score_in softs format w))) ws →
    IsBelow d (candidate_of softs format ws)
candidate_below d softs format [] h = tt
candidate_below {R} d softs format (w ∷ ws) h =
    let g : Codeword → DecodedFrame R = λ v. frame_in format v.bits (score_in softs format v) in
    let low : Codeword → Type 0 = λ v. Below d (g v) in
    found_of (Below d) g w (find (λ v. is_right format v.bits) ws) (is_right format w.bits) (All-head low w ws h)
    (candidate_below d softs format ws (All-tail low w ws h))

pub no_first : {A : Type 0} {B : Type 0} (x : A) → [] ≡ x ∷ [] → B
no_first {A} x e = let long = ap (λ (xs : List A). length xs) e in absurd (omega (arith, long))

pub first_found : (test : Codeword → Bool) (ws : List Codeword) (w : Codeword) → take 1 ws ≡ w ∷ [] →
    test w ≡ true → find test ws ≡ Some w
first_found test [] w e passes = no_first w e
first_found test (v ∷ vs) w e passes =
    let same : v ≡ w = ap (λ (us : List Codeword). get_or us 0 w) e in
    ap (λ (b : Bool). cond b (Some v) (find test vs)) (ap test same ∙ passes) ∙ ap Some same

-- the code's candidate is that of the best codeword
either_codeword : {R : Type 0} (g : Codeword → DecodedFrame R) (w : Codeword) (right : Bool) →
    (if right then Some (g w) else None) ≡ option_map g (cond right (Some w) None)
either_codeword g w true = refl
either_codeword g w false = refl

pub candidate_is : {R : Type 0} (softs : List ℤ) (format : FrameFormat R) (bits : List Bool) (score : ℤ)
    (found : Option (DecodedFrame R)) → bits ≡ (codeword_in softs format).bits →
    score ≡ score_in softs format (codeword_in softs format) →
    found ≡ (if is_right format bits then Some (frame_in format bits score) else None) →
    found ≡ candidate_in softs format
candidate_is {R} softs format bits score found b s is =
    let w = codeword_in softs format in
    is
    ∙ ap (λ (bs : List Bool). if is_right format bs then Some (frame_in format bs score) else None) b
    ∙ ap (λ (z : ℤ). if is_right format w.bits then Some (frame_in format w.bits z) else None) s
    ∙ either_codeword (λ v. frame_in format v.bits (score_in softs format v)) w (is_right format w.bits)

-- one format more, from the lowest up
pub rising_more : {R : Type 0} (f : FrameFormat R → Option (DecodedFrame R)) (formats : List (FrameFormat R)) (k : ℕ)
    (format : FrameFormat R) (all best next found : Option (DecodedFrame R)) → k < length formats →
    format ≡ get_or formats k format → found ≡ f format → next ≡ preferred found best →
    all ≡ rising_choice best (map f (drop k formats)) → all ≡ rising_choice next (map f (drop (k + 1) formats))
rising_more {R} f formats k format all best next found within at is chosen had =
    let rest : List (Option (DecodedFrame R)) = map f (drop (k + 1) formats) in
    had
    ∙ at_drop_more (λ (rs : List (FrameFormat R)). rising_choice best (map f rs)) formats k format within
    ∙ ap (λ (r : FrameFormat R). rising_choice (preferred (f r) best) rest) (sym at)
    ∙ ap (λ (c : Option (DecodedFrame R)). rising_choice (preferred c best) rest) (sym is)
    ∙ ap (λ (c : Option (DecodedFrame R)). rising_choice c rest) (sym chosen)

pub rising_end : {R : Type 0} (f : FrameFormat R → Option (DecodedFrame R)) (formats : List (FrameFormat R)) (k : ℕ)
    (all best : Option (DecodedFrame R)) → length formats ≤ k →
    all ≡ rising_choice best (map f (drop k formats)) → best ≡ all
rising_end {R} f formats k all best past had =
    sym (had ∙ ap (λ (rs : List (FrameFormat R)). rising_choice best (map f rs)) (drop_all k formats past))

-- the code's frame is the definition's
pub frame_is : {R : Type 0} (highest : FrameFormat R) (lower : List (FrameFormat R)) (replaced : List ℕ)
    (softs kept : List ℤ) (bits : List Bool) (score : ℤ) (best found chosen : Option (DecodedFrame R))
    (out : DecodedFrame R) → kept ≡ unreplaced replaced softs →
    best ≡ rising_choice None (map (candidate_in kept) lower) → bits ≡ (codeword_in kept highest).bits →
    score ≡ score_in kept highest (codeword_in kept highest) → found ≡ candidate_in kept highest →
    chosen ≡ preferred found best → out ≡ good_or highest bits score chosen →
    out ≡ frame_of highest lower replaced softs
unfolding frame_of
frame_is {R} highest lower replaced softs kept bits score best found chosen out k l b s f c o =
    let codeword = codeword_in kept highest in
    let below : Option (DecodedFrame R) = rising_choice None (map (candidate_in kept) lower) in
    let all : Option (DecodedFrame R) = preferred (candidate_in kept highest) below in
    o
    ∙ ap (good_or highest bits score)
    (c ∙ ap (λ (d : Option (DecodedFrame R)). preferred d best) f
    ∙ ap (λ (d : Option (DecodedFrame R)). preferred (candidate_in kept highest) d) l)
    ∙ ap (λ (bs : List Bool). good_or highest bs score all) b
    ∙ ap (λ (z : ℤ). good_or highest codeword.bits z all) s
    ∙ ap (shown_of highest lower) k

-- ---- no frame is good
-- a frame that isn't good, with a score of 0
pub record IsSilent {R : Type 0} (d : DecodedFrame R) : Type 0 where
  pub bad : d.good ≡ false
  pub none : d.score ≡ pos 0

silent_format : {R : Type 0} (softs : List ℤ) (format : FrameFormat R) (w : Codeword) →
    score_in softs format w ≡ pos 0 → IsOf IsSilent (candidate_of softs format (w ∷ []))
silent_format {R} softs format w e =
    let g : Codeword → DecodedFrame R = λ v. frame_in format v.bits (score_in softs format v) in
    found_of IsSilent g w None (is_right format w.bits) (record { bad = ap (int_lt (pos 0)) e; none = e }) tt

-- where each format's codeword has a score of 0 no candidate is good
pub rising_silent : {R : Type 0} (softs : List ℤ) (codewords : FrameFormat R → Codeword) (formats : List (FrameFormat R))
    (best : Option (DecodedFrame R)) → ((format : FrameFormat R) → score_in softs format (codewords format) ≡ pos 0) →
    IsOf IsSilent best →
    IsOf IsSilent (rising_choice best (map (λ format. candidate_of softs format (codewords format ∷ [])) formats))
rising_silent softs codewords [] best each low = low
rising_silent softs codewords (format ∷ formats) best each low =
    let c = candidate_of softs format (codewords format ∷ []) in
    rising_silent softs codewords formats (preferred c best) each
    (preferred_of IsSilent c best (silent_format softs format (codewords format) (each format)) low)

silent_or : {R : Type 0} (format : FrameFormat R) (bits : List Bool) (score : ℤ) (best : Option (DecodedFrame R)) →
    score ≡ pos 0 → IsOf IsSilent best → good_or format bits score best ≡ not_good format bits (pos 0)
silent_or format bits score None e h = ap (not_good format bits) e
silent_or format bits score (Some d) e h =
    ap (λ (b : Bool). if b then d else not_good format bits d.score) h.bad
    ∙ ap (not_good format bits) h.none

-- with the highest rate's format above the others
pub silent_shown : {R : Type 0} (softs : List ℤ) (codewords : FrameFormat R → Codeword) (highest : FrameFormat R)
    (formats : List (FrameFormat R)) → ((format : FrameFormat R) → score_in softs format (codewords format) ≡ pos 0) →
    let codeword = codewords highest in
    good_or highest codeword.bits (score_in softs highest codeword)
    (preferred (candidate_of softs highest (codeword ∷ []))
    (rising_choice None (map (λ format. candidate_of softs format (codewords format ∷ [])) formats)))
    ≡ not_good highest codeword.bits (pos 0)
silent_shown softs codewords highest formats each =
    let codeword = codewords highest in
    let lower = rising_choice None (map (λ format. candidate_of softs format (codewords format ∷ [])) formats) in
    silent_or highest codeword.bits (score_in softs highest codeword)
    (preferred (candidate_of softs highest (codeword ∷ [])) lower) (each highest)
    (preferred_of IsSilent (candidate_of softs highest (codeword ∷ [])) lower
    (silent_format softs highest codeword (each highest)) (rising_silent softs codewords formats None each tt))
