-- The merge of the first codewords of two kinds, and one bit more.
use Rattle.list_viterbi.proofs.Common.{◌≡◌, ℕ, zero, suc, ◌<◌, ◌≤◌, Bool, true, false, List, [], ◌∷◌, ◌++◌, length, map, refl, sym, ap, ◌∙◌}
use Rattle.list_viterbi.proofs.Common.{subst, arith, ℤ, ◌+ℤ◌, ◌<ℤ◌, ◌≤ℤ◌, ◌⊎◌, ⊎_elim, inl, inr, int_lt, if◌then◌else◌, tested, untested}
use Rattle.list_viterbi.proofs.Common.{Codeword, rank, score_of, IsBetter, pushed, Either, IsPushed, leads_both, rank_of-pushed, Entry}
use Rattle.list_viterbi.proofs.Common.{stays_first, codeword_of, entry_score, entry_extended_by, merge}
use Rattle.list_viterbi.proofs.Firsts.{After, IsHead, Firsts, same_firsts, better_trans, not_self}

-- each entry has its codeword's score
abbrev pub Scored : List ℤ → List Entry → Type 0
Scored softs [] = Unit {0}
Scored softs (e ∷ es) = (e.score ≡ score_of softs (codeword_of e)) × Scored softs es

-- the entries of the first k codewords of a kind
abbrev pub Lists : List ℤ → (Codeword → Type 0) → ℕ → List Entry → Type 0
Lists softs Kind k es = Firsts (score_of softs) Kind k (map codeword_of es) × Scored softs es

pub same_lists : (softs : List ℤ) (Kind Kind' : Codeword → Type 0) (k : ℕ) (es : List Entry) →
    ((w : Codeword) → Kind w → Kind' w) → ((w : Codeword) → Kind' w → Kind w) → Lists softs Kind k es →
    Lists softs Kind' k es
same_lists softs Kind Kind' k es to back h =
    (same_firsts (score_of softs) Kind Kind' k (map codeword_of es) to back h.0, h.1)

-- better than the first of a kind, so than all of it
before_all : (score : Codeword → ℤ) (w u v : Codeword) → IsBetter score w u → (v ≡ u) ⊎ IsBetter score u v →
    IsBetter score w v
before_all score w u v better h = ⊎_elim (λ e. subst (IsBetter score w) (sym e) better)
    (λ b. better_trans score w u v better b) h

abbrev pub ComeBefore : (Codeword → Type 0) → (Codeword → Type 0) → Type 0
ComeBefore One Two = (w v : Codeword) → One w → Two v → rank w < rank v

-- the next codeword is the first list's
takes_first : (softs : List ℤ) (One Two : Codeword → Type 0) (k : ℕ) (x : Entry) (rest : List Entry) →
    IsHead (score_of softs) One (codeword_of x) → x.score ≡ score_of softs (codeword_of x) →
    ((v : Codeword) → Two v → IsBetter (score_of softs) (codeword_of x) v) →
    Lists softs (Either (After (score_of softs) (codeword_of x) One) Two) k rest →
    Lists softs (Either One Two) (suc k) (x ∷ rest)
takes_first softs One Two k x rest head scored others h =
    let score : Codeword → ℤ = score_of softs in
    let a = codeword_of x in (
      (
        record {
          kind = inl head.kind;
          first =
              λ v e. ⊎_elim (head.first v) (λ t. inr (others v t)) e;
        },
        same_firsts score (Either (After score a One) Two) (After score a (Either One Two)) k (map codeword_of rest)
            (λ v e. ⊎_elim (λ o. (inl o.0, o.1)) (λ t. (inr t, others v t)) e)
            (λ v e. ⊎_elim (λ o. inl (o, e.1)) (λ t. inr t) e.0)
            h.0,
      ),
      (scored, h.1),
    )

-- the next codeword is the second list's
takes_second : (softs : List ℤ) (One Two : Codeword → Type 0) (k : ℕ) (y : Entry) (rest : List Entry) →
    IsHead (score_of softs) Two (codeword_of y) → y.score ≡ score_of softs (codeword_of y) →
    ((v : Codeword) → One v → IsBetter (score_of softs) (codeword_of y) v) →
    Lists softs (Either One (After (score_of softs) (codeword_of y) Two)) k rest →
    Lists softs (Either One Two) (suc k) (y ∷ rest)
takes_second softs One Two k y rest head scored others h =
    let score : Codeword → ℤ = score_of softs in
    let b = codeword_of y in (
      (
        record {
          kind = inr head.kind;
          first =
              λ v e. ⊎_elim (λ o. inr (others v o)) (head.first v) e;
        },
        same_firsts score (Either One (After score b Two)) (After score b (Either One Two)) k (map codeword_of rest)
            (λ v e. ⊎_elim (λ o. (inl o, others v o)) (λ t. (inr t.0, t.1)) e)
            (λ v e. ⊎_elim (λ o. inl o) (λ t. inr (t, e.1)) e.0)
            h.0,
      ),
      (scored, h.1),
    )

takes : (softs : List ℤ) (One Two : Codeword → Type 0) (k : ℕ) (x y : Entry) (left right : List Entry)
    (t : Bool) → int_lt x.score y.score ≡ t → ComeBefore One Two →
    IsHead (score_of softs) One (codeword_of x) → x.score ≡ score_of softs (codeword_of x) →
    IsHead (score_of softs) Two (codeword_of y) → y.score ≡ score_of softs (codeword_of y) →
    Lists softs (Either (After (score_of softs) (codeword_of x) One) Two) k left →
    Lists softs (Either One (After (score_of softs) (codeword_of y) Two)) k right →
    Lists softs (Either One Two) (suc k) (if t then y ∷ right else x ∷ left)
takes softs One Two k x y left right true e order p p_score q q_score l r =
    let score : Codeword → ℤ = score_of softs in
    let more : score (codeword_of x) <ℤ score (codeword_of y) = rw (← p_score, ← q_score) (tested x.score y.score e) in
    takes_second softs One Two k y right q q_score
    (λ v o. before_all score (codeword_of y) (codeword_of x) v (inl more) (p.first v o)) r
takes softs One Two k x y left right false e order p p_score q q_score l r =
    let score : Codeword → ℤ = score_of softs in
    let less : score (codeword_of y) ≤ℤ score (codeword_of x) =
    rw (← p_score, ← q_score) (untested x.score y.score e) in
    let better : IsBetter score (codeword_of x) (codeword_of y) =
    stays_first (score (codeword_of x)) (score (codeword_of y)) less
    (order (codeword_of x) (codeword_of y) p.kind q.kind) in
    takes_first softs One Two k x left p p_score
    (λ v o. before_all score (codeword_of x) (codeword_of y) v better (q.first v o)) l

-- Codewords of the first kind come before those of the second where their scores are the same. So the
-- merge of the first codewords of both kinds has the first codewords of either kind.
pub merge_lists : (softs : List ℤ) (One Two : Codeword → Type 0) (k m n : ℕ) (xs ys : List Entry) →
    k ≤ m → k ≤ n → ComeBefore One Two → Lists softs One m xs → Lists softs Two n ys →
    Lists softs (Either One Two) k (merge entry_score k xs ys)
unfolding merge
merge_lists softs One Two zero m n xs ys km kn order p q = (tt, tt)
merge_lists softs One Two (suc k) zero n xs ys km kn order p q = absurd (omega (arith, km))
merge_lists softs One Two (suc k) (suc m) zero xs ys km kn order p q = absurd (omega (arith, kn))
merge_lists softs One Two (suc k) (suc m) (suc n) [] [] km kn order p q = (λ w e. ⊎_elim (p.0 w) (q.0 w) e, tt)
merge_lists softs One Two (suc k) (suc m) (suc n) [] (y ∷ ys) km kn order p q =
    takes_second softs One Two k y (merge entry_score k [] ys) q.0.0 q.1.0 (λ v o. absurd (p.0 v o))
    (merge_lists softs One (After (score_of softs) (codeword_of y) Two) k (suc m) n [] ys
    (omega (arith, km)) (omega (arith, kn)) (λ w v o t. order w v o t.0) p (q.0.1, q.1.1))
merge_lists softs One Two (suc k) (suc m) (suc n) (x ∷ xs) [] km kn order p q =
    takes_first softs One Two k x (merge entry_score k xs []) p.0.0 p.1.0 (λ v t. absurd (q.0 v t))
    (merge_lists softs (After (score_of softs) (codeword_of x) One) Two k m (suc n) xs []
    (omega (arith, km)) (omega (arith, kn)) (λ w v o t. order w v o.0 t) (p.0.1, p.1.1) q)
merge_lists softs One Two (suc k) (suc m) (suc n) (x ∷ xs) (y ∷ ys) km kn order p q =
    takes softs One Two k x y (merge entry_score k xs (y ∷ ys)) (merge entry_score k (x ∷ xs) ys)
    (int_lt x.score y.score) refl order p.0.0 p.1.0 q.0.0 q.1.0
    (merge_lists softs (After (score_of softs) (codeword_of x) One) Two k m (suc n) xs (y ∷ ys)
    (omega (arith, km)) (omega (arith, kn)) (λ w v o t. order w v o.0 t) (p.0.1, p.1.1) q)
    (merge_lists softs One (After (score_of softs) (codeword_of y) Two) k (suc m) n (x ∷ xs) ys
    (omega (arith, km)) (omega (arith, kn)) (λ w v o t. order w v o t.0) p (q.0.1, q.1.1))

-- ONE BIT MORE
-- what a bit adds is the same for codewords of one kind, so their order stays
pushed_better : (score : Codeword → ℤ) (bit : Bool) (gain : ℤ) (long : ℕ) (a v : Codeword) →
    score (pushed a bit) ≡ score a +ℤ gain → score (pushed v bit) ≡ score v +ℤ gain →
    length (a.start ++ a.bits) ≡ long → length (v.start ++ v.bits) ≡ long →
    IsBetter score a v → IsBetter score (pushed a bit) (pushed v bit)
pushed_better score bit gain long a v ga gv la lv h =
    let ranks : rank a < rank v → rank (pushed a bit) < rank (pushed v bit) =
    λ r. rw (rank_of-pushed a bit long la, rank_of-pushed v bit long lv) (omega (arith, r)) in
    leads_both (score a) (score v) (score (pushed a bit)) (score (pushed v bit)) gain ga gv ranks h

-- A list of the first codewords of a kind stays one where each gets the same bit at its end, by
-- induction over the list: the bit adds the same to all of their scores and their lengths are
-- equal, so their order stays.
pub extended_lists : (softs : List ℤ) (Kind : Codeword → Type 0) (bit : Bool) (gain : ℤ) (long k : ℕ)
    (es : List Entry) → ((w : Codeword) → Kind w → score_of softs (pushed w bit) ≡ score_of softs w +ℤ gain) →
    ((w : Codeword) → Kind w → length (w.start ++ w.bits) ≡ long) →
    Lists softs Kind k es → Lists softs (IsPushed Kind bit) k (map (entry_extended_by bit gain) es)
extended_lists softs Kind bit gain long zero [] gains longs h = (tt, tt)
extended_lists softs Kind bit gain long (suc k) [] gains longs h = (λ w p. h.0 p.before p.kind, tt)
extended_lists softs Kind bit gain long zero (e ∷ es) gains longs h = absurd h.0
extended_lists softs Kind bit gain long (suc k) (e ∷ es) gains longs h =
    let score : Codeword → ℤ = score_of softs in
    let a = codeword_of e in
    let head = h.0.0 in
    let rest = extended_lists softs (After score a Kind) bit gain long k es (λ w p. gains w p.0)
    (λ w p. longs w p.0) (h.0.1, h.1.1) in
    let later : (v : Codeword) → Kind v → IsBetter score a v →
    IsBetter score (pushed a bit) (pushed v bit) =
    λ v p better. pushed_better score bit gain long a v (gains a head.kind) (gains v p)
    (longs a head.kind) (longs v p) better in (
      (
        record {
          kind = record { before = a; kind = head.kind; is = refl };
          first = λ v p. ⊎_elim (λ same. inl (p.is ∙ ap (λ (u : Codeword). pushed u bit) same))
              (λ better. inr (subst (IsBetter score (pushed a bit)) (sym p.is) (later p.before p.kind better)))
              (head.first p.before p.kind);
        },
        same_firsts score (IsPushed (After score a Kind) bit) (After score (pushed a bit) (IsPushed Kind bit)) k
            (map codeword_of (map (entry_extended_by bit gain) es))
            (λ v p. (
              record { before = p.before; kind = p.kind.0; is = p.is },
              subst (IsBetter score (pushed a bit)) (sym p.is) (later p.before p.kind.0 p.kind.1),
            ))
            (λ v p. ⊎_elim
            (λ same. absurd
            (not_self score (pushed a bit) (subst (IsBetter score (pushed a bit)) (p.0.is
            ∙ ap (λ (u : Codeword). pushed u bit) same) p.1)))
            (λ better. record { before = p.0.before; kind = (p.0.kind, better); is = p.0.is })
            (head.first p.0.before p.0.kind))
            rest.0,
      ),
      (ap (λ (z : ℤ). z +ℤ gain) h.1.0 ∙ sym (gains a head.kind), rest.1),
    )
