-- The first codewords of a kind, one after another, and that there is one such list.
use Rattle.list_viterbi.proofs.Common.{◌≡◌, ℕ, zero, suc, ◌<◌, List, [], ◌∷◌, length, refl, sym, ap, subst, ◌∙◌, arith, get_or, ℤ, ◌⊎◌, inl}
use Rattle.list_viterbi.proofs.Common.{⊎_elim, inr, All, AllPairs, Contains, ints, All-nil, All-cons, All-head, All-tail, All-contains}
use Rattle.list_viterbi.proofs.Common.{AllPairs-cons, Codeword, rank, IsBetter, leads_trans, AreFirst}

-- THE ORDER
pub better_trans : (score : Codeword → ℤ) (a b c : Codeword) → IsBetter score a b → IsBetter score b c →
    IsBetter score a c
better_trans score a b c p q =
    let ranks : rank a < rank b → rank b < rank c → rank a < rank c = λ r r'. omega (arith, r, r') in
    leads_trans (score a) (score b) (score c) ranks p q

pub not_both : (score : Codeword → ℤ) (a b : Codeword) → IsBetter score a b → IsBetter score b a → ⊥
not_both score a b p q = ⊎_elim
    (λ less. ⊎_elim (λ less'. omega (arith, ints, less, less')) (λ tie'. let e = tie'.0 in omega (arith, ints, less, e))
    q)
    (λ tie. ⊎_elim (λ less'. let e = tie.0 in omega (arith, ints, less', e))
    (λ tie'. let r = tie.1 in let r' = tie'.1 in omega (arith, r, r'))
    q)
    p

pub not_self : (score : Codeword → ℤ) (a : Codeword) → IsBetter score a a → ⊥
not_self score a p = not_both score a a p p

-- ONE AFTER ANOTHER
-- the codewords of a kind that come after one
abbrev pub After : (Codeword → ℤ) → Codeword → (Codeword → Type 0) → Codeword → Type 0
After score w Kind v = Kind v × IsBetter score w v

-- the first codeword of a kind
pub record IsHead (score : Codeword → ℤ) (Kind : Codeword → Type 0) (w : Codeword) : Type 0 where
  pub kind : Kind w
  pub first : (v : Codeword) → Kind v → (v ≡ w) ⊎ IsBetter score w v

-- the first k codewords of a kind: the first one, and the first of those that come after it
abbrev pub Firsts : (Codeword → ℤ) → (Codeword → Type 0) → ℕ → List Codeword → Type 0
Firsts score Kind zero [] = Unit {0}
Firsts score Kind (suc k) [] = (w : Codeword) → Kind w → ⊥
Firsts score Kind zero (w ∷ ws) = ⊥
Firsts score Kind (suc k) (w ∷ ws) = IsHead score Kind w × Firsts score (After score w Kind) k ws

-- the same codewords under another name
pub same_firsts : (score : Codeword → ℤ) (Kind Kind' : Codeword → Type 0) (k : ℕ) (ws : List Codeword) →
    ((w : Codeword) → Kind w → Kind' w) → ((w : Codeword) → Kind' w → Kind w) → Firsts score Kind k ws →
    Firsts score Kind' k ws
same_firsts score Kind Kind' zero [] to back h = tt
same_firsts score Kind Kind' (suc k) [] to back h = λ w is. h w (back w is)
same_firsts score Kind Kind' zero (w ∷ ws) to back h = absurd h
same_firsts score Kind Kind' (suc k) (w ∷ ws) to back h = (
  record { kind = to w h.0.kind; first = λ v is. h.0.first v (back v is) },
  same_firsts score (After score w Kind) (After score w Kind') k ws (λ v a. (to v a.0, a.1))
      (λ v a. (back v a.0, a.1)) h.1,
)

-- no more than one list
pub only : (score : Codeword → ℤ) (Kind : Codeword → Type 0) (k : ℕ) (ws vs : List Codeword) →
    Firsts score Kind k ws → Firsts score Kind k vs → ws ≡ vs
only score Kind zero [] [] p q = refl
only score Kind zero [] (v ∷ vs) p q = absurd q
only score Kind zero (w ∷ ws) vs p q = absurd p
only score Kind (suc k) [] [] p q = refl
only score Kind (suc k) [] (v ∷ vs) p q = absurd (p v q.0.kind)
only score Kind (suc k) (w ∷ ws) [] p q = absurd (q w p.0.kind)
only score Kind (suc k) (w ∷ ws) (v ∷ vs) p q =
    let same : v ≡ w = ⊎_elim (λ e. e)
    (λ better. ⊎_elim (λ e. sym e) (λ better'. absurd (not_both score w v better better')) (q.0.first w p.0.kind))
    (p.0.first v q.0.kind) in
    let rest : Firsts score (After score w Kind) k vs =
    subst (λ (u : Codeword). Firsts score (After score u Kind) k vs) same q.1 in
    ap (λ (us : List Codeword). w ∷ us) (only score (After score w Kind) k ws vs p.1 rest)
    ∙ ap (λ (u : Codeword). u ∷ vs) (sym same)

-- AS ONE FACT ON THE WHOLE LIST
contains_head : (w : Codeword) (ws : List Codeword) → Contains (w ∷ ws) w
contains_head w ws = (0, omega arith, refl)

contains_more : (w v : Codeword) (ws : List Codeword) → Contains ws v → Contains (w ∷ ws) v
contains_more w v ws h = (suc h.0, let b = h.1 in omega (arith, b), h.2)

contains_parts : (w v : Codeword) (ws : List Codeword) → Contains (w ∷ ws) v → (v ≡ w) ⊎ Contains ws v
contains_parts w v ws h = at_place h.0 h.1 h.2 where
  at_place : (k : ℕ) → k < length (w ∷ ws) → get_or (w ∷ ws) k v ≡ v → (v ≡ w) ⊎ Contains ws v
  at_place zero b e = inl (sym e)
  at_place (suc k) b e = inr (k, omega (arith, b), e)

pairs_head : (score : Codeword → ℤ) (w : Codeword) (ws : List Codeword) → AllPairs (IsBetter score) (w ∷ ws) →
    All (IsBetter score w) ws
pairs_head score w ws h = λ k d b. h 0 (suc k) d (omega arith) (omega (arith, b))

pairs_tail : (score : Codeword → ℤ) (w : Codeword) (ws : List Codeword) → AllPairs (IsBetter score) (w ∷ ws) →
    AllPairs (IsBetter score) ws
pairs_tail score w ws h = λ i j d less b. h (suc i) (suc j) d (omega (arith, less)) (omega (arith, b))

pub are_first : (score : Codeword → ℤ) (Kind : Codeword → Type 0) (k : ℕ) (ws : List Codeword) →
    Firsts score Kind k ws → AreFirst score Kind k ws
are_first score Kind zero [] h = record {
  most = omega arith;
  kind = All-nil Kind;
  order =
      λ i j d less b. absurd (omega (arith, b));
  rest =
      λ w is. inr (refl, λ i d b. absurd (omega (arith, b)));
}
are_first score Kind (suc k) [] h = record {
  most = omega arith;
  kind = All-nil Kind;
  order =
      λ i j d less b. absurd (omega (arith, b));
  rest = λ w is. absurd (h w is);
}
are_first score Kind zero (w ∷ ws) h = absurd h
are_first score Kind (suc k) (w ∷ ws) h =
    let t = are_first score (After score w Kind) k ws h.1 in
    let m = t.most in
    record {
      most = omega (arith, m);
      kind = All-cons Kind w ws h.0.kind (λ i d b. (t.kind i d b).0);
      order = AllPairs-cons (IsBetter score) w ws (λ i d b. (t.kind i d b).1) t.order;
      rest = λ v is. ⊎_elim (λ e. inl (subst (Contains (w ∷ ws)) (sym e) (contains_head w ws)))
          (λ better. ⊎_elim (λ c. inl (contains_more w v ws c))
          (λ out. inr (ap suc out.0, All-cons (λ u. IsBetter score u v) w ws better out.1)) (t.rest v (is, better)))
          (h.0.first v is);
    }

pub firsts_of : (score : Codeword → ℤ) (Kind : Codeword → Type 0) (k : ℕ) (ws : List Codeword) →
    AreFirst score Kind k ws → Firsts score Kind k ws
firsts_of score Kind zero [] h = tt
firsts_of score Kind (suc k) [] h = λ w is. ⊎_elim (λ c. let b = c.1 in omega (arith, b))
    (λ out. let e = out.0 in omega (arith, e)) (h.rest w is)
firsts_of score Kind zero (w ∷ ws) h = let m = h.most in absurd (omega (arith, m))
firsts_of score Kind (suc k) (w ∷ ws) h =
    let following = pairs_head score w ws h.order in (
      record {
        kind = All-head Kind w ws h.kind;
        first = λ v is. ⊎_elim
            (λ c. ⊎_elim (λ e. inl e) (λ c'. inr (All-contains (IsBetter score w) ws v following c'))
            (contains_parts w v ws c))
            (λ out. inr (All-head (λ u. IsBetter score u v) w ws out.1))
            (h.rest v is);
      },
      firsts_of score (After score w Kind) k ws (record {
        most = let m = h.most in omega (arith, m);
        kind = λ i d b. (All-tail Kind w ws h.kind i d b, following i d b);
        order = pairs_tail score w ws h.order;
        rest = λ v a. ⊎_elim
            (λ c. ⊎_elim (λ e. absurd (not_self score w (subst (IsBetter score w) e a.1)))
            (λ c'. inl c') (contains_parts w v ws c))
            (λ out. inr (
              let e = out.0 in
                  omega (arith, e),
              All-tail (λ u. IsBetter score u v) w ws out.1,
            ))
            (h.rest v a.0);
      }),
    )

-- THE STATEMENT NAMES ONE LIST
pub one_list : (score : Codeword → ℤ) (Kind : Codeword → Type 0) (k : ℕ) (ws vs : List Codeword) →
    AreFirst score Kind k ws → AreFirst score Kind k vs → ws ≡ vs
one_list score Kind k ws vs p q = only score Kind k ws vs (firsts_of score Kind k ws p) (firsts_of score Kind k vs q)
