-- The first codeword that passes a test, and the best codeword.
use Rattle.list_viterbi.proofs.Common.{◌≡◌, ℕ, zero, suc, ◌<◌, Bool, true, false, List, [], ◌∷◌, length, refl, sym, ap, subst, ◌∙◌, arith}
use Rattle.list_viterbi.proofs.Common.{ℤ, ◌⊎◌, ⊎_elim, Option, Some, None, slice_get, cond, find, Codeword, score_of, IsBetter, IsAllowed}
use Rattle.list_viterbi.proofs.Common.{NamesOneList, HaveBestFirst, HaveFirstPassing, false≢true}
use Rattle.list_viterbi.proofs.Firsts.{After, Firsts, firsts_of, one_list, not_both, not_self}

pub one_list_law : NamesOneList
one_list_law score ends n k codewords others p q = one_list score (IsAllowed ends n) k codewords others p q

no_codeword : {A : Type 0} (w : Codeword) → None ≡ Some w → A
no_codeword w e = absurd (grind (arith, e))

abbrev some_or : Codeword → Option Codeword → Codeword
some_or d None = d
some_or d (Some w) = w

-- the first that passes, or one that comes after it
record Passes (score : Codeword → ℤ) (Kind : Codeword → Type 0) (test : Codeword → Bool)
    (w : Codeword) : Type 0 where
  kind : Kind w
  passes : test w ≡ true
  first : (v : Codeword) → Kind v → test v ≡ true → (v ≡ w) ⊎ IsBetter score w v

found_passes : (score : Codeword → ℤ) (Kind : Codeword → Type 0) (test : Codeword → Bool) (k : ℕ)
    (ws : List Codeword) (w : Codeword) → Firsts score Kind k ws → find test ws ≡ Some w → Passes score Kind test w
found_passes score Kind test k [] w h e = no_codeword w e
found_passes score Kind test zero (x ∷ xs) w h e = absurd h
found_passes score Kind test (suc k) (x ∷ xs) w h e =
    by_test (test x) refl e (found_passes score (After score x Kind) test k xs w h.1) where
      by_test : (t : Bool) → test x ≡ t → cond t (Some x) (find test xs) ≡ Some w →
          (find test xs ≡ Some w → Passes score (After score x Kind) test w) → Passes score Kind test w
      by_test true is e rest =
          let same : x ≡ w = ap (some_or x) e in
          subst (Passes score Kind test) same (record {
            kind = h.0.kind;
            passes = is;
            first =
                λ v k t. h.0.first v k;
          })
      by_test false is e rest =
          let p = rest e in
          record {
            kind = p.kind.0;
            passes = p.passes;
            first = λ v k t. ⊎_elim (λ same. absurd (false≢true (sym is ∙ ap test (sym same) ∙ t)))
                (λ better. p.first v (k, better) t) (h.0.first v k);
          }

pub first_passing : HaveFirstPassing
first_passing score ends n k test codewords w h e =
    let p = found_passes score (IsAllowed ends n) test k codewords w
    (firsts_of score (IsAllowed ends n) k codewords h) e in
    record {
      kind = p.kind;
      passes = p.passes;
      first = λ v is t other. ⊎_elim (λ same. absurd (other same)) (λ better. better)
          (p.first v is t);
    }

pub best_first : HaveBestFirst
best_first softs ends n k codewords best long some size h is =
    head k codewords some (firsts_of (score_of softs) (IsAllowed ends n) k codewords h) where
      same_size : length best.bits ≡ n
      same_size = let half = is.half in omega (arith, half, size)

      allowed : IsAllowed ends n best
      allowed = subst (λ (m : ℕ). IsAllowed ends m best) same_size is.allowed

      is_best : (v : Codeword) → IsAllowed ends n v → (v ≡ best → ⊥) → IsBetter (score_of softs) best v
      is_best v p other = is.first v (subst (λ (m : ℕ). IsAllowed ends m v) (sym same_size) p) other

      head : (k : ℕ) (ws : List Codeword) → 0 < k → Firsts (score_of softs) (IsAllowed ends n) k ws →
          slice_get ws 0 ≡ Some best
      head zero ws some f = absurd (omega (arith, some))
      head (suc k) [] some f = absurd (f best allowed)
      head (suc k) (w ∷ ws) some f = ⊎_elim (λ same. ap (λ (v : Codeword). Some v) (sym same))
          (λ better. absurd (not_both (score_of softs) w best better
          (is_best w f.0.kind
          (λ e. not_self (score_of softs) best (subst (λ (v : Codeword). IsBetter (score_of softs) v best) e better)))))
          (f.0.first best allowed)
