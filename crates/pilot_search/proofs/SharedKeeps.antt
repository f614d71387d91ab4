-- Each step on the shared word keeps its rule.
use Rattle.pilot_search.proofs.Common.{◌≡◌, ◌≢◌, ℕ, zero, suc, ◌≤◌, true, false, List, [], ◌∷◌, length, set, get_or, inr, refl, sym, ap, Me}
use Rattle.pilot_search.proofs.Common.{◌∙◌, subst, ⊎_elim, arith, length-set, get_or-set_same, false≢true, none, some, some-ne-none, State}
use Rattle.pilot_search.proofs.Common.{some-injective, get_elem?, step, keeps, stepped, Allows, Splits, Joins, at_set, at_snoc, set_again}
use Rattle.pilot_search.proofs.Common.{View, holding, spent, fresh_view, Lies, AllLie, IsSharedState, Begun, joined_views}

abbrev Sat : Type 0
Sat = Me (Unit {0}) View

abbrev At : Type 0
At = State (Unit {0}) View

only_fresh : (id : ℕ) (v : View) → get_elem? (fresh_view ∷ []) id ≡ some v → fresh_view ≡ v
only_fresh zero v e = some-injective fresh_view v e
only_fresh (suc id) v e = absurd (some-ne-none v (sym e))

only_first : (id : ℕ) (v : View) → get_elem? (fresh_view ∷ []) id ≡ some v → id ≡ 0
only_first zero v e = refl
only_first (suc id) v e = absurd (some-ne-none v (sym e))

-- the seat of a view that isn't spent is not a first seat
not_fresh : {X : Type 0} (views : List View) (id : ℕ) (v : View) → get_elem? views id ≡ some v →
    v.spent ≡ false → views ≡ fresh_view ∷ [] → X
not_fresh views id v at held is =
    absurd (false≢true (sym held ∙
    sym (ap (λ (u : View). u.spent) (only_fresh id v (subst (λ (l : List View). get_elem? l id ≡ some v) is at)))))

lie_set : (word new ceiling id : ℕ) (views : List View) (w : View) → word ≤ new → new ≤ ceiling →
    AllLie word ceiling views → w.fresh ≡ false → Lies new ceiling w → AllLie new ceiling (set views id w)
lie_set word new ceiling id views w up low all old mine j u e =
    ⊎_elim (λ (t : (j ≡ id) × (w ≡ u)). subst (λ (v : View). (v.fresh ≡ false) × Lies new ceiling v) t.1 (old, mine))
    (λ (t : (j ≢ id) × (get_elem? views j ≡ some u)). let o = all j u t.1 in
    (o.0, λ held. let l = o.1 held in (omega arith, omega arith, l.2)))
    (at_set views id j w u e)

placed : (s : At) (n id ceiling : ℕ) (me : Sat) (w : View) → length s.words ≡ 1 →
    AllLie n ceiling (set s.views id w) → IsSharedState (stepped s 0 n id me.1 w keeps)
placed s n id ceiling me w one all = (
  length-set s.words 0 n ∙
      one,
  inr (
    ceiling,
    subst (λ (k : ℕ). AllLie k ceiling (set s.views id w))
        (sym (get_or-set_same s.words 0 n 0 (omega arith))) all,
  ),
)

-- a step that doesn't lower the word, nor raises it over the ceiling
pub moves : (slots id : ℕ) (me : Sat) (f : ℕ → ℕ) → me.0.spent ≡ false → ((n : ℕ) → n ≤ f n) →
    ((n : ℕ) → n ≤ me.0.ceiling → f n ≤ me.0.ceiling)
    → Allows IsSharedState slots id me 0 f (λ n m'. (me.0.floor ≤ n) × (n ≤ me.0.ceiling) ×
    (m' ≡ (holding (f n) me.0.ceiling, me.1)))
moves slots id me f held up low s kept _ at _ =
    ⊎_elim (λ first. not_fresh s.views id me.0 at held first.0)
    (λ lie.
    let word : ℕ = get_or s.words 0 0 in
    let mine = (lie.1 id me.0 at).1 held in
    let w = holding (f word) me.0.ceiling in
    let same : me.0.ceiling ≡ lie.0 = mine.2 in
    let raised : word ≤ f word = up word in
    let bounded : f word ≤ me.0.ceiling = low word (omega arith) in (
      w,
      keeps,
      tt,
      placed s (f word) id lie.0 me w kept.0
          (lie_set word (f word) lie.0 id s.views w raised (omega arith) lie.1 refl
          (λ _. (omega arith, omega arith, same))),
      (mine.0, omega arith, refl),
    ))
    kept.1

pub begins : (slots id : ℕ) (me : Sat) (ceiling : ℕ) → me.0.fresh ≡ true →
    Allows IsSharedState slots id me 0 (λ n. n) (Begun ceiling (step slots 0 0 0 none) me)
begins slots id me ceiling is s kept _ at _ =
    ⊎_elim
    (λ first. let w = holding 0 ceiling in (
      w,
      keeps,
      tt,
      placed s (get_or s.words 0 0) id ceiling me w kept.0 (alone s.views first.0 first.1 at),
      refl,
    ))
    (λ lie. absurd (false≢true (sym (lie.1 id me.0 at).0 ∙ is)))
    kept.1
  where
    -- Once the ceiling is told, the word, which is 0, lies in every view as the rule asks: the
    -- first view is the only one, and it now holds from 0 up to the ceiling.
    alone : (views : List View) → views ≡ fresh_view ∷ [] → get_or s.words 0 0 ≡ 0 → get_elem? views id ≡ some me.0 →
        AllLie (get_or s.words 0 0) ceiling (set views id (holding 0 ceiling))
    alone views is zeroed at j u e =
        let at_first = subst (λ (l : List View). get_elem? l id ≡ some me.0) is at in
        ⊎_elim
        (λ (t : (j ≡ id) × (holding 0 ceiling ≡ u)). subst (λ (v : View). (v.fresh ≡ false) ×
        Lies (get_or s.words 0 0) ceiling v) t.1 (refl, λ _. (omega arith, omega arith, refl)))
        (λ (t : (j ≢ id) × (get_elem? views j ≡ some u)).
        let here = only_first id me.0 at_first in
        let there = only_first j u (subst (λ (l : List View). get_elem? l j ≡ some u) is t.1) in
        absurd (t.0 (there ∙ sym here)))
        (at_set views id j (holding 0 ceiling) u e)

pub splits : (id : ℕ) (v : View) → v.spent ≡ false → Splits IsSharedState id v v v
splits id v held s kept at =
    ⊎_elim (λ first. not_fresh s.views id v at held first.0)
    (λ lie. (
      kept.0,
      inr (
        lie.0,
        λ j u e. ⊎_elim
            (λ was. lie.1 j u (subst (λ (l : List View). get_elem? l j ≡ some u) (set_again s.views id v at) was))
            (λ (same : v ≡ u). subst (λ (x : View). (x.fresh ≡ false) ×
            Lies (get_or s.words 0 0) lie.0 x) same (lie.1 id v at))
            (at_snoc (set s.views id v) v u j e),
      ),
    ))
    kept.1

-- Joining two seats keeps the rule of the shared word: what both know of it holds, so what the
-- joined seat knows does as well, and the other one is spent and knows nothing. Neither seat is the
-- fresh one of the start, since both hold the word already.
pub joins : (id other : ℕ) (v w : View) → v.spent ≡ false → w.spent ≡ false →
    Joins IsSharedState id v other w (joined_views v w) spent
joins id other v w held held' s kept at apart there =
    ⊎_elim (λ first. not_fresh s.views id v at held first.0)
    (λ lie.
    let word : ℕ = get_or s.words 0 0 in
    let mine = (lie.1 id v at).1 held in
    let theirs : get_elem? s.views other ≡
    some w = ⊎_elim (λ (t : (other ≡ id) × (joined_views v w ≡ w)). absurd (apart t.0))
    (λ (t : (other ≢ id) × (get_elem? s.views other ≡ some w)). t.1)
    (at_set s.views id other (joined_views v w) w there) in
    let others = (lie.1 other w theirs).1 held' in
    let both : AllLie word lie.0 (set s.views id (joined_views v w)) =
    lie_set word word lie.0 id s.views (joined_views v w) (omega arith) mine.1 lie.1 refl
    (λ _. (omega arith, mine.1, mine.2)) in (
      kept.0,
      inr (
        lie.0,
        lie_set word word lie.0 other (set s.views id (joined_views v w)) spent (omega arith)
            mine.1 both refl (λ no. absurd (false≢true (sym no))),
      ),
    ))
    kept.1
