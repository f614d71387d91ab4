use Rattle.cell_plan.proofs.Common.{◌≡◌, ℕ, ◌+◌, ◌++◌, List, [], ◌∷◌, length, sym, ◌∙◌, arith, Option, None, Some, MatchOption}
use Rattle.cell_plan.proofs.Common.{option_to_list, nil_from_length}
use Rattle.cell_plan.proofs.series.Series.pop.Goals as goal

popped : {A : Type 0} (items old new : List A) (last : Option A) (m n : ℕ) → items ≡ old →
    m ≡ length items → n ≡ length new → items ≡ new ++ option_to_list last →
    MatchOption last ((m ≡ 0) × (n ≡ 0)) (λ _. n + 1 ≡ m) →
    MatchOption last ((old ≡ []) × (new ≡ [])) (λ last. old ≡ new ++ last ∷ [])
popped items old new None m n same m_is n_is is none = (
  sym same ∙ nil_from_length items (omega (arith, m_is, none.0)),
  nil_from_length new (omega (arith, n_is, none.1)),
)
popped items old new (Some last) m n same m_is n_is is long = sym same ∙ is

pub returns : goal.returns
returns g c =
    popped _ _ _ _ _ _ c.self.view_is c.self.inside.items.ok.0 c.pop.new.self.ok.0
    c.pop.ensures.items c.pop.ensures.cases
