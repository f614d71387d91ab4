-- A ranking is the definition's.
use Rattle.pilot_survey.proofs.Common.{◌≡◌, ℕ, ◌<◌, inl, inr, ⊎_elim, List, length, get_or, map, sym, ap, ◌∙◌, subst, arith, pos, Sample}
use Rattle.pilot_survey.proofs.Common.{get_or-map, get_or_default, length-map, same_lists, ComesBefore, IsRanking, surveyed, ranking, Rank}
use Rattle.pilot_survey.proofs.FirstPlaces.{Leads, IsOrdering, ordering_only}
use Rattle.pilot_survey.proofs.Strength.{surveyed_pilot}

abbrev pub pilot_of : Rank → ℕ
pilot_of r = r.pilot

abbrev energy_of : List Sample → ℕ → ℕ → ℕ → ℕ
energy_of samples base width pilot = (surveyed samples base width pilot).energy

-- a rank of this pilot, for a place after the last one
abbrev pub named : ℕ → Rank
named pilot = record { pilot = pilot; delta = pos 0; energy = 0 }

-- the order of two measured ranks is that of their pilots
pilots_lead : (samples : List Sample) (base width : ℕ) (x y : Rank) →
    x ≡ surveyed samples base width x.pilot → y ≡ surveyed samples base width y.pilot →
    ComesBefore x y → Leads (energy_of samples base width) x.pilot y.pilot
pilots_lead samples base width x y own other h =
    let ex : x.energy ≡ energy_of samples base width x.pilot = ap (λ (r : Rank). r.energy) own in
    let ey : y.energy ≡ energy_of samples base width y.pilot = ap (λ (r : Rank). r.energy) other in
    ⊎_elim (λ less. inl (omega (arith, ex, ey, less)))
    (λ both. let eq = both.0 in inr (omega (arith, ex, ey, eq), both.1))
    h

-- the pilots of a ranking, in order
pilots_ordered : (samples : List Sample) (base width : ℕ) (ranks : List Rank) → IsRanking samples base width ranks →
    IsOrdering (energy_of samples base width) 512 (map pilot_of ranks)
pilots_ordered samples base width ranks is =
    let long = is.long in
    let entry : (i d : ℕ) → i < 512 → get_or (map pilot_of ranks) i d ≡ (get_or ranks i (named d)).pilot =
    λ i d lt. get_or-map pilot_of ranks i (named d) d (omega (arith, long, lt)) in
    record {
      long = length-map ranks pilot_of ∙ long;
      below = λ i d lt.
          let m = is.measured i (named d) (omega (arith, long, lt)) in
          let b = m.0 in let e = entry i d lt in omega (arith, b, e);
      each = λ p lt.
          let at = is.each p lt in
          let in' = at.1 in
          let here : get_or ranks at.0 (named p) ≡ surveyed samples base width p =
          get_or_default ranks at.0 (named p) (surveyed samples base width p) in' ∙ at.2 in (
            at.0,
            (let l = length-map ranks pilot_of in omega (arith, l, in')),
            entry at.0 p (omega (arith, long, in')) ∙ ap pilot_of here ∙
                surveyed_pilot samples base width p,
          );
      order = λ i j d less lt.
          let low : i < 512 = omega (arith, less, lt) in
          let x = get_or ranks i (named d) in
          let y = get_or ranks j (named d) in
          let mx = is.measured i (named d) (omega (arith, long, low)) in
          let my = is.measured j (named d) (omega (arith, long, lt)) in
          let leads = pilots_lead samples base width x y mx.1 my.1 (is.order i j (named d) less lt) in
          subst (λ (p : ℕ). Leads (energy_of samples base width) p (get_or (map pilot_of ranks) j d))
          (sym (entry i d low))
          (subst (λ (q : ℕ). Leads (energy_of samples base width) x.pilot q) (sym (entry j d lt)) leads);
    }

-- its ranks are those of its pilots
ranks_of_pilots : (samples : List Sample) (base width : ℕ) (ranks : List Rank) → IsRanking samples base width ranks →
    ranks ≡ map (surveyed samples base width) (map pilot_of ranks)
ranks_of_pilots samples base width ranks is =
    let l = length-map ranks pilot_of in
    same_lists ranks (map (surveyed samples base width) (map pilot_of ranks))
    (sym (length-map (map pilot_of ranks) (surveyed samples base width) ∙ l))
    (λ k d lt.
    let m = is.measured k d lt in
    let inner : k < length (map pilot_of ranks) = omega (arith, l, lt) in
    m.1 ∙ ap (surveyed samples base width) (sym (get_or-map pilot_of ranks k d d.pilot lt)) ∙
    sym (get_or-map (surveyed samples base width) (map pilot_of ranks) k d.pilot d inner))

pub ranking_only : (samples : List Sample) (base width : ℕ) (ranks : List Rank) →
    IsRanking samples base width ranks → ranks ≡ ranking samples base width
unfolding ranking
ranking_only samples base width ranks is =
    ranks_of_pilots samples base width ranks is ∙
    ap (map (surveyed samples base width))
    (sym (ordering_only (energy_of samples base width) 512 (map pilot_of ranks)
    (pilots_ordered samples base width ranks is)))
