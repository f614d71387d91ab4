use Rattle.pilot_search.proofs.Common.{◌≡◌, ◌≤◌, ◌<◌, ◌+◌, ℕ, arith, rules, subst, sym, Option, None, greatest, IsFound, Best}
use Rattle.pilot_search.proofs.FoundLemmas.{at_most_greatest, left_out}
use Rattle.pilot_search.proofs.searching.try_number.Goals as goal

pub try_phase-requires-clause-energy : goal.try_phase-requires-clause-energy
try_phase-requires-clause-energy c =
    let below : c.unwrap-phase.result < 32768 = search rules in
    let most = at_most_greatest c.args.samples.now c.unwrap-phase.result below in
    omega (arith, most, c.requires.ceiling)

-- Nothing is found at a phase that was left: its energy is bounded below the seat's floor, and that
-- is no greater than the greatest energy, so this phase doesn't have it.
pub returns-in_err-energy-clause-found : goal.returns-in_err-energy-clause-found
returns-in_err-energy-clause-found c =
    let e = c.in_err-energy.ensures in
    let same : c.unwrap-phase.result ≡ c.args.n = search rules in
    let low : c.try_phase.new.seat.floor ≤ greatest c.args.samples.now =
    omega (arith, e.most, e.ceiling, c.requires.ceiling) in
    let none = left_out c.args.samples.now c.unwrap-phase.result c.try_phase.new.seat.floor e.only low in
    let none_at = subst (λ (n : ℕ). IsFound c.args.samples.now n (n + 1) None) same none in
    subst (λ (o : Option Best). IsFound c.args.samples.now c.args.n (c.args.n + 1) o)
    (sym c.from_residual.ensures) none_at
