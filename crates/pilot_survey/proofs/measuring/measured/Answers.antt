use Rattle.pilot_survey.proofs.Common.{◌≡◌, ◌+◌, ◌*◌, ℕ, ℤ, pos, ◌-ℤ◌, to_z, of_z, w8, arith, subst, IsFirstGreatest, energy, survey_phase}
use Rattle.std.proofs.lemmas.Int.{ints}
use Rattle.pilot_survey.proofs.Strength.{surveyed_is}
use Rattle.pilot_survey.proofs.measuring.measured.Goals as goal

-- The rank is the definition's: after the last place the best is the first with the greatest energy
-- of all 2 width + 1, and its delta, the place less the width, fits into 8 bits, since the width is
-- at most 31.
pub returns : goal.returns
returns c =
    let best : ℕ = c.loop-place.best in
    let end : c.loop-place.place ≡ 2 * c.args.width + 1 = omega arith in
    let f : ℕ → ℤ = λ (k : ℕ). pos (energy c.args.samples.now (survey_phase c.args.base c.args.width c.args.pilot k)) in
    let all : IsFirstGreatest f (2 * c.args.width + 1) best =
    subst (λ (n : ℕ). IsFirstGreatest f n best) end c.loop-place.invariant.first in
    let delta : to_z w8 (of_z w8 c.delta_of.result) ≡ pos best -ℤ pos c.args.width = omega (arith, ints) in
    surveyed_is c.args.samples.now c.args.base c.args.width c.args.pilot best c.loop-place.most
    (to_z w8 (of_z w8 c.delta_of.result)) c.loop-place.invariant.most delta all
