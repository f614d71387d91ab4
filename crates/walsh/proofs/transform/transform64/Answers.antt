use Rattle.walsh.proofs.Common.{◌≡◌, ℕ, subst, arith}
use Rattle.walsh.proofs.Carried.{IsCarried, begins, goes_on, in_phase_is, quadrature_is}
use Rattle.walsh.proofs.transform.transform64.Goals as goal

pub loop-bit-init : goal.loop-bit-init
loop-bit-init c = begins c.args.values.now c.told-values c.requires

pub stage-requires-clause-small : goal.stage-requires-clause-small
stage-requires-clause-small c = c.loop-bit.invariant.small

pub loop-bit-preserved : goal.loop-bit-preserved
loop-bit-preserved c =
    goes_on c.loop-bit.bit c.args.values.now c.loop-bit.values c.stage.new.values
    c.loop-bit-test.true c.stage.array_long c.loop-bit.invariant c.stage.ensures.stage
    c.stage.ensures.small

pub returns-clause-in_phase : goal.returns-clause-in_phase
returns-clause-in_phase c =
    let all : c.loop-bit.bit ≡ 6 = omega arith in
    let P = λ (k : ℕ). IsCarried k c.args.values.now c.loop-bit.values in
    in_phase_is c.args.values.now c.loop-bit.values c.told-values (subst P all c.loop-bit.invariant)

pub returns-clause-quadrature : goal.returns-clause-quadrature
returns-clause-quadrature c =
    let all : c.loop-bit.bit ≡ 6 = omega arith in
    let P = λ (k : ℕ). IsCarried k c.args.values.now c.loop-bit.values in
    quadrature_is c.args.values.now c.loop-bit.values c.told-values (subst P all c.loop-bit.invariant)
