use Rattle.walsh.proofs.Common.{◌≡◌, ◌<◌, ◌+◌, ℕ, bit_and, sym, subst, arith}
use Rattle.walsh.proofs.Pairing.{low, is_clear, is_set, shifted}
use Rattle.walsh.proofs.Stages.{IsPartway, step, starts, moves_at, skips, ends, grows, have_room}
use Rattle.walsh.proofs.transform.stage.Goals.{then-low-apart-eq0, else-low-apart-eq0}
use Rattle.walsh.proofs.transform.stage.Goals as goal

-- the partner of a lower place
partner_room : (bit l : ℕ) → bit < 6 → l < 64 → bit_and l (step bit) ≡ 0 → l + step bit < 64
partner_room bit l few small apart =
    let room = (low bit l few small (is_clear bit l few small apart)).room in
    omega (arith, room, shifted bit few)

pub loop-low-init : goal.loop-low-init
loop-low-init c = starts c.args.bit c.args.values.now c.told-values

pub bounds-values-low-then-low-apart-eq0 : goal.bounds-values-low-then-low-apart-eq0
bounds-values-low-then-low-apart-eq0 c =
    partner_room c.args.bit c.loop-low.low c.requires.bit c.loop-low-test.true
    c.if-low-apart-eq0.true

pub sum-requires : goal.sum-requires
sum-requires c =
    have_room c.args.bit c.loop-low.low c.args.values.now c.loop-low.values c.requires.bit
    c.loop-low-test.true c.if-low-apart-eq0.true c.loop-low.invariant c.requires.small

pub difference-requires : goal.difference-requires
difference-requires c =
    have_room c.args.bit c.loop-low.low c.args.values.now c.loop-low.values c.requires.bit
    c.loop-low-test.true c.if-low-apart-eq0.true c.loop-low.invariant c.requires.small

pub bounds-values-low-then-low-apart-eq0-3 : goal.bounds-values-low-then-low-apart-eq0-3
bounds-values-low-then-low-apart-eq0-3 c =
    partner_room c.args.bit c.loop-low.low c.requires.bit c.loop-low-test.true
    c.if-low-apart-eq0.true

pub loop-low-preserved : goal.loop-low-preserved
loop-low-preserved c =
    elim c.if-low-apart-eq0.branch [
      | then-low-apart-eq0 w ↦
          moves_at c.args.bit c.loop-low.low c.args.values.now c.loop-low.values
          c.if-low-apart-eq0.values w.sum.result w.difference.result
          c.requires.bit c.loop-low-test.true w.if-low-apart-eq0.true c.loop-low.invariant
          w.sum.ensures w.difference.ensures w.values-is
      | else-low-apart-eq0 w ↦
          let P = λ (v : _). IsPartway c.args.bit (c.loop-low.low + 1) c.args.values.now v in
          subst P (sym w.values-is)
          (skips c.args.bit c.loop-low.low c.args.values.now c.loop-low.values c.requires.bit
          (is_set c.args.bit c.loop-low.low c.requires.bit c.loop-low-test.true
          w.if-low-apart-eq0.false) c.loop-low.invariant)
    ]

pub returns-clause-stage : goal.returns-clause-stage
returns-clause-stage c =
    let all : c.loop-low.low ≡ 64 = omega arith in
    let P = λ (k : ℕ). IsPartway c.args.bit k c.args.values.now c.loop-low.values in
    ends c.args.bit c.args.values.now c.loop-low.values c.requires.bit (subst P all c.loop-low.invariant)

pub returns-clause-small : goal.returns-clause-small
returns-clause-small c =
    let all : c.loop-low.low ≡ 64 = omega arith in
    let P = λ (k : ℕ). IsPartway c.args.bit k c.args.values.now c.loop-low.values in
    grows c.args.bit c.args.values.now c.loop-low.values c.requires.bit c.requires.small
    (ends c.args.bit c.args.values.now c.loop-low.values c.requires.bit (subst P all c.loop-low.invariant))
