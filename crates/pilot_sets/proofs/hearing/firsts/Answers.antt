use Rattle.pilot_sets.proofs.Common.{common_steps, ints, ◌<◌, ◌∷◌, [], length, sym, ◌∙◌, arith, ap, length-append, has as has_pilot}
use Rattle.pilot_sets.proofs.Firsts.{element_below, firsts_new, firsts_old}
use Rattle.pilot_sets.proofs.hearing.firsts.Goals.{then-not-has, else-not-has}
use Rattle.pilot_sets.proofs.hearing.firsts.Goals as goal

pub loop-i-preserved : goal.loop-i-preserved
loop-i-preserved c =
    let below : c.loop-i.i < length c.args.pilots.now = omega (arith, c.loop-i-test.true, c.len-i-end.ensures.value) in
    let seen = ap (λ l. has_pilot l c.get-pilot.result) (sym c.all.ensures.value) ∙ sym c.has.ensures in
    elim c.if-not-has.branch [
      | then-not-has w ↦ rw (w.seen-is, w.push.ensures) (
        firsts_new c.args.pilots.now c.loop-i.seen c.loop-i.i c.get-pilot.result below
            c.get-pilot.ensures c.loop-i.invariant.0 (seen ∙ w.if-not-has.true),
        omega (arith, length-append c.loop-i.seen (c.get-pilot.result ∷ []), c.loop-i.invariant.1),
      )
      | else-not-has w ↦ rw w.seen-is (
        firsts_old c.args.pilots.now c.loop-i.seen c.loop-i.i c.get-pilot.result below
            c.get-pilot.ensures c.loop-i.invariant.0 (seen ∙ w.if-not-has.false),
        omega (arith, c.loop-i.invariant.1),
      )
    ]

pub overflow_cast-pilot : goal.overflow_cast-pilot
overflow_cast-pilot c =
    omega (arith, element_below c.args.pilots.now 512 c.loop-i.i c.get-pilot.result c.requires c.get-pilot.ensures)

pub returns : goal.returns
returns c = grind (ints, arith, common_steps)
