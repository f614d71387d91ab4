use Rattle.pilot_sets.proofs.Common.{◌+◌, ◌∷◌, [], drop, sym, ◌∙◌, arith, ap, length-append, first_repeated, has as has_pilot}
use Rattle.pilot_sets.proofs.Firsts.{element_below, repeated_here, repeated_more}
use Rattle.pilot_sets.proofs.directing.repeated.Goals as goal

pub returns-then-has : goal.returns-then-has
returns-then-has c =
    repeated_here c.args.pilots.now c.loop-i.seen c.loop-i.i c.get-pilot.result
    (omega (arith, c.loop-i-test.true, c.len-i-end.ensures.value)) c.get-pilot.ensures
    c.loop-i.invariant.0
    (ap (λ l. has_pilot l c.get-pilot.result) (sym c.all.ensures.value)
    ∙ sym c.has.ensures
    ∙ c.if-has.true)

pub loop-i-preserved : goal.loop-i-preserved
loop-i-preserved c =
    let rest = drop (c.loop-i.i + 1) c.args.pilots.now in (
      repeated_more c.args.pilots.now c.loop-i.seen c.loop-i.i c.get-pilot.result
          (omega (arith, c.loop-i-test.true, c.len-i-end.ensures.value)) c.get-pilot.ensures
          c.loop-i.invariant.0
          (ap (λ l. has_pilot l c.get-pilot.result) (sym c.all.ensures.value)
          ∙ sym c.has.ensures
          ∙ c.if-has.false)
          ∙ ap (λ l. first_repeated l rest) (sym c.push.ensures),
      rw c.push.ensures (omega (arith, length-append c.loop-i.seen (c.get-pilot.result ∷ []), c.loop-i.invariant.1)),
    )

pub overflow_cast-pilot : goal.overflow_cast-pilot
overflow_cast-pilot c =
    omega (arith, element_below c.args.pilots.now 512 c.loop-i.i c.get-pilot.result c.requires.fit c.get-pilot.ensures)
