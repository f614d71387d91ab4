use Rattle.quality_bits.proofs.Common.{◌≡◌, ◌-◌, ◌∷◌, [], take, drop, ap, ◌∙◌, arith, List, Bool, Option, option_or, continued, completed}
use Rattle.quality_bits.proofs.Opened.{continued_none, completed_none, continued-append, completed-append, taken_more_from}
use Rattle.quality_bits.proofs.open_capsule.OpenCapsule.push_all.Goals as goal

pub loop-i-init : goal.loop-i-init
loop-i-init c =
    let none : c.args.from - c.args.from ≡ 0 = omega arith in
    rw none (record {
      goes_on = continued_none c.args.self.now c.is_open.ensures.awaits;
      gives = completed_none c.args.self.now c.is_open.ensures.awaits;
    })

-- One bit more of the piece is pushed: going on with the bits so far and then with this one is
-- going on with all of them, and the capsule was completed either by those before or by this bit.
pub loop-i-preserved : goal.loop-i-preserved
loop-i-preserved c =
    let s = c.args.self.now in
    let read = take (c.loop-i.i - c.args.from) (drop c.args.from c.args.piece.now) in
    let bit = c.get.result ∷ [] in
    let more =
    taken_more_from c.args.piece.now c.args.from c.loop-i.i c.get.result (omega arith)
    c.get.ensures in
    rw more (record {
      goes_on =
          c.push.ensures.goes_on ∙
          ap (λ (t : Option (List Bool)). continued t bit) c.loop-i.invariant.goes_on ∙
          continued-append s read bit;
      gives =
          c.or-whole.ensures
          ∙ ap (λ (w : Option (List Bool)). option_or w c.push.result) c.loop-i.invariant.gives
          ∙ ap (option_or (completed s read)) (c.push.ensures.gives ∙
          ap (λ (t : Option (List Bool)). completed t bit) c.loop-i.invariant.goes_on)
          ∙ completed-append s read bit;
    })
