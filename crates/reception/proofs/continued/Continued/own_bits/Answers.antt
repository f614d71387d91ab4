use Rattle.reception.proofs.Common.{arith, common_steps, ints, ◌≡◌, ℕ, ◌-◌, ◌*◌, List, take, drop, ◌∙◌, ap, refl, ℤ, own_bits, symbols}
use Rattle.reception.proofs.Received.{own_bits_are}
use Rattle.reception.proofs.continued.Continued.own_bits.Goals as goal

-- The bits are the own ones of the next frame: the last of the 1,152 soft values, as many as the
-- span has, are those of the frames about it, and the span and the frame's place in it are the
-- definition's.
pub returns-clause-value : goal.returns-clause-value
returns-clause-value c = λ count s heard r channel d.
    let span = c.span-span.result in
    let told = c.span-span.ensures in
    let kept : ℕ = c.frame_symbols.result * c.from.result in
    let form = r.clocked.form_is in
    let kept_is : kept ≡ symbols s.form * span.frames = rw (c.frame_symbols.ensures.value, form, c.from.ensures) refl in
    let softs : List ℤ = take (1152 - (1152 - kept)) (drop (1152 - kept) c.args.self.now.softs) in
    c.span_bits.ensures.value
    ∙ ap (λ channel'. own_bits channel' span.frames span.own softs) channel
    ∙ own_bits_are r d span.frames span.own kept told.frames told.own
    kept_is c.requires.sound.whole

pub span_bits-requires-clause-room : goal.span_bits-requires-clause-room
span_bits-requires-clause-room c = grind (ints, arith, common_steps)

pub span_bits-requires-clause-softs : goal.span_bits-requires-clause-softs
span_bits-requires-clause-softs c = grind (ints, arith, common_steps)

pub span_bits-requires-clause-bound : goal.span_bits-requires-clause-bound
span_bits-requires-clause-bound c = grind (ints, arith, common_steps)
