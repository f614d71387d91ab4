use Rattle.cell_samples.proofs.Common.{◌≡◌, ◌+◌, ◌*◌, ◌<◌, ◌^◌, ℕ, ap, ◌∙◌, after, message_of, told_superframes, refilled, refilled_is}
use Rattle.cell_samples.proofs.Common.{told_early}
use Rattle.cell_samples.proofs.sendings.message_for.Goals as goal

-- The message that is made for a transmission is the definition's: it tells the time at which it
-- holds, the superframes of all transmissions so far and four more, and the long code state of that
-- time, which is the cell's jumped as many chips ahead.
pub returns-clause-value : goal.returns-clause-value
unfolding message_of
returns-clause-value c =
    let cell = c.args.cell.now in
    let m = c.args.message.now in
    let told = (c.args.sending + 1) * c.args.superframes + 4 in
    let same : told ≡ told_superframes cell m c.args.sending =
    ap (λ (n : ℕ). (c.args.sending + 1) * n + 4) c.requires.superframes in
    let state : c.unwrap-state.result ≡ cell.lc = (rw c.unwrap-state.ensures at c.new.ensures).1 in
    let lc : c.value.result ≡ after cell.lc (98304 * told) = c.value.ensures.value
    ∙ c.jump.ensures.later ∙ ap (λ (s : ℕ). after s (98304 * told)) state in
    ap (λ (lc : ℕ). refilled m cell.pn (cell.time + told) lc) lc
    ∙ ap (λ (t : ℕ). refilled m cell.pn (cell.time + t) (after cell.lc (98304 * t)))
    same

-- The message fits its fields: the cell's time and the superframes that are added stay below 2^36,
-- and the long code state after them is still one of 42 bits.
pub returns-clause-is : goal.returns-clause-is
returns-clause-is c =
    let cell = c.args.cell.now in
    let r = c.requires in
    let early : cell.time + ((c.args.sending + 1) * c.args.superframes + 4) < 2 ^ 36 =
    told_early cell.time c.args.sending c.args.superframes r.sendable.time r.few r.early in
    refilled_is c.args.message.now cell.pn (cell.time + ((c.args.sending + 1) * c.args.superframes + 4)) c.value.result
    r.sendable.message r.sendable.pn early c.value.ensures.state.1
