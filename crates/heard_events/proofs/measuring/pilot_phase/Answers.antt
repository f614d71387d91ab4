use Rattle.heard_events.proofs.Common.{◌≡◌, ℕ, ◌+◌, ◌*◌, ◌<◌, ◌^◌, ℤ, pos, ◌-ℤ◌, ap, ◌∙◌, arith, FitsSigned, to_z, of_z, w16, w64, ints}
use Rattle.heard_events.proofs.Common.{modulo_code}
use Rattle.heard_events.proofs.measuring.pilot_phase.Goals as goal

-- the pilot's offset and the mark's place, taken away together and one after the other
taken_away : (delta from : ℤ) (pilot number sample : ℕ) → FitsSigned w16 delta → from ≡ to_z w16 (of_z w16 delta) →
    number ≡ pilot → pilot < 2 ^ 16 → sample < 2 ^ 29 →
    to_z w64 (of_z w64 (to_z w64 (of_z w64 from) -ℤ to_z w64 (64 * number + sample)))
    ≡ (delta -ℤ pos (64 * pilot)) -ℤ pos sample
taken_away delta from pilot number sample near is same few early = omega (arith, ints)

pub returns : goal.returns
returns c =
    c.phase_of.ensures ∙ ap modulo_code
    (taken_away c.args.delta c.from-2.result c.args.pilot c.from.result c.args.mark.now.sample
    c.ranges.delta c.from-2.ensures c.from.ensures (omega arith) c.requires.early)
