use Rattle.tuned_listener.proofs.Common.{arith, ints, common_steps, ◌≡◌, [], subst, sym, CodeChannel, IsTunedTo, soft_frames}
use Rattle.tuned_listener.proofs.TunedListeners.{can_open, lawful_channel, was_told}
use Rattle.tuned_listener.proofs.tuned.Hearer.opened.Goals as goal

-- A receiver can be opened in the place of a handset that was told this mark.
pub open-tuner-requires-clause-lawful : goal.open-tuner-requires-clause-lawful
open-tuner-requires-clause-lawful c =
    lawful_channel c.in-Ahead.channel (can_open c.args.self c.args.mark _ _ _ _ c.in-Ahead.is c.requires.opens).1.lawful

-- The handset's ring holds the samples that it took, so the receiver hears on from there, and it has
-- given no frame of them.
pub returns-in-Ahead-clause-listens : goal.returns-in-Ahead-clause-listens
returns-in-Ahead-clause-listens c t channel heard told =
    let m = c.args.mark in
    let tuner = c.open-tuner in
    let (opens, marked) = was_told t channel c.args.self m heard _ _ _ _ c.in-Ahead.is told in
    let ring = c.into_ring-count.ensures.holds t heard marked.given marked.stands in
    let tuned = tuner.ensures.tuned t heard (sym ring.0) opens.phase_is opens.deltas_are ring.1 in
    let none = tuner.ensures.none t heard (sym ring.0) opens.phase_is opens.deltas_are ring.1 in (
      record {
        marked = marked.marked;
        tuned = subst (λ (ch : CodeChannel). IsTunedTo t ch m tuner.result heard) opens.channel_is tuned;
      },
      subst (λ (ch : CodeChannel). soft_frames t ch m heard ≡ []) opens.channel_is none,
    )

pub returns-in-Ahead-clause-room : goal.returns-in-Ahead-clause-room
returns-in-Ahead-clause-room c = grind (ints, arith, common_steps)

pub open-tuner-requires-clause-least : goal.open-tuner-requires-clause-least
open-tuner-requires-clause-least c = grind (ints, arith, common_steps)

pub open-tuner-requires-clause-early : goal.open-tuner-requires-clause-early
open-tuner-requires-clause-early c = grind (ints, arith, common_steps)

pub returns-in-After-clause-listens : goal.returns-in-After-clause-listens
returns-in-After-clause-listens c = grind (ints, arith, common_steps)

pub open-tuner-requires-clause-most : goal.open-tuner-requires-clause-most
open-tuner-requires-clause-most c = grind (ints, arith, common_steps)
