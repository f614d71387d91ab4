use Rattle.heard_events.proofs.Common.{common_steps, ints, ◌≡◌, ◌∙◌, ℕ, ℤ, List, true, false, take, sym, ap, arith, group_sums, sums_on}
use Rattle.heard_events.proofs.Common.{has_subchannel, places, Sample}
use Rattle.heard_events.proofs.LegSubsets.{sums_more, sums_same}
use Rattle.heard_events.proofs.leg_softs.power_softs.Goals.{then-has_subchannel, else-has_subchannel}
use Rattle.heard_events.proofs.leg_softs.power_softs.Goals as goal

pub loop-subchannel-init : goal.loop-subchannel-init
unfolding places
loop-subchannel-init c = record {
  sums = λ heard holds. c.empty-sums.ensures.value;
  few = omega (arith, c.empty-sums.ensures.count);
}

-- One subchannel more is looked at: where a leg has it, the sums over the groups of its soft values
-- are put at the end of the list, as in the definition, and where none has it nothing is put there.
pub loop-subchannel-preserved : goal.loop-subchannel-preserved
loop-subchannel-preserved c =
    let had = c.loop-subchannel.invariant in
    let legs = c.args.legs.now in
    let i = c.loop-subchannel.subchannel in
    let paths = take c.args.near.now.count c.args.near.now.deltas in
    let replaced = c.args.replaced.now in
    let f : List Sample → ℕ → List ℤ = λ heard. sums_on heard c.args.phase paths legs c.args.start replaced in
    elim c.if-has_subchannel.branch [
      | then-has_subchannel w ↦
          let has : has_subchannel legs i ≡ true = sym c.has_subchannel.ensures ∙ w.if-has_subchannel.true in
          rw w.sums-is (record {
            sums = λ heard holds.
                w.push.ensures.value
                ∙ sums_more (f heard) legs i _ _ (had.sums heard holds)
                (ap (group_sums replaced) (w.subchannel_softs.ensures.value heard holds)) has;
            few = omega (arith, w.push.ensures.count, had.few);
          })
      | else-has_subchannel w ↦
          let none : has_subchannel legs i ≡ false = sym c.has_subchannel.ensures ∙ w.if-has_subchannel.false in
          rw w.sums-is (record {
            sums = λ heard holds.
                had.sums heard holds ∙ sym (sums_same (f heard) legs i none);
            few = omega (arith, had.few);
          })
    ]

pub push-requires-clause-rising : goal.push-requires-clause-rising
push-requires-clause-rising c = grind (ints, arith, common_steps)

pub push-requires-clause-below : goal.push-requires-clause-below
push-requires-clause-below c = grind (ints, arith, common_steps)
