use Rattle.rake_finger.proofs.Common.{ints, common_steps, ◌<◌, ◌++◌, List, length, take, sym, subst, ap, ◌∙◌, arith, append_assoc, Sample}
use Rattle.rake_finger.proofs.Common.{take_more, HoldsLast}
use Rattle.rake_finger.proofs.Rings.{cell_further}
use Rattle.rake_finger.proofs.ring.SampleRing.push_all.Goals as goal

-- One sample more is in the ring: it was put into the cell after the last one's, so the ring holds
-- the last of all samples that were given so far.
pub loop-sample-preserved : goal.loop-sample-preserved
loop-sample-preserved c =
    let inv = c.loop-sample.invariant in
    let put = c.put.ensures in
    let next = c.cell_after-cell in
    let more = c.args.more.now in
    let i = c.loop-sample.sample-index in
    let lt : i < length more = c.loop-sample-test.true in
    record {
      room = put.room ∙ inv.room;
      taken = omega (arith, put.taken, inv.taken);
      next =
          cell_further c.loop-sample.self.taken c.put.new.self.taken c.loop-sample.self.room
          c.put.new.self.room c.loop-sample.cell next.result inv.next next.ensures.value put.taken
          put.room;
      below = next.ensures.below;
      holds = λ samples held.
          subst (HoldsLast c.put.new.self)
          (append_assoc samples (take i more) _
          ∙ ap (λ (xs : List Sample). samples ++ xs) (sym (take_more more i _ lt)))
          (put.holds (samples ++ take i more) (inv.holds samples held));
    }

pub returns-clause-holds : goal.returns-clause-holds
returns-clause-holds c = grind (ints, arith, common_steps)
