use Rattle.pilot_sets.proofs.Within.{joined_more}
use Rattle.pilot_sets.proofs.moves.joined.Goals as goal

pub loop-p-preserved : goal.loop-p-preserved
loop-p-preserved c = (
  joined_more 20 c.args.neighbors c.args.others.now c.loop-p.joined c.push_within.new.self
      c.loop-p.p-index 0 c.loop-p-test.true c.loop-p.invariant.0 c.push_within.ensures.value,
  c.push_within.ensures.within,
)
