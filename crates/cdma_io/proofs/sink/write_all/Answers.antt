use Rattle.cdma_io.proofs.Common.{rules}
use Rattle.cdma_io.proofs.Moves.{appended_more}
use Rattle.cdma_io.proofs.sink.write_all.Goals as goal

pub loop-given-preserved : goal.loop-given-preserved
loop-given-preserved g c = record {
  given = search rules;
  written =
      appended_more _ (g.K.Sink.written c.loop-given.sink) _ c.args.bytes.now c.loop-given.given
      c.in_ok-given.field-0 c.loop-given.invariant.written c.in_ok-given.ensures.bytes;
  later = search (rules, c.in_ok-given.ensures.cause.later);
}
