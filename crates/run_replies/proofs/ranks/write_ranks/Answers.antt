use Rattle.run_replies.proofs.Common.{◌≡◌, ◌<◌, ℕ, arith, subst, take, Appends}
use Rattle.std.proofs.lemmas.Result.{err_from_is_err_and}
use Rattle.run_replies.specs.Ranks.{ranks_text}
use Rattle.run_replies.proofs.RankLines.{lines_cut, lines_more, no_lines}
use Rattle.run_replies.proofs.ranks.write_ranks.Goals as goal

pub loop-place-init : goal.loop-place-init
loop-place-init g c = record {
  written = no_lines c.args.ranks.now (g.K.Sink.written c.args.sink.now);
  later = omega arith;
}

pub loop-place-preserved : goal.loop-place-preserved
loop-place-preserved g c = record {
  written =
      lines_more c.args.ranks.now c.loop-place.place c.get.result _
      (g.K.Sink.written c.loop-place.sink) _ c.get.ensures c.loop-place.invariant.written
      c.in_ok-write_rank.ensures.ok;
  later = omega (arith, c.loop-place.invariant.later, c.write_rank.ensures.cause.later);
}

pub returns-in_err-write_rank-clause-err : goal.returns-in_err-write_rank-clause-err
returns-in_err-write_rank-clause-err g c =
    let p = err_from_is_err_and c.from_residual.result c.from_residual.ensures.1 in
    let below : c.loop-place.place < c.args.top = omega arith in
    rw p.1
    (lines_cut c.args.ranks.now c.loop-place.place c.args.top c.get.result
    (g.K.Sink.written c.args.sink.now) (g.K.Sink.written c.loop-place.sink) _ c.get.ensures
    below c.loop-place.invariant.written c.in_err-write_rank.ensures.err)

pub returns-clause-ok : goal.returns-clause-ok
returns-clause-ok g c =
    let all : c.loop-place.place ≡ c.args.top = omega arith in
    subst (λ (n : ℕ). Appends (g.K.Sink.written c.args.sink.now) (g.K.Sink.written c.loop-place.sink)
    (ranks_text (take n c.args.ranks.now))) all c.loop-place.invariant.written
