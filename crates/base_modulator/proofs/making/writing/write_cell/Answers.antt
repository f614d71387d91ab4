use Rattle.std.proofs.Common.{◌≡◌, ◌-◌, min, ap, ◌∙◌, arith, rules}
use Rattle.std.proofs.lemmas.Result.{err_from_is_err_and}
use Rattle.cell_plan.specs.Transmitter.{CellState}
use Rattle.cell_plan.specs.declared.plan.CellPlan.{CellPlan}
use Rattle.base_modulator.proofs.MadeFiles.{header_cut, header_whole, piece_cut, piece_more, pieces_all}
use Rattle.base_modulator.proofs.making.writing.write_cell.Goals as goal

pub returns-in_err-write_all-clause-err : goal.returns-in_err-write_all-clause-err
returns-in_err-write_all-clause-err g c =
    let p = err_from_is_err_and c.from_residual.result c.from_residual.ensures.1 in
    rw p.1 (header_cut c.args.width c.args.cell.now.width c.args.cell.now.plan c.header.result
    c.header_bytes.result _ _ c.header.ensures.value c.requires.fresh.0 c.header_bytes.ensures
    c.in_err-write_all.ensures.err)

pub loop-width-init : goal.loop-width-init
loop-width-init g c = record {
  plan = search rules;
  width = search rules;
  written = header_whole c.args.width c.args.cell.now.width c.args.cell.now.plan
      c.args.cell.now.given c.header.result c.header_bytes.result _ _ c.header.ensures.value
      c.requires.fresh.0 c.header_bytes.ensures c.requires.fresh.1 c.in_ok-write_all.ensures.ok;
  samples = search rules;
  bytes = search rules;
  later = c.write_all.ensures.cause.later;
}

-- One piece more is written: its bytes spell the cell's next samples, 4,096 or as many as are left,
-- so the sink has the header and all samples that the cell has given by then.
pub loop-width-preserved : goal.loop-width-preserved
loop-width-preserved g c =
    let inv = c.loop-width.invariant in
    let now = c.loop-width.cell in
    let n = min 4096 (now.plan.link.samples - now.given) in
    let state = c.spell_piece-len.ensures.state in
    record {
      plan = ap (λ (s : CellState). s.plan) state ∙ inv.plan;
      width = ap (λ (s : CellState). s.width) state ∙ inv.width;
      written =
          piece_more c.args.width c.args.cell.now.plan now.plan now.given n
          c.spell_piece-len.new.cell.given _ _ (g.K.Sink.written c.loop-width.sink) _ inv.plan
          (ap (λ (s : CellState). s.given) state) c.spell_piece-len.ensures.spelled inv.written
          c.in_ok-write_all-2.ensures.ok;
      samples = search rules;
      bytes = search rules;
      later = search (rules, c.write_all-in-loop-width.ensures.cause.later);
    }

-- Where a piece can't be written whole, the sink has a beginning of the file: the header, the
-- samples before the piece, and a beginning of the piece's bytes, which spell the samples that come
-- next.
pub returns-in_err-write_all-2-clause-err : goal.returns-in_err-write_all-2-clause-err
returns-in_err-write_all-2-clause-err g c =
    let inv = c.loop-width.invariant in
    let now = c.loop-width.cell in
    let n = min 4096 (now.plan.link.samples - now.given) in
    let p = err_from_is_err_and c.from_residual-in_err-write_all-2.result c.from_residual-in_err-write_all-2.ensures.1 in
    rw p.1 (piece_cut c.args.width c.args.cell.now.plan now.plan now.given n _
    (g.K.Sink.written c.args.sink.now) (g.K.Sink.written c.loop-width.sink) _ inv.plan
    c.spell_piece-len.ensures.spelled inv.written c.in_err-write_all-2.ensures.err)

pub returns-clause-ok : goal.returns-clause-ok
returns-clause-ok g c =
    let inv = c.loop-width.invariant in
    let done : c.loop-width.cell.given ≡ c.args.cell.now.plan.link.samples =
    omega (arith, c.left.ensures, c.loop-width-test.false, ap (λ (p : CellPlan). p.link.samples) inv.plan) in
    pieces_all c.args.width c.args.cell.now.plan c.loop-width.cell.given
    (g.K.Sink.written c.args.sink.now) _ done inv.written
