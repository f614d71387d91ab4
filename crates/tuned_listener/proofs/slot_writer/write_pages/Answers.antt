use Rattle.tuned_listener.proofs.Common.{◌∙◌, List, arith, rules, subst, sym, take, Appends, Appends-nil, err_from_is_err_and, taken_more}
use Rattle.tuned_listener.proofs.Common.{paging_line, HalfFramesStandFor, PagingMessage}
use Rattle.std.specs.List.{flat_map}
use Rattle.tuned_listener.proofs.SlotPages.{lines_cut, lines_more, pages_all, pages_none}
use Rattle.tuned_listener.proofs.slot_writer.write_pages.Goals as goal

pub loop-i-init : goal.loop-i-init
loop-i-init g c = record {
  size = c.new-framer.ensures.size;
  stands = c.new-framer.ensures.stands;
  written =
      subst (λ (ms : List PagingMessage). Appends (g.K.Sink.written c.args.sink.now)
      (g.K.Sink.written c.args.sink.now) (flat_map (paging_line c.args.at) ms))
      (sym (pages_none c.args.check c.args.rate c.args.bits.now))
      (Appends-nil (g.K.Sink.written c.args.sink.now));
  later = omega arith;
}

-- One bit more of a slot is read: the framer stands for the bits with this one, and where the bit
-- ends a page that page's line was written after those of the pages before it.
pub loop-i-preserved : goal.loop-i-preserved
loop-i-preserved g c =
    let inv = c.loop-i.invariant in
    let i = c.loop-i.i in
    let bits = c.args.bits.now in
    let bit = c.get.result in
    let page = c.page_after-page in
    record {
      size = page.ensures.size ∙ inv.size;
      stands = subst (HalfFramesStandFor page.new.framer) (sym (taken_more bits i bit c.get.ensures))
          (page.ensures.stands (take i bits) inv.stands);
      written =
          lines_more c.args.check c.args.rate bits i bit c.get.ensures page.result _ inv.size
          (page.ensures.page (take i bits) inv.stands) c.args.at _
          (g.K.Sink.written c.loop-i.sink) _ inv.written c.in_ok-write_page.ensures.ok;
      later = omega (arith, inv.later, c.write_page.ensures.cause.later);
    }

-- Where a page's line can't be written whole, the sink has the lines of the pages before it and a
-- beginning of this one's. That is a beginning of the slot's lines, since this page is the next
-- that ends in its bits.
pub returns-in_err-write_page-clause-err : goal.returns-in_err-write_page-clause-err
returns-in_err-write_page-clause-err g c =
    let inv = c.loop-i.invariant in
    let i = c.loop-i.i in
    let bits = c.args.bits.now in
    let page = c.page_after-page in
    let p = err_from_is_err_and c.from_residual.result c.from_residual.ensures.1 in
    rw p.1
    (lines_cut c.args.check c.args.rate bits i c.get.result c.get.ensures page.result _ inv.size
    (page.ensures.page (take i bits) inv.stands) c.args.at _ (g.K.Sink.written c.loop-i.sink) _
    inv.written c.in_err-write_page.ensures.err)

pub returns-clause-ok : goal.returns-clause-ok
returns-clause-ok g c =
    subst (λ (ms : List PagingMessage). Appends (g.K.Sink.written c.args.sink.now)
    (g.K.Sink.written c.loop-i.sink) (flat_map (paging_line c.args.at) ms))
    (pages_all c.args.check c.args.rate c.args.bits.now c.loop-i.i (search rules))
    c.loop-i.invariant.written
