use Rattle.tuned_listener.proofs.Common.{ints, common_steps, ◌∙◌, ap, arith, length, rules, subst, sym, take, taken_more}
use Rattle.tuned_listener.proofs.Common.{HalfFramesStandFor}
use Rattle.tuned_listener.proofs.SlotPages.{count_more, pages_all, pages_none}
use Rattle.tuned_listener.proofs.slot_writer.count_pages.Goals as goal

pub loop-i-init : goal.loop-i-init
loop-i-init c = record {
  size = c.new-framer.ensures.size;
  stands = c.new-framer.ensures.stands;
  count = sym (ap length (pages_none c.args.check c.args.rate c.args.bits.now));
  few = omega arith;
}

-- One bit more of a slot is read: the framer stands for the bits with this one, and the count goes
-- up by one just where the bit ends a capsule that is a page.
pub loop-i-preserved : goal.loop-i-preserved
loop-i-preserved c =
    let inv = c.loop-i.invariant in
    let before = take c.loop-i.i c.args.bits.now in
    let page = c.page_after-page in
    record {
      size = page.ensures.size ∙ inv.size;
      stands = subst (HalfFramesStandFor page.new.framer)
          (sym (taken_more c.args.bits.now c.loop-i.i c.get.result c.get.ensures))
          (page.ensures.stands before inv.stands);
      count = rw (c.from-count.ensures, c.is_some.ensures)
          (count_more c.args.check c.args.rate c.args.bits.now c.loop-i.i c.get.result c.get.ensures
          page.result _ inv.size (page.ensures.page before inv.stands) c.loop-i.count inv.count);
      few = search rules;
    }

pub returns : goal.returns
returns c =
    c.loop-i.invariant.count
    ∙ ap length (pages_all c.args.check c.args.rate c.args.bits.now c.loop-i.i (search rules))

pub overflow_add-count : goal.overflow_add-count
overflow_add-count c = grind (ints, arith, common_steps)
