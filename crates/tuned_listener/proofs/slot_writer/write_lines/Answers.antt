use Rattle.tuned_listener.proofs.Common.{arith, ints, common_steps, ℕ, length, subst, Appends, paging_line, slot_line, slot_pages, on_err}
use Rattle.tuned_listener.proofs.Common.{prefix_after}
use Rattle.std.specs.List.{flat_map}
use Rattle.tuned_listener.proofs.slot_writer.write_lines.Goals as goal

-- Where the lines of a slot's pages can't be written whole, the sink has the slot's own line, with
-- their number, and a beginning of theirs, which is a beginning of all lines of the slot.
pub returns-clause-err : goal.returns-clause-err
returns-clause-err g c =
    let at = c.args.at in
    let time = c.args.time in
    let pages = slot_pages c.args.check c.args.rate c.args.bits.now in
    let line = subst (λ (count : ℕ). Appends (g.K.Sink.written c.args.sink.now)
    (g.K.Sink.written c.write_slot.new.sink) (slot_line at time count)) c.count_pages.ensures
    c.in_ok-write_slot.ensures.ok in
    on_err c.write_pages.result _ _
    (λ part. prefix_after _ (g.K.Sink.written c.write_slot.new.sink) _
    (slot_line at time (length pages)) (flat_map (paging_line at) pages) line part)
    c.write_pages.ensures.err

pub returns-clause-cause : goal.returns-clause-cause
returns-clause-cause g c = grind (ints, arith, common_steps)

pub returns-clause-ok : goal.returns-clause-ok
returns-clause-ok g c = grind (ints, arith, common_steps)
