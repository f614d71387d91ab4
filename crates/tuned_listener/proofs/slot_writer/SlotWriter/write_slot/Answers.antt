use Rattle.tuned_listener.proofs.Common.{ints, common_steps, ◌≡◌, true, length, rules, arith, sym, subst, Some, None, nat_lt, if◌then◌else◌}
use Rattle.tuned_listener.proofs.Common.{Appends, List, SoftFrame, HoldsSlot, AppendsPrefix, paging_rate, is_monitored, on_err, on_ok}
use Rattle.tuned_listener.proofs.HeardSlots.{slot_told, spans_small}
use Rattle.tuned_listener.proofs.slot_writer.SlotWriter.write_slot.Goals as goal

pub slot_bits-bits-requires-clause-bound : goal.slot_bits-bits-requires-clause-bound
slot_bits-bits-requires-clause-bound g c =
    spans_small c.args.self.now.softs
    (λ frame below. c.requires.ready.small frame (omega (arith, below, c.requires.whole)))

-- What is written of a slot is the text that is defined of it, or a beginning of it where writing
-- fails: the handset is awake in the slot, the soft values that are kept are those of its four
-- frames, and its pages are read at the rate that the mark tells.
pub returns : goal.returns
returns g c =
    let w = c.args.self.now in
    let m = c.args.mark.now in
    let long : length w.softs ≡ 1536 = search rules in
    let awake : is_monitored c.slot_time-time.result w.key w.cycle ≡ true = c.in-Some-Some.ensures.0 in
    let told : (if nat_lt m.prat 2 then Some (paging_rate m.prat) else None)
    ≡ Some c.in-Some-Some.rate = search rules in
    let text = λ (slot : List SoftFrame) (holds : HoldsSlot w slot).
    slot_told w w.key w.cycle w.check m slot c.args.frame.now c.slot_time-time.result
    c.in-Some-Some.rate c.slot_bits-bits.result holds c.requires.whole long c.slot_time-time.ensures
    awake told c.slot_bits-bits.ensures.value in
    record {
      same = search rules;
      ok = on_ok c.write_lines.result _ _
          (λ written slot holds. subst (Appends (g.K.Sink.written c.args.sink.now)
          (g.K.Sink.written c.write_lines.new.sink)) (sym (text slot holds)) written)
          c.write_lines.ensures.ok;
      err = on_err c.write_lines.result _ _
          (λ part slot holds. subst (AppendsPrefix (g.K.Sink.written c.args.sink.now)
          (g.K.Sink.written c.write_lines.new.sink)) (sym (text slot holds)) part)
          c.write_lines.ensures.err;
      cause = c.write_lines.ensures.cause;
    }

pub write_lines-requires : goal.write_lines-requires
write_lines-requires g c = grind (ints, arith, common_steps)
