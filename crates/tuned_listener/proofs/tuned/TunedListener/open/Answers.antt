use Rattle.tuned_listener.proofs.Common.{arith, ints, common_steps, [], refl, none_marked}
use Rattle.tuned_listener.proofs.TunedListeners.{holds_nothing}
use Rattle.tuned_listener.proofs.TunedMarks.{stands_near}
use Rattle.tuned_listener.proofs.tuned.TunedListener.open.Goals as goal

pub returns-clause-listens : goal.returns-clause-listens
returns-clause-listens c t stands phase deltas =
    let near = stands_near t c.args.mobile [] [] stands in
    record {
      form_is = c.in_ok-writer.ensures.text;
      close = near;
      holds = holds_nothing t c.args.channel c.in_ok-writer.writer _ near
          (c.check30.ensures t [] [] stands) c.in_ok-writer.ensures.holds;
      listens = record {
        opens = record { phase_is = phase; deltas_are = deltas; channel_is = refl };
        ahead = record { has = record { given = []; stands = stands; unset = refl }; unmarked = none_marked t near };
      };
    }

pub invariant_of-result : goal.invariant_of-result
invariant_of-result c = grind (ints, arith, common_steps)
