use Rattle.heard_events.proofs.Common.{◌≡◌, ◌∙◌, List, length, take, sym, ap, arith, IsInRing, softs, Data, all_fingers, on_subchannel, Leg}
use Rattle.heard_events.proofs.LegSubsets.{on_all, on_close, on_few, on_rows, on_some, on_whole}
use Rattle.heard_events.proofs.leg_softs.subchannel_softs.Goals as goal

pub leg_softs-requires : goal.leg_softs-requires
leg_softs-requires c =
    let is = c.requires.legs in
    let legs = c.args.legs.now in
    let i = c.args.subchannel in
    let paths = take c.args.near.now.count c.args.near.now.deltas in
    rw c.on_subchannel-on.ensures (record {
      legs = record {
        some = on_some i legs c.requires.has;
        few = omega (arith, on_few i legs, is.few);
        least = is.least;
        most = is.most;
        close = on_close i legs is.close;
        rows = on_rows i legs is.rows;
        held = on_all (IsInRing c.args.ring.now Data c.args.start) c.args.phase paths i legs
            is.held;
      };
    })

-- Where as many pilots are on the subchannel as there are, it is all of them that are, so its soft
-- values are those of all fingers, which are given.
pub returns-then-all-clause-value : goal.returns-then-all-clause-value
returns-then-all-clause-value c = λ heard holds.
    let legs = c.args.legs.now in
    let i = c.args.subchannel in
    let paths = take c.args.near.now.count c.args.near.now.deltas in
    let on = ap (λ (ls : List Leg). length ls) c.on_subchannel-on.ensures in
    let all : on_subchannel i legs ≡ legs =
    on_whole i legs
    (omega (arith, on, ap length c.all.ensures.value, ap length c.all-2.ensures.value, c.if-all.true)) in
    c.requires.all heard holds
    ∙ ap (λ (ls : List Leg). softs heard (all_fingers c.args.phase paths ls) Data c.args.start) (sym all)
