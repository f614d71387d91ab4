use Rattle.event_tap.proofs.Common.{common_steps, ints, rules, ◌≤◌, ◌<◌, arith, length, None}
use Rattle.std.proofs.lemmas.Result.{err_from_is_err_and}
use Rattle.event_tap.proofs.TapLists.{has_heard, hearing_kept, hearing_done, hearing_failed, hearing_none, unwritten, All-seen-back}
use Rattle.event_tap.proofs.taps.hear_all.Goals.{in-Keep, in-Done}
use Rattle.event_tap.proofs.taps.hear_all.Goals as goal

pub loop-place-init : goal.loop-place-init
loop-place-init g c = (hearing_none _ _ _ _ _ c.requires, omega arith)

-- One tap more has heard the event: its line is written after the text so far, and it stays where
-- it has events left to hear, and is removed where it has none. The taps that are still to hear are
-- then those after it.
pub loop-place-preserved : goal.loop-place-preserved
loop-place-preserved g c =
    let inv = c.loop-place.invariant in
    let index : c.loop-place.place < length c.loop-place.taps.items = search rules in
    let is = c.hear-heard.ensures in
    let heard = has_heard g.T.Tap.shape g.T.Tap.left c.args.event.now c.index_mut.result.now
    c.hear-heard.new.self _ _ _ c.bytes.ensures.value is.text is.form is.left is.heard in
    let more = c.in_ok-gave.ensures.ok in
    let later : g.K.Sink.faults c.args.sink.now ≤ g.K.Sink.faults c.write_all-gave.new.sink =
    omega (arith, inv.1, c.write_all-gave.ensures.cause.later) in
    elim c.match-heard.branch [
      | in-Keep w ↦ (
        rw (w.taps-is, w.place-is)
            (hearing_kept _ _ _ _ _ _ _ _ _ _ _ _ _ inv.0 heard index c.index_mut.ensures.value
            w.in-Keep.is more),
        later,
      )
      | in-Done w ↦ (
        rw (w.taps-is, w.place-is, w.remove.ensures.items)
            (hearing_done _ _ _ _ _ _ _ _ _ _ _ _ _ inv.0 heard index c.index_mut.ensures.value
            w.in-Done.is more),
        later,
      )
    ]

-- Where writing a tap's line fails, every tap in the list still has events left to hear: which taps
-- stay depends only on the event, not on what was written.
pub returns-in_err-gave-clause-kept : goal.returns-in_err-gave-clause-kept
returns-in_err-gave-clause-kept g c =
    let inv = c.loop-place.invariant in
    let alone = unwritten g.T.Tap.shape g.T.Tap.left c.args.event.now _ _ _ _ _ inv.0 in
    let index : c.loop-place.place < length c.loop-place.taps.items = search rules in
    let is = c.hear-heard.ensures in
    let heard = has_heard g.T.Tap.shape g.T.Tap.left c.args.event.now c.index_mut.result.now
    c.hear-heard.new.self _ _ _ c.bytes.ensures.value is.text is.form is.left is.heard in
    elim c.match-heard.branch [
      | in-Keep w ↦
          rw w.taps-is
          (All-seen-back g.T.Tap.shape g.T.Tap.left _
          (hearing_kept _ _ _ None None None _ _ _ _ _ _ _ alone heard index
          c.index_mut.ensures.value w.in-Keep.is tt).kept)
      | in-Done w ↦
          rw (w.taps-is, w.remove.ensures.items)
          (All-seen-back g.T.Tap.shape g.T.Tap.left _
          (hearing_done _ _ _ None None None _ _ _ _ _ _ _ alone heard index
          c.index_mut.ensures.value w.in-Done.is tt).kept)
    ]

-- Where writing a tap's line fails, the sink has a beginning of the event's text: the lines of all
-- taps before it whole, and of its own line a part.
pub returns-in_err-gave-clause-err : goal.returns-in_err-gave-clause-err
returns-in_err-gave-clause-err g c =
    let inv = c.loop-place.invariant in
    let index : c.loop-place.place < length c.loop-place.taps.items = search rules in
    let is = c.hear-heard.ensures in
    let heard = has_heard g.T.Tap.shape g.T.Tap.left c.args.event.now c.index_mut.result.now
    c.hear-heard.new.self _ _ _ c.bytes.ensures.value is.text is.form is.left is.heard in
    let p = err_from_is_err_and c.from_residual.result c.from_residual.ensures.1 in
    rw p.1 (hearing_failed _ _ _ _ _ _ _ _ _ _ _ _ _ inv.0 heard index c.index_mut.ensures.value
    c.in_err-gave.ensures.err)

pub returns-clause-kept : goal.returns-clause-kept
returns-clause-kept g c = All-seen-back g.T.Tap.shape g.T.Tap.left c.loop-place.taps.items c.loop-place.invariant.0.kept

pub loop-place-smaller : goal.loop-place-smaller
loop-place-smaller g c = grind (ints, arith, common_steps)

pub returns-clause-following : goal.returns-clause-following
returns-clause-following g c = grind (ints, arith, common_steps)

pub returns-clause-ok : goal.returns-clause-ok
returns-clause-ok g c = grind (ints, arith, common_steps)
