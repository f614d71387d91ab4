use Rattle.tuned_listener.proofs.Common.{◌++◌, take, take_rest, on_err, on_ok}
use Rattle.tuned_listener.proofs.TunedListeners.{cut_after, tells_after}
use Rattle.tuned_listener.proofs.tuned.TunedListener.hear.Goals as goal

-- What is written is what all samples add to the text: those up to the mark add nothing to it, and
-- what those after the mark add is what their frames are written as.
pub returns-clause-ok : goal.returns-clause-ok
returns-clause-ok g c =
    let samples = c.args.samples.now in
    let taken = c.reach_mark-taken.result in
    let reached = c.reach_mark-taken.ensures in
    on_ok c.write_frames.result _ _
    (λ tells t channel form heard is. tells_after t channel form heard samples _ taken _ _
    (take_rest samples taken) (reached.silent t channel form heard is) c.write_frames.new.self
    (tells t channel form (heard ++ take taken samples) (reached.listens t channel form heard is)))
    c.write_frames.ensures.ok

-- Where writing fails, the sink has a beginning of what all samples add to the text: those up to
-- the mark add nothing, so it is a beginning of what those after the mark add.
pub returns-clause-err : goal.returns-clause-err
returns-clause-err g c =
    let samples = c.args.samples.now in
    let taken = c.reach_mark-taken.result in
    let reached = c.reach_mark-taken.ensures in
    on_err c.write_frames.result _ _
    (λ tells t channel form heard is. cut_after t channel form heard samples _ taken _ _
    (take_rest samples taken) (reached.silent t channel form heard is)
    (tells t channel form (heard ++ take taken samples) (reached.listens t channel form heard is)))
    c.write_frames.ensures.err
