use Rattle.tuned_listener.proofs.Common.{arith, ints, common_steps, refl, on_err, on_ok}
use Rattle.tuned_listener.proofs.TunedListeners.{ready_writer, tells_frames_after, tells_cut, tells_nothing}
use Rattle.tuned_listener.proofs.tuned.TunedListener.write_frames.Goals as goal

pub hear_frames-requires-clause-ready : goal.hear_frames-requires-clause-ready
hear_frames-requires-clause-ready g c = ready_writer c.args.self.now.writer c.args.self.now.sound.ready

pub returns-in-After-clause-ok : goal.returns-in-After-clause-ok
returns-in-After-clause-ok g c =
    on_ok c.hear_frames.result _ _
    (λ writes t channel form heard is. tells_frames_after t channel form c.args.self.now heard
    c.args.samples.now _ _ is c.in-After.mark c.in-After.tuner c.in-After.is _ c.hear_frames.new.tuner
    c.hear_frames.ensures.text refl writes)
    c.hear_frames.ensures.ok

pub returns-in-After-clause-err : goal.returns-in-After-clause-err
returns-in-After-clause-err g c =
    on_err c.hear_frames.result _ _
    (λ writes t channel form heard is. tells_cut t channel form c.args.self.now heard
    c.args.samples.now _ _ is c.in-After.mark c.in-After.tuner c.in-After.is writes)
    c.hear_frames.ensures.err

pub returns-in-Ahead-clause-ok : goal.returns-in-Ahead-clause-ok
returns-in-Ahead-clause-ok g c t channel form heard is =
    tells_nothing t channel form c.args.self.now _ heard c.args.samples.now _ is
    (c.requires.all (rw c.in-Ahead.is refl)) refl refl

pub invariant_of-self-in-After : goal.invariant_of-self-in-After
invariant_of-self-in-After g c = grind (ints, arith, common_steps)
