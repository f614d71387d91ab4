use Rattle.tuned_listener.proofs.Common.{◌≡◌, Some, None, rules, subst, sym, on_ok, on_err, Appends, AppendsPrefix, HoldsFrames}
use Rattle.tuned_listener.proofs.Common.{Appends-nil}
use Rattle.tuned_listener.proofs.FrameTexts.{kept_after_none, kept_after_shown, text_of_none, text_of_shown}
use Rattle.tuned_listener.proofs.frame_writer.FrameWriter.write_shown.Goals as goal

pub returns-in-Some-clause-holds : goal.returns-in-Some-clause-holds
returns-in-Some-clause-holds g c check slot held =
    let some : c.args.shown.now ≡ Some c.in-Some.frame = search rules in
    subst (HoldsFrames c.write.new.self check) (kept_after_shown slot _ _ some) (c.write.ensures.holds check slot held)

pub returns-in-Some-clause-ok : goal.returns-in-Some-clause-ok
returns-in-Some-clause-ok g c =
    let some : c.args.shown.now ≡ Some c.in-Some.frame = search rules in
    on_ok c.write.result _ _
    (λ wrote check slot held. subst (Appends _ _) (text_of_shown _ check _ slot _ _ some) (wrote check slot held))
    c.write.ensures.ok

pub returns-in-Some-clause-err : goal.returns-in-Some-clause-err
returns-in-Some-clause-err g c =
    let some : c.args.shown.now ≡ Some c.in-Some.frame = search rules in
    on_err c.write.result _ _
    (λ part check slot held. subst (AppendsPrefix _ _) (text_of_shown _ check _ slot _ _ some) (part check slot held))
    c.write.ensures.err

pub returns-in-None-clause-holds : goal.returns-in-None-clause-holds
returns-in-None-clause-holds g c check slot held =
    let none : c.args.shown.now ≡ None = search rules in
    rw none (subst (HoldsFrames _ check) (sym (kept_after_none slot)) held)

pub returns-in-None-clause-ok : goal.returns-in-None-clause-ok
returns-in-None-clause-ok g c check slot held =
    let none : c.args.shown.now ≡ None = search rules in
    rw none (subst (Appends _ _) (sym (text_of_none _ check _ slot)) (Appends-nil _))
