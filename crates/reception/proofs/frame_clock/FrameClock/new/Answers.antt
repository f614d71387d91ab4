use Rattle.reception.proofs.Common.{ℕ, sym, ap, subst, AreBegun, FrameClock, begun_first}
use Rattle.reception.proofs.frame_clock.FrameClock.new.Goals as goal

pub returns-clause-begun : goal.returns-clause-begun
returns-clause-begun c =
    let fingers = c.args.fingers.now in
    subst (λ (u : ℕ). AreBegun u fingers) (sym (ap (λ (k : FrameClock). k.start) c.from_frame-2.ensures.value))
    (begun_first c.args.form c.args.first fingers c.requires.close)
