use Rattle.run_replies.proofs.Common.{rules, ◌≡◌}
use Rattle.run_replies.proofs.handset.boxed_handset.Goals as goal

pub returns-clause-given : goal.returns-clause-given
returns-clause-given c first found near =
    let boxed : c.in_ok-new.field-0.value ≡ c.in_ok-mobile.mobile = search rules in
    rw boxed (c.in_ok-mobile.ensures.given first found near)
