use Rattle.run_replies.proofs.Common.{rules, length, ◌≡◌}
use Rattle.run_replies.proofs.Handsets.{fresh_given, if_ok}
use Rattle.run_replies.proofs.handset.open_handset.Goals as goal

pub returns-clause-given : goal.returns-clause-given
returns-clause-given c first found near =
    let paths = c.args.near in
    let long : length paths.deltas ≡ 3 = search rules in
    if_ok c.new.result _ _
    (λ mobile stands. fresh_given c.args.settings first c.args.best paths mobile found long near
    c.requires.near stands)
    c.new.ensures.stands
