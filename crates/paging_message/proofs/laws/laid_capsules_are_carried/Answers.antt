use Rattle.paging_message.proofs.Common.{◌++◌, length, replicate, false, sym, ap, ◌∙◌, half_frame_body, fill}
use Rattle.paging_message.proofs.Carried.{laid_is_carried, rate_large}
use Rattle.paging_message.proofs.Layings.{padded_framed}
use Rattle.paging_message.proofs.laws.laid_capsules_are_carried.Goals as goal

pub returns-clause-padded : goal.returns-clause-padded
returns-clause-padded c layout l bits large laid =
    padded_framed layout.size l large
    ∙ ap (λ r. r ++ replicate (fill layout.size (length l.body)) false) (sym laid.spelled)

pub returns-clause-carried : goal.returns-clause-carried
returns-clause-carried c rate puts is lawful = laid_is_carried (half_frame_body rate) puts (rate_large rate) lawful
