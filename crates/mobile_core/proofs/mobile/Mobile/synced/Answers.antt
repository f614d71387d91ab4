use Rattle.mobile_core.proofs.Common.{◌∙◌, sym, ap, is_some}
use Rattle.mobile_core.proofs.MarkAhead.{marked_all}
use Rattle.mobile_core.proofs.mobile.Mobile.synced.Goals as goal

pub returns-clause-mark : goal.returns-clause-mark
returns-clause-mark c = λ t heard st.
    c.is_some.ensures ∙ ap is_some (c.mark.ensures ∙ sym (marked_all t c.args.self.now heard st))
