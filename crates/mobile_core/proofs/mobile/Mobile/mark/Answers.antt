use Rattle.mobile_core.proofs.Common.{◌∙◌, sym}
use Rattle.mobile_core.proofs.MarkAhead.{mark_ahead, mark_is, marked_all}
use Rattle.mobile_core.proofs.mobile.Mobile.mark.Goals as goal

pub returns-clause-set : goal.returns-clause-set
returns-clause-set c = λ t heard given st m e.
    mark_is t c.args.self.now heard given st m (sym c.mark.ensures ∙ e)

pub returns-clause-mark : goal.returns-clause-mark
returns-clause-mark c = λ t heard st.
    c.mark.ensures ∙ sym (marked_all t c.args.self.now heard st)

pub returns-clause-ahead : goal.returns-clause-ahead
returns-clause-ahead c = λ t heard given event st here none m e.
    mark_ahead t c.args.self.now heard given event st here none m (sym c.mark.ensures ∙ e)
