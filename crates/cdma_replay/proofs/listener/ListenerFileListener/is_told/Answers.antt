use Rattle.cdma_replay.proofs.Common.{◌≡◌, true, refl, subst, Listening, Listens, is_told, Listener}
use Rattle.cdma_replay.proofs.Hearings.{on_handset, on_tuned, on_unheard}
use Rattle.cdma_replay.proofs.listener.ListenerFileListener.is_told.Goals as goal

pub returns-in-Unheard : goal.returns-in-Unheard
returns-in-Unheard c l kept heard is =
    on_unheard (λ (m : Listening). true ≡ is_told m heard) l _ kept heard
    (subst (λ (h : Listener). Listens l h kept heard) c.in-Unheard.is is) (λ text. refl)

pub returns-in-Handset : goal.returns-in-Handset
returns-in-Handset c l kept heard is =
    on_handset (λ (l : Listening). c.synced.result ≡ is_told l heard) l c.in-Handset.mobile kept heard
    (subst (λ (h : Listener). Listens l h kept heard) c.in-Handset.is is)
    (λ t taps stands following. c.synced.ensures.mark t heard (rw c.deref.ensures stands))

pub returns-in-Tuned : goal.returns-in-Tuned
returns-in-Tuned c l kept heard is =
    on_tuned (λ (l : Listening). c.is_told.result ≡ is_told l heard) l c.in-Tuned.tuned kept heard
    (subst (λ (h : Listener). Listens l h kept heard) c.in-Tuned.is is)
    (λ t channel text listens. c.is_told.ensures t channel text heard (rw c.deref-in-Tuned.ensures listens))
