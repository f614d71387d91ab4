-- A list whose last entry changes, as the channel under way does.
use Rattle.cell_script.proofs.Common.{◌≡◌, List, [], ◌∷◌, ◌++◌, refl, sym, ap, ◌∙◌, Result, Ok, Err, OnOk, on_last}

pub on_last-last : {A : Type 0} (change : A → A) (before : List A) (last : A) →
    on_last change (before ++ last ∷ []) ≡ before ++ change last ∷ []
on_last-last {A} change (x ∷ (y ∷ before)) last = ap (λ (xs : List A). x ∷ xs) (on_last-last change (y ∷ before) last)
on_last-last change before last = refl

pub push_changed : {A E : Type 0} (r : Result (Unit {0}) E) (change : A → A) (old before new : List A)
    (last changed : A) → old ≡ before ++ last ∷ [] → changed ≡ change last → OnOk r (new ≡ before ++ changed ∷ []) →
    OnOk r (new ≡ on_last change old)
push_changed {A} (Ok u) change old before new last changed old_is changed_is new_is =
    new_is
    ∙ ap (λ (x : A). before ++ x ∷ []) changed_is
    ∙ sym (on_last-last change before last)
    ∙ sym (ap (on_last change) old_is)
push_changed (Err e) change old before new last changed old_is changed_is new_is = tt
