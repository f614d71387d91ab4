use Rattle.cdma_replay.proofs.Common.{refl, by_vtable, four_forms, run_with}
use Rattle.cdma_replay.proofs.program.run_args.OwnLists.{own-1}
use Rattle.cdma_replay.proofs.program.run_args.Goals as goal

-- each box has the form of the tap that it was made of
pub returns-clause-ran : goal.returns-clause-ran
returns-clause-ran g c =
    run_with
    (four_forms _ _ _ _ _ _ _ _ _ _ c.in_ok-taps.ensures.items c.in_ok-push.ensures.items
    c.in_ok-push-2.ensures.items c.in_ok-push-3.ensures.items c.in_ok-push-4.ensures.items
    (by_vtable (λ i v. (own-1.entry i).1.shape v) _ _ 0 _
    c.into_dyn_box.ensures.0 (λ w. refl))
    (by_vtable (λ i v. (own-1.entry i).1.shape v) _ _ 1 _
    c.into_dyn_box-in_ok-new-2.ensures.0 (λ w. refl))
    (by_vtable (λ i v. (own-1.entry i).1.shape v) _ _ 2 _
    c.into_dyn_box-in_ok-new-3.ensures.0 (λ w. refl))
    (by_vtable (λ i v. (own-1.entry i).1.shape v) _ _ 3 _
    c.into_dyn_box-in_ok-new-4.ensures.0 (λ w. refl)))
    c.run_tapped.ensures.ran
