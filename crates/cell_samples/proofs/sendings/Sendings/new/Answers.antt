use Rattle.cell_samples.proofs.Common.{◌≡◌, ap, ◌∙◌, superframes_of, sync_capsule, SyncFields, superframes_a_sending, superframes_some}
use Rattle.cell_samples.proofs.Common.{superframes_few}
use Rattle.cell_samples.proofs.sendings.Sendings.new.Goals as goal

pub invariant_of-result : goal.invariant_of-result
invariant_of-result c =
    let cell = c.args.cell.now in
    let m = c.args.message.now in
    let needed : c.superframes_for-superframes.result ≡ superframes_a_sending cell m =
    c.superframes_for-superframes.ensures ∙ ap superframes_of c.capsule_for.ensures in
    record {
      sendable = c.requires;
      needed = needed;
      some = rw needed (superframes_some cell.check30 m);
      few = rw needed (superframes_few cell.check30 m c.requires.message);
      spelled = c.capsule_for-2.ensures
          ∙ ap (λ (n : SyncFields). sync_capsule cell.check30 n)
          c.message_for-first.ensures.value;
    }
