use Rattle.cell_samples.proofs.Common.{◌≡◌, ◌/◌, ◌*◌, ap, ◌∙◌, sym, sync_capsule, message_of, sync_frame_bits, Sent, piece_within, piece_is}
use Rattle.cell_samples.proofs.sendings.Sendings.frame_bits.Goals.{After-capsule_of-capsule}
use Rattle.cell_samples.proofs.sendings.Sendings.frame_bits.Goals as goal

-- the capsule of the frame's transmission
capsule_is : (c : After-capsule_of-capsule) → let s = c.self.inside in
    c.capsule_of-capsule.result
    ≡ sync_capsule s.cell.check30 (message_of s.cell s.message (c.args.frame / (3 * s.superframes)))
capsule_is c =
    c.capsule_of-capsule.ensures.value
    ∙ ap (λ (t : Sent).
    sync_capsule t.cell.check30 (message_of t.cell t.message (c.args.frame / (3 * c.self.inside.superframes))))
    (sym c.self.view_is)

pub piece_of-requires : goal.piece_of-requires
piece_of-requires c =
    let s = c.self.inside in
    let i = c.self.invariant in
    piece_within s.cell s.message c.args.frame s.superframes _ c.capsule_of-capsule.result i.needed
    i.some (capsule_is (goal.at.piece_of-requires c).After-capsule_of-capsule)

pub returns-clause-value : goal.returns-clause-value
returns-clause-value c =
    let s = c.self.inside in
    piece_is s.cell s.message c.args.frame s.superframes c.capsule_of-capsule.result
    c.piece_of.result c.self.invariant.needed
    (capsule_is (goal.at.returns-clause-value c).After-capsule_of-capsule) c.piece_of.ensures.value
    ∙ ap (λ (t : Sent). sync_frame_bits t.cell t.message c.args.frame) c.self.view_is
