use Rattle.tuned_listener.proofs.Common.{arith, ints, common_steps, ◌≡◌, ◌⊎◌, ◌≤◌, ◌+◌, ◌*◌, ◌∙◌, ℕ, ap, length, refl, rules, sym}
use Rattle.tuned_listener.proofs.SlotFrames.{holds_put, ready_put}
use Rattle.tuned_listener.proofs.slot_writer.SlotWriter.keep.Goals.{After-copy_from_slice}
use Rattle.tuned_listener.proofs.slot_writer.SlotWriter.keep.Goals as goal

-- the frame's soft values have their room, at the first place or after those that are kept
placed : (c : After-copy_from_slice) → let w = c.args.self.now in
    (length c.copy_from_slice.new.self ≡ 384) × (384 * c.from-from.result ≤ length w.softs)
    × ((c.from-from.result ≡ 0) ⊎ (c.from-from.result ≡ w.kept))
placed c =
    let long : length c.copy_from_slice.new.self ≡ 384 = search rules in
    let room : 384 * c.from-from.result ≤ length c.args.self.now.softs = search rules in
    (long, room, rw c.from-from.ensures (c.goes_on.ensures.0 c.if-not-goes_on.false))

pub returns-clause-ready : goal.returns-clause-ready
returns-clause-ready c =
    let (long, room, which) = placed (goal.at.returns-clause-ready c).After-copy_from_slice in
    ready_put c.args.self.now _ c.from-from.result _ c.copy_from_slice.new.self
    c.args.frame.now.descrambled which c.copy_from_slice.ensures.after
    long room c.requires.small refl refl (ap (λ (n : ℕ). n + 1) (sym c.from-from.ensures)) refl
    (search rules) c.requires.ready

pub returns-clause-holds : goal.returns-clause-holds
returns-clause-holds c = λ slot holds.
    let (long, room, which) = placed (goal.at.returns-clause-holds c).After-copy_from_slice in
    holds_put c.args.self.now _ slot c.args.frame.now c.from-from.result _
    c.copy_from_slice.new.self (c.from-from.ensures ∙ c.place_in_slot-place.ensures) which
    c.copy_from_slice.ensures.after long room (ap (λ (n : ℕ). n + 1) (sym c.from-from.ensures)) refl
    holds

pub copy_from_slice-requires : goal.copy_from_slice-requires
copy_from_slice-requires c = grind (ints, arith, common_steps)
